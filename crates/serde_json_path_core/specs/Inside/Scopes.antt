-- What all parts of an evaluation share, and what it asks of the query.
use Rattle.std.specs.Prelude.{ℕ, List, Option}
use Rattle.serde_json_path_core.specs.Imports.{Signature, FunctionSet, with_rule, rule_of, Query, Call, OfEach, calls_of, IsIn, Data, view, nodes_in, tree_of, Node}
use Rattle.serde_json_path_core.specs.PatternCalls.{CallsByPattern}
use Rattle.serde_json_path_core.specs.declared.evaluation.scope.Scope.{Scope}

-- ---- what the evaluation of a part of a query stands on: the part is well-typed, and its calls are calls of the query

-- the calls are calls of the query
unfoldable pub AreCallsOf : Query → List Call → Type 0
AreCallsOf q calls = OfEach (λ c. IsIn c (calls_of q)) calls

-- the part is well-typed under the set, and its calls are calls of the query
abbrev pub IsSound : {A : Type 0} → FunctionSet → Query → ((List ℕ → Option Signature) → A → Type 0) → (A → List Call) → A → Type 0
IsSound F q typed calls part = typed F.signature part × AreCallsOf q (calls part)

-- ---- what an evaluation goes by

-- the nodes of the query's tree
abbrev pub nodes_of : {F : Type 0} {g : _} → Scope F g → List Node
nodes_of scope = nodes_in scope.query.now

-- the query
abbrev pub query_of : {F : Type 0} {g : _} → Scope F g → Query
query_of scope = tree_of scope.query.now

-- the document
abbrev pub top_of : {F : Type 0} {g : _} → Scope F g → Data
top_of scope = view scope.root.now

-- the function set, with the query's rule for numbers
abbrev pub set_of : {F : Type 0} {g : _} → Scope F g → FunctionSet
set_of {F} {g} scope = with_rule (rule_of scope.query.now) (g.set scope.functions)

-- some call of the query goes by a pattern that `regex` reads
abbrev pub MayRefuse : {F : Type 0} {g : _} → Scope F g → Type 0
MayRefuse scope = CallsByPattern (set_of scope) (top_of scope) (query_of scope)
