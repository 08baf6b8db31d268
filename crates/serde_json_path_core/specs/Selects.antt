-- What the calls that evaluate promise: which nodes are selected, and when a call is refused.
use Rattle.std.specs.Prelude.{◌≡◌, List, map, Result, IfErr}
use Rattle.serde_json_path_core.specs.Imports.{Data, Located, FunctionSet, QueryError, Pattern, Query}
use Rattle.serde_json_path_core.specs.PatternCalls.{CallsByPattern}
use Rattle.serde_json_path_core.specs.Meaning.{IsResult}

-- the nodes are the query's result in the document (RFC 9535, section 2.1.2)
abbrev pub Selects : FunctionSet → Query → Data → List Located → Type 0
Selects F q document nodes = IsResult F document q document nodes

-- the values are those of the query's result in the document, in order
abbrev pub SelectsValues : FunctionSet → Query → Data → List Data → Type 0
SelectsValues F q document values =
    (nodes : List Located) × IsResult F document q document nodes × (values ≡ map (λ n. n.value) nodes)

-- `Pattern` comes only of a query that calls by a pattern which `regex` reads; every other error is `Memory`
abbrev pub OnlyMemoryOrPattern : {A : Type 0} → FunctionSet → Query → Data → Result A QueryError → Type 0
OnlyMemoryOrPattern F q document result = IfErr result (λ e. e ≡ Pattern → CallsByPattern F document q)
