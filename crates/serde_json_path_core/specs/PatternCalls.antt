-- The calls of a query by a pattern that `regex` reads: only these may be refused for their pattern.
use Rattle.std.specs.Prelude.{◌≡◌, List, Some}
use Rattle.serde_json_path_core.specs.Imports.{Data, Step, at, IsIn, Query, Call, call, calls_of, Term, FunctionSet, MayRefuse}
use Rattle.serde_json_path_core.specs.Meaning.{params_of, AreArguments}

-- the value stands at some location of the document
abbrev pub StandsIn : Data → Data → Type 0
StandsIn top v = ∥ ((location : List Step) × (at top location ≡ Some v)) ∥₁

module _ (F : FunctionSet) (top : Data) where
  -- with `@` at some value of the document, the call's name means `match` or `search`, and its arguments are two texts, of which
  -- `regex` reads the second (RFC 9535, sections 2.4.6 and 2.4.7)
  abbrev pub GoesByPattern : Call → Type 0
  GoesByPattern (call f args) =
      (v : Data) × StandsIn top v
      × ((ts : List Term) × AreArguments F top args (params_of (F.signature f)) v ts × MayRefuse (F.by_regex f) ts)

  -- some call of the query does so
  abbrev pub CallsByPattern : Query → Type 0
  CallsByPattern q = (c : Call) × IsIn c (calls_of q) × GoesByPattern c
