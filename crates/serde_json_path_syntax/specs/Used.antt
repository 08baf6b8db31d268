-- The names that a query calls, each with the signature under which the query is well-typed; the limit of its depth.
use Rattle.std.specs.Prelude.{◌≡◌, ◌≢◌, ◌≤◌, ◌↔◌, ℕ, List, [], ◌∷◌, map, filter, not, Option, Some, None, if◌then◌else◌, bytes_eq}
use Rattle.serde_json_path_syntax.specs.Tree.{Query, root, kind_of}
use Rattle.serde_json_path_functions.specs.Functions.{Signature}
use Rattle.serde_json_path_syntax.specs.Lists.{IsIn, IsInOrder}
use Rattle.serde_json_path_syntax.specs.Typing.{IsTyped}
use Rattle.serde_json_path_syntax.specs.Depth.{depth}
use Rattle.serde_json_path_syntax.specs.Calls.{calls_of, names_of}

-- the names of a list
abbrev pub names_in : List (List ℕ × Signature) → List (List ℕ)
names_in used = map (λ (u : List ℕ × Signature). u.0) used

-- the signature that the list has for a name: that of its first place
abbrev pub signature_in : List (List ℕ × Signature) → List ℕ → Option Signature
signature_in [] f = None
signature_in (used ∷ more) f = if bytes_eq used.0 f then Some used.1 else signature_in more f

-- each name at its first place alone
abbrev pub each_once : List (List ℕ × Signature) → List (List ℕ × Signature)
each_once [] = []
each_once (used ∷ more) = used ∷ filter (λ (u : List ℕ × Signature). not (bytes_eq u.0 used.0)) (each_once more)

-- each of these names has that signature
abbrev pub AreDeclared : (List ℕ → Option Signature) → List (List ℕ × Signature) → Type 0
AreDeclared signature used = (u : List ℕ × Signature) → IsIn u used → signature u.0 ≡ Some u.1

-- the query calls the name
abbrev pub Calls : Query → List ℕ → Type 0
Calls q f = IsIn f (names_of (calls_of q))

-- the list has each name that the query calls, and no other
abbrev pub AreNamesOf : List (List ℕ × Signature) → Query → Type 0
AreNamesOf used q = (f : List ℕ) → IsIn f (names_in used) ↔ Calls q f

-- the same, and each name once
abbrev pub AreCalled : List (List ℕ × Signature) → Query → Type 0
AreCalled used q = IsInOrder (λ (a b : List ℕ × Signature). a.0 ≢ b.0) used × AreNamesOf used q

-- how many filters, parentheses and calls may stand within each other
abbrev pub deepest : ℕ
deepest = 128

-- A query from the root, no deeper than the limit, that calls the names of these calls and no other. A name always has the
-- same signature, and the query is well-typed under these signatures.
pub record MayFinish (calls : List (List ℕ × Signature)) (q : Query) : Type 0 where
  pub rooted : kind_of q ≡ root
  pub typed : IsTyped (signature_in calls) q
  pub within_depth : depth q ≤ deepest
  pub called : AreNamesOf calls q
  pub agreed : AreDeclared (signature_in calls) calls
