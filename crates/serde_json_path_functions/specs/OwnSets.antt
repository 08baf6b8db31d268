-- What it takes that a set of your own keeps its types and its patterns.
use Rattle.std.proofs.Common.{◌≡◌, ◌≤◌, List, [], ◌∷◌, length, map, Option, Some, ap, ◌∙◌, refl, subst}
use Rattle.std.proofs.lemmas.Option.{same_Some}
use Rattle.serde_json.specs.Data.{string}
use Rattle.serde_json_path_functions.specs.Functions.{Signature, Term, value, of_logical, Matching, kind_of_term, Takes, matching_signature}
use Rattle.serde_json_path_functions.specs.Patterns.{pattern_meaning, meaning_by}

-- a name of this signature, which may be none, has at most eight parameters, and its meaning is of the type that it gives
abbrev pub Keeps : Option Signature → (List Term → Term) → Type 0
Keeps declared meaning =
    (s : Signature) → declared ≡ Some s
    → (length s.params ≤ 8) × ((ts : List Term) → map kind_of_term ts ≡ s.params → kind_of_term (meaning ts) ≡ s.result)

-- a declared name does, if its meaning is always of the type that it gives
pub declared_keeps : (declared : Signature) (meaning : List Term → Term) → length declared.params ≤ 8
    → ((ts : List Term) → kind_of_term (meaning ts) ≡ declared.result) → Keeps (Some declared) meaning
declared_keeps declared meaning few typed s e =
    let same = same_Some declared s e in (subst (λ x. length x.params ≤ 8) same few, λ ts h. typed ts ∙ ap (λ x. x.result) same)

-- A name has this signature and meaning, and stands for `match`, for `search` or for neither. If it stands for one, then the
-- signature is theirs, and the meaning is what `regex` finds.
abbrev pub KeepsPattern : Option Signature → Option Matching → (List Term → Term) → Type 0
KeepsPattern declared standing meaning =
    (matching : Matching) → standing ≡ Some matching
    → (declared ≡ Some matching_signature)
    × ((ts : List Term) → Takes (Some matching_signature) ts → meaning ts ≡ pattern_meaning matching ts)

-- what `match` and `search` mean is of the type that they give, and is kept
pub pattern_typed : (matching : Matching) (ts : List Term) → kind_of_term (pattern_meaning matching ts) ≡ of_logical
pattern_typed matching (value (Some (string text)) ∷ value (Some (string pattern)) ∷ []) = refl
pattern_typed matching _ = refl

pub pattern_kept : (matching : Matching) (plain : List Term → Term)
    → KeepsPattern (Some matching_signature) (Some matching) (λ ts. meaning_by (Some matching) (plain ts) ts)
pattern_kept matching plain other same = (refl, λ ts h. ap (λ m. pattern_meaning m ts) (same_Some matching other same))
