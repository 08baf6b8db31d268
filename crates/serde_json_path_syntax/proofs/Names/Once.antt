-- Names that a query calls, each once.
use Rattle.serde_json_path_syntax.proofs.Words.{List, [], ◌∷◌, ◌++◌, inl, inr, refl, arith, ◌≡◌, ◌≢◌, ◌↔◌, ℕ, not, Bool, true, false, Option, Some, bytes_eq, sym, ap, subst, ◌∙◌, true≢false, Call, call, Query, OfEach, calls_from, calls_in_arguments, IsIn, IsInOrder, cases_Bool, nat_tests, none-some, same_Some, Signature, FunctionSet, Fits, AreCalled, AreDeclared, AreNamesOf, each_once, names_in, signature_in, bytes_eq-Decides}
use Rattle.std.proofs.Common.{filter}
use Rattle.serde_json_path_syntax.proofs.Lists.{in_append, in_keep, in_map, in_order-keep, map_in}

-- ---- what holds of each call that a part makes holds of each that a part of it makes

-- a call is one of those that it makes
pub in_from : (c : Call) → IsIn c (calls_from c)
in_from (call f args) = (in_append (call f args) (calls_in_arguments args) (call f args ∷ [])).1 (inr (inl refl))

-- what holds of each of two lists joined holds of each of both
pub of_both : (Fact : Call → Type 0) (xs ys : List Call) → OfEach Fact (xs ++ ys) → OfEach Fact xs × OfEach Fact ys
of_both Fact xs ys each = (λ c i. each c ((in_append c xs ys).1 (inl i)), λ c i. each c ((in_append c xs ys).1 (inr i)))

-- ---- a list of names with their signatures, and the same with each name at its first place alone

abbrev Named : Type 0
Named = List ℕ × Signature

-- the pair has another name than f
abbrev is_other : List ℕ → Named → Bool
is_other f u = not (bytes_eq u.0 f)

differs : (u : Named) (f : List ℕ) → is_other f u ≡ true → u.0 ≢ f
differs u f h same = true≢false (sym h ∙ ap not ((bytes_eq-Decides u.0 f).1 same))

-- ---- what the two lists have in common

-- what is in the shorter list is in the longer one
pub once_in : (used : List Named) (u : Named) → IsIn u (each_once used) → IsIn u used
once_in [] u i = i
once_in (v ∷ used) u (inl e) = inl e
once_in (v ∷ used) u (inr i) = inr (once_in used u ((in_keep (is_other v.0) u (each_once used)).0 i).0)

-- each name is in both
named_once : (used : List Named) (f : List ℕ) → IsIn f (names_in used) → IsIn f (names_in (each_once used))
named_once [] f i = i
named_once (v ∷ used) f (inl e) = inl e
named_once (v ∷ used) f (inr i) =
    let h = (in_map (λ (u : Named). u.0) f (each_once used)).0 (named_once used f i) in
    elim (cases_Bool (bytes_eq h.0.0 v.0)) [
      | inl same ↦ inl (h.2 ∙ (bytes_eq-Decides h.0.0 v.0).0 same)
      | inr other ↦ inr ((in_map (λ (u : Named). u.0) f (filter (is_other v.0) (each_once used))).1
          (h.0, (in_keep (is_other v.0) h.0 (each_once used)).1 (h.1, ap not other), h.2))
    ]

-- another name keeps its signature where those of one name are left out
signature-without : (used : List Named) (g f : List ℕ) → bytes_eq g f ≡ false → signature_in (filter (is_other g) used) f ≡ signature_in used f
signature-without [] g f other = refl
signature-without (u ∷ used) g f other = grind (arith, nat_tests, other, (bytes_eq-Decides u.0 g).0, signature-without used g f other)

-- and the signature of a name is the same in both
pub signature-once : (used : List Named) (f : List ℕ) → signature_in (each_once used) f ≡ signature_in used f
signature-once [] f = refl
signature-once (u ∷ used) f = grind (arith, nat_tests, signature-without (each_once used) u.0 f, signature-once used f)

-- ---- each name once

once_apart : (used : List Named) → IsInOrder (λ (a b : Named). a.0 ≢ b.0) (each_once used)
once_apart [] = tt
once_apart (u ∷ used) = (
  λ v i e. differs v u.0 ((in_keep (is_other u.0) v (each_once used)).0 i).1 (sym e),
  in_order-keep (λ (a b : Named). a.0 ≢ b.0) (is_other u.0) (each_once used) (once_apart used),
)

-- the names that a query calls, each once
pub called_once : (used : List Named) (q : Query) → AreNamesOf used q → AreCalled (each_once used) q
called_once used q names = (
  once_apart used,
  λ f. (
    λ i. let h = (in_map (λ (u : Named). u.0) f (each_once used)).0 i in (names f).0 (subst (λ g. IsIn g (names_in used)) (sym h.2) (map_in (λ (u : Named). u.0) h.0 used (once_in used h.0 h.1))),
    λ i. named_once used f ((names f).1 i),
  ),
)

-- ---- signatures

-- the name and signature that are found are in the list
pub found_in : (used : List Named) (f : List ℕ) (s : Signature) → signature_in used f ≡ Some s → IsIn (f, s) used
found_in [] f s e = absurd (none-some s e)
found_in (u ∷ used) f s e = elim (cases_Bool (bytes_eq u.0 f)) [
  | inl same ↦ inl (λ i. (sym ((bytes_eq-Decides u.0 f).0 same) i, sym (same_Some u.1 s (rw same at e)) i))
  | inr other ↦ inr (found_in used f s (rw other at e))
]

-- a name of the list has a signature there
pub named_known : (used : List Named) (f : List ℕ) → IsIn f (names_in used) → (s : Signature) × (signature_in used f ≡ Some s)
named_known [] f i = absurd i
named_known (u ∷ used) f i = elim (cases_Bool (bytes_eq u.0 f)) [
  | inl same ↦ (u.1, rw same refl)
  | inr other ↦ rw other (elim i [
    | inl e ↦ absurd (true≢false (sym ((bytes_eq-Decides u.0 f).1 (sym e)) ∙ other))
    | inr later ↦ named_known used f later
  ])
]

-- where each name of the list is declared, the list has for a name what is declared
pub declared_known : (signature : List ℕ → Option Signature) (used : List Named) → AreDeclared signature used → (f : List ℕ) (s : Signature) → IsIn f (names_in used) → signature f ≡ Some s
    → signature_in used f ≡ Some s
declared_known signature used declared f s i e =
    let known = named_known used f i in
    known.1 ∙ sym (declared (f, known.0) (found_in used f known.0 known.1)) ∙ e

-- ---- what fits

pub fits_each : (F : FunctionSet) (used : List Named) → Fits F used → AreDeclared F.signature used
fits_each F [] h u i = absurd i
fits_each F (v ∷ used) h u (inl e) = ap (λ (w : Named). F.signature w.0) e ∙ h.0 ∙ ap (λ (w : Named). Some w.1) (sym e)
fits_each F (v ∷ used) h u (inr i) = fits_each F used h.1 u i

pub each_fits : (F : FunctionSet) (used : List Named) → AreDeclared F.signature used → Fits F used
each_fits F [] declared = tt
each_fits F (u ∷ used) declared = (declared u (inl refl), each_fits F used (λ v i. declared v (inr i)))

pub fits_append : (F : FunctionSet) (xs ys : List Named) → Fits F (xs ++ ys) ↔ (Fits F xs × Fits F ys)
fits_append F [] ys = (λ h. (tt, h), λ h. h.1)
fits_append F (x ∷ xs) ys = let later = fits_append F xs ys in (λ h. ((h.0, (later.0 h.1).0), (later.0 h.1).1), λ h. (h.0.0, later.1 (h.0.1, h.1)))

-- a set that fits all fits each name once
pub fits_once : (F : FunctionSet) (used : List Named) → Fits F used → Fits F (each_once used)
fits_once F used h = each_fits F (each_once used) (λ u i. fits_each F used h u (once_in used u i))

-- and the other way round, where the same name never has two signatures
pub once_fits : (F : FunctionSet) (used : List Named) → AreDeclared (signature_in used) used → Fits F (each_once used) → Fits F used
once_fits F used agreed h = each_fits F used (λ u i.
    fits_each F (each_once used) h u (found_in (each_once used) u.0 u.1 (signature-once used u.0 ∙ agreed u i)))
