-- A number is one of JSON's where it is not beyond the floats.
use Rattle.std.proofs.Common.{subst, [], ◌∷◌, ◌≡◌, ◌==◌, ◌*◌, ◌^◌, ◌<◌, ◌≤◌, ℕ, Bool, true, false, List, length, drop, Option, Some, None, refl, sym, ◌∙◌, arith, if◌then◌else◌, ltb-true, eqb-true, leb-true, slice_index}
use Rattle.std.proofs.lemmas.Bool.{and_parts}
use Rattle.std.proofs.Math.Nat.{le-mul_of_pos_right, pow-le-pow_right}
use Rattle.std.specs.Float.{float_is_finite}
use Rattle.std.specs.Float.Ieee.{binary64}
use Rattle.std.specs.Option.{is_some}
use Rattle.std.specs.Str.Parse.{digits_value}
use Rattle.fast_float.specs.Text.{Parts, digits_of, nearest, scan, tens_down, tens_up}
use Rattle.serde_json.specs.Data.{Num, float}
use Rattle.serde_json.specs.Read.{float_of, is_integer, number_from, number_of}
use Rattle.serde_json_path_numbers.proofs.Finite.{finite_rounded, same_finite}
use Rattle.jsonpath_document.specs.Reading.{without_sign}

pub tens_some : (k : ℕ) → 0 < 10 ^ k
tens_some k = let some : 0 ≤ k = omega arith in let least : 10 ^ 0 ≤ 10 ^ k = pow-le-pow_right {n = 10} (omega arith) some in omega (arith, least)

small_finite : (s : Bool) (p : Parts) → is_integer p ≡ true → digits_of p < 2 ^ 64 → float_is_finite (nearest binary64 s p) ≡ true
small_finite s p int small =
    let bound : digits_of p * 10 ^ 0 < 2 ^ 64 * 10 ^ tens_down p = omega (arith, small, le-mul_of_pos_right (2 ^ 64) (tens_some (tens_down p))) in
    let up : tens_up p ≡ 0 = no_tens p.exponent p.exponent_negative (eqb-true _ _ (and_parts _ _ int).1) in
    finite_rounded s (digits_of p * 10 ^ tens_up p) (10 ^ tens_down p) (tens_some (tens_down p)) (subst (λ u. digits_of p * 10 ^ u < 2 ^ 64 * 10 ^ tens_down p) (sym up) bound)
  where
    no_tens : (e : List ℕ) (negative : Bool) → length e ≡ 0 → (if negative then 0 else digits_value 10 e) ≡ 0
    no_tens [] true h = refl
    no_tens [] false h = refl
    no_tens (c ∷ cs) negative h = let never : ⊥ = omega arith in absurd never

of_float : (s : Bool) (p : Parts) → is_some (float_of s p) ≡ float_is_finite (nearest binary64 s p)
of_float s p = elim (float_is_finite (nearest binary64 s p)) as (λ z. is_some (if z then Some (float (nearest binary64 s p)) else None) ≡ z) [ true ↦ refl | false ↦ refl ]

chosen : (t : Bool) (n : Num) (o : Option Num) (f : Bool) → (t ≡ true → f ≡ true) → is_some o ≡ f → is_some (if t then Some n else o) ≡ f
chosen true n o f h e = sym (h refl)
chosen false n o f h e = e

in_range_from : (s : Bool) (p : Parts) → is_some (number_from s p) ≡ float_is_finite (nearest binary64 s p)
in_range_from false p = chosen _ _ _ _ (λ h. let both = and_parts _ _ h in small_finite false p both.0 (ltb-true _ _ both.1)) (of_float false p)
in_range_from true p =
    chosen _ _ _ _ (λ h. let both = and_parts _ _ h in small_finite true p (and_parts _ _ both.0).0 (omega (arith, leb-true _ _ both.1))) (of_float true p)

-- a number is read where the float nearest to it is finite
pub in_range : (text : List ℕ) → is_some (number_of text) ≡ float_is_finite (nearest binary64 false (scan (without_sign text)))
unfolding number_of
in_range text =
    elim (slice_index text 0 == 45) as (λ z. is_some (if z then number_from true (scan (drop 1 text)) else number_from false (scan text))
    ≡ float_is_finite (nearest binary64 false (scan (if z then drop 1 text else text))))
    [ true ↦ in_range_from true (scan (drop 1 text)) ∙ same_finite true _ _ | false ↦ in_range_from false (scan text) ]
