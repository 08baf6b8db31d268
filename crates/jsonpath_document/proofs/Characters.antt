-- Bytes after a text: some bytes complete a character that they end within, and none make a text of them where one is of no character.
use Rattle.std.proofs.Common.{◌-◌, ◌≡◌, ℕ, ◌+◌, ◌<◌, ◌≤◌, true, false, List, [], ◌∷◌, ◌++◌, length, take, drop, Option, sym, ap, ◌∙◌, subst, arith, inl, inr, length-append, length-drop, take-add, append-nil, get_or}
use Rattle.std.proofs.iter.FirstChar.{after_text, no_text}
use Rattle.std.proofs.lemmas.Bool.{cases_lt}
use Rattle.std.proofs.lemmas.Bool.Decides.{nat_tests}
use Rattle.std.proofs.lemmas.List.{take-append-le, drop-append-le}
use Rattle.std.proofs.lemmas.Str.{IsUtf8-append}
use Rattle.std.proofs.str.Faults.{Ranged, no_char}
use Rattle.std.proofs.str.Laws.{Follows}
use Rattle.std.proofs.str.Lossy.{utf8_error_len_some}
use Rattle.std.proofs.str.Valid.{of_one, of_two, of_three, of_four}
use Rattle.std.specs.Int.{is_in_range}
use Rattle.std.specs.Option.{is_some}
use Rattle.std.specs.Str.{IsUtf8, IsValidUpTo, StartsWithNoChar}
use Rattle.std.specs.Str.Lossy.{error_len_of_some, second_byte_max, second_byte_min, utf8_error_len}
use Rattle.jsonpath_document.specs.Reading.{IsCutOff}

-- no characters stand at the front of the bytes
abbrev NoFront : List ℕ → Type 0
NoFront bytes = (k : ℕ) → 0 < k → IsUtf8 (take k bytes) → ⊥

-- ---- characters beyond ASCII, by their first byte

-- a character may begin by x and y
abbrev MayBegin : ℕ → ℕ → Type 0
MayBegin x y = (194 ≤ x) × (x ≤ 244) × (is_in_range (second_byte_min x) (second_byte_max x) y ≡ true)

by_width : {A : Type 0} (x : ℕ) → (x < 224 → A) → (224 ≤ x → x < 240 → A) → (240 ≤ x → A) → A
by_width x two three four = elim (cases_lt x 224) [ inl h ↦ two h | inr h ↦ elim (cases_lt x 240) [ inl k ↦ three h k | inr k ↦ four k ] ]

module _ (x y : ℕ) (may : MayBegin x y) where
  follows : Follows y
  follows = (grind (arith, nat_tests), grind (arith, nat_tests))

  two : x < 224 → IsUtf8 (x ∷ y ∷ [])
  two h = of_two (x ∷ y ∷ []) 0 (omega arith) (may.0, h) follows

  three : (z : ℕ) → Follows z → 224 ≤ x → x < 240 → IsUtf8 (x ∷ y ∷ z ∷ [])
  three z f h k = of_three (x ∷ y ∷ z ∷ []) 0 (omega arith) (h, k) follows f (grind (arith, nat_tests))
      (elim (cases_lt x 238) [ inl e ↦ inl (grind (arith, nat_tests)) | inr e ↦ inr (grind (arith, nat_tests)) ])

  four : (z w : ℕ) → Follows z → Follows w → 240 ≤ x → IsUtf8 (x ∷ y ∷ z ∷ w ∷ [])
  four z w f g h = of_four (x ∷ y ∷ z ∷ w ∷ []) 0 (omega arith) h follows f g (grind (arith, nat_tests), grind (arith, nat_tests))

-- ---- where the bytes end before an error is found, some complete a character

next_one : Follows 128
next_one = (omega arith, omega arith)

completed : (bytes : List ℕ) → NoFront bytes → is_some (error_len_of_some bytes) ≡ false → 0 < length bytes → IsCutOff bytes
completed [] none e some = absurd (omega arith)
completed (x ∷ []) none e some =
    let y = second_byte_min x in
    let may : MayBegin x y = (grind (arith, nat_tests), grind (arith, nat_tests), grind (arith, nat_tests)) in
    by_width x (λ h. (y ∷ [], grind (arith, nat_tests), two x y may h)) (λ h k. (y ∷ 128 ∷ [], grind (arith, nat_tests), three x y may 128 next_one h k))
    (λ h. (y ∷ 128 ∷ 128 ∷ [], grind (arith, nat_tests), four x y may 128 128 next_one next_one h))
completed (x ∷ y ∷ []) none e some =
    let may : MayBegin x y = (grind (arith, nat_tests), grind (arith, nat_tests), grind (arith, nat_tests)) in
    by_width x (λ h. absurd (none 2 (omega arith) (two x y may h))) (λ h k. (128 ∷ [], grind (arith, nat_tests), three x y may 128 next_one h k))
    (λ h. (128 ∷ 128 ∷ [], grind (arith, nat_tests), four x y may 128 128 next_one next_one h))
completed (x ∷ y ∷ z ∷ []) none e some =
    let may : MayBegin x y = (grind (arith, nat_tests), grind (arith, nat_tests), grind (arith, nat_tests)) in
    let third : Follows z = (grind (arith, nat_tests), grind (arith, nat_tests)) in
    by_width x (λ h. absurd (none 2 (omega arith) (two x y may h))) (λ h k. absurd (none 3 (omega arith) (three x y may z third h k)))
    (λ h. (128 ∷ [], grind (arith, nat_tests), four x y may z 128 third next_one h))
completed (x ∷ y ∷ z ∷ w ∷ r) none e some = absurd (grind (arith, nat_tests))

-- ---- where an error is found, no character begins, whatever follows

may_begin : (n x y z w : ℕ) → Ranged n x y z w → 128 ≤ x → MayBegin x y
may_begin n x y z w r h =
    let second = r.second in
    let in_three = r.in_three in
    let fourth = r.fourth in
    (grind (arith, nat_tests), grind (arith, nat_tests), grind (arith, nat_tests))

never_begins : (x : ℕ) (bytes rest : List ℕ) → let all = x ∷ (bytes ++ rest) in NoFront (x ∷ bytes) → is_some (error_len_of_some (x ∷ bytes)) ≡ true → 128 ≤ x
    → Ranged (length all - 0) x (get_or all 1 0) (get_or all 2 0) (get_or all 3 0) → ⊥
never_begins x [] rest none e h r = let may = may_begin _ _ _ _ _ r h in grind (arith, nat_tests)
never_begins x (y ∷ []) rest none e h r =
    let may = may_begin _ _ _ _ _ r h in
    by_width x (λ h. none 2 (omega arith) (two x y may h)) (λ h k. grind (arith, nat_tests)) (λ h. grind (arith, nat_tests))
never_begins x (y ∷ z ∷ []) rest none e h r =
    let may = may_begin _ _ _ _ _ r h in
    by_width x (λ h. none 2 (omega arith) (two x y may h)) (λ h k. none 3 (omega arith) (three x y may z (r.third h).1 h k))
    (λ h. let third = (r.third (omega arith)).1 in grind (arith, nat_tests))
never_begins x (y ∷ z ∷ w ∷ t) rest none e h r =
    let may = may_begin _ _ _ _ _ r h in
    by_width x (λ h. none 2 (omega arith) (two x y may h)) (λ h k. none 3 (omega arith) (three x y may z (r.third h).1 h k))
    (λ h. none 4 (omega arith) (four x y may z w (r.third (omega arith)).1 (r.fourth h).1 h))

no_char_begins : (bytes rest : List ℕ) → NoFront bytes → is_some (error_len_of_some bytes) ≡ true → 0 < length bytes → StartsWithNoChar (bytes ++ rest)
no_char_begins [] rest none e some = absurd (omega arith)
no_char_begins (x ∷ bytes) rest none e some = no_char (x ∷ (bytes ++ rest)) 0 (λ r. elim (cases_lt x 128) [
  | inl l ↦ none 1 (omega arith) (of_one (x ∷ []) 0 (omega arith) l)
  | inr h ↦ never_begins x bytes rest none e h r
])

-- ---- after a text

module _ (bytes : List ℕ) (n : ℕ) (valid : IsValidUpTo bytes n) where
  some_left : 0 < length (drop n bytes)
  some_left = omega (arith, length-drop n bytes, valid.short)

  no_front : NoFront (drop n bytes)
  no_front k some utf8 = valid.longest (n + k) (omega arith) (subst IsUtf8 (sym (take-add n k bytes)) (IsUtf8-append (take n bytes) (take k (drop n bytes)) valid.front utf8))

  pub high_next : 128 ≤ get_or bytes n 0
  high_next = elim (cases_lt (get_or bytes n 0) 128) [ inl low ↦ absurd (no_front 1 (omega arith) (of_one bytes n valid.short low)) | inr high ↦ high ]

  module _ (len : Option ℕ) (is : len ≡ utf8_error_len (drop n bytes)) where
    fault : is_some (error_len_of_some (drop n bytes)) ≡ is_some len
    fault = ap is_some (sym (is ∙ utf8_error_len_some (drop n bytes) some_left))

    -- the bytes end within a character
    pub cut_off : is_some len ≡ false → IsCutOff (drop n bytes)
    cut_off h = completed (drop n bytes) no_front (fault ∙ h) some_left

    -- a byte is of no character
    pub never_text : is_some len ≡ true → (rest : List ℕ) → IsUtf8 (bytes ++ rest) → ⊥
    never_text h rest utf8 =
        let short = valid.short in
        let tail = drop n bytes in
        let front : IsUtf8 (take n (bytes ++ rest)) = subst IsUtf8 (sym (take-append-le n bytes rest (omega arith))) valid.front in
        let back : IsUtf8 (tail ++ rest) = subst IsUtf8 (drop-append-le n bytes rest (omega arith)) (after_text (bytes ++ rest) n utf8 front) in
        no_text (tail ++ rest) [] (subst StartsWithNoChar (sym (append-nil (tail ++ rest))) (no_char_begins tail rest no_front (fault ∙ h) some_left))
        back (omega (arith, length-append tail rest, some_left))
