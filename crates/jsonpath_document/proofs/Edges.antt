-- A byte beyond ASCII leads on only within a string, so a text breaks only between characters.
use Rattle.std.proofs.Common.{◌≡◌, ◌==◌, ◌≤◌, ℕ, Bool, true, false, ◌&&◌, List, Option, Some, None, option_map, ◌⊎◌, inl, inr, refl, sym, ap, ◌∙◌, subst, arith, if◌then◌else◌}
use Rattle.std.proofs.lemmas.Bool.{and_parts, and_right, false≢true, le-leb, ne_eqb, true≢false}
use Rattle.std.proofs.lemmas.Option.{none-some}
use Rattle.std.specs.Option.{is_some}
use Rattle.serde_json.specs.Read.{number_of}
use Rattle.std.proofs.lemmas.Bool.Decides.{nat_tests}
use Rattle.std.specs.Char.{is_ascii_digit}
use Rattle.std.specs.Prelude.{⊤}
use Rattle.jsonpath_document.specs.Reading.{after_byte, after_number, after_text, before_byte, begun_by, closed, ends_before, is_in_plain, is_number, is_plain, is_within, some_if, unless_blank, with_levels}
use Rattle.jsonpath_document.specs.declared.reading.Level.{Level}
use Rattle.jsonpath_document.specs.declared.reading.Next.{Next}
use Rattle.jsonpath_document.specs.declared.reading.Next.TheVariants as next
use Rattle.jsonpath_document.specs.declared.reading.Number.TheVariants.{Whole}
use Rattle.jsonpath_document.specs.declared.reading.Text.{Text}
use Rattle.jsonpath_document.specs.declared.reading.Text.TheVariants.{Plain, Escaped, FirstDigit, SecondDigit, ThirdDigit, FourthDigit, SecondAfterD, PairThirdDigit, PairFourthDigit, PairBackslash, PairEscaped, PairFirstDigit, PairSecondDigit}
use Rattle.jsonpath_document.specs.declared.reading.Word.TheVariants.{Rue, Ue, Alse, Lse, Se, E, Ull, Ll, L}
use Rattle.jsonpath_document.proofs.Bytes.{IsOther, begun_by-other}
use Rattle.jsonpath_document.proofs.Fills.{CanEnd, CanGoOn, ended_so}
use Rattle.jsonpath_document.proofs.Steps.{after_other, is_in_number, no_number}

-- leads nowhere but on in a string
abbrev pub IsPlainFrom : Bool → Option (List Level × Next) → Type 0
IsPlainFrom plain None = ⊤
IsPlainFrom plain (Some s) = (plain ≡ true) × (is_in_plain s.1 ≡ true)

nowhere_else : (o : Option (List Level × Next)) → IsPlainFrom false o → o ≡ None
nowhere_else None h = refl
nowhere_else (Some s) h = absurd (false≢true h.0)

module _ (b : ℕ) (high : 128 ≤ b) where
  not_at : (n : ℕ) → n ≤ 127 → (b == n) ≡ false
  not_at n h = ne_eqb b n (λ e. omega arith)

  other : IsOther b
  other = record {
    not_blank = grind (arith, nat_tests);
    not_34 = not_at 34 (omega arith);
    not_92 = not_at 92 (omega arith);
    not_123 = not_at 123 (omega arith);
    not_125 = not_at 125 (omega arith);
    not_91 = not_at 91 (omega arith);
    not_93 = not_at 93 (omega arith);
    not_58 = not_at 58 (omega arith);
    not_44 = not_at 44 (omega arith);
    not_116 = not_at 116 (omega arith);
    not_102 = not_at 102 (omega arith);
    not_110 = not_at 110 (omega arith);
    not_45 = not_at 45 (omega arith);
    not_48 = not_at 48 (omega arith);
  }

  no_digit : is_ascii_digit b ≡ false
  no_digit = grind (arith, nat_tests)

  no_part : is_in_number b ≡ false
  no_part = grind (arith, nat_tests)

  nowhere : (o : Option (List Level × Next)) → o ≡ None → IsPlainFrom false o
  nowhere o e = subst (IsPlainFrom false) (sym e) tt

  solid : (levels : List Level) (n : Next) (o : Option (List Level × Next)) → o ≡ None → IsPlainFrom false (unless_blank levels n b o)
  solid levels n o e = nowhere _ (ap (λ z. if z then Some (levels, n) else o) other.not_blank ∙ e)

  text_only : (t : Text) → after_text t b ≡ (if is_plain t then Some Plain else None)
  text_only Plain = rw other.not_92 (ap (λ z. some_if z Plain) (le-leb 32 b (omega arith)))
  text_only Escaped = grind (arith, nat_tests)
  text_only FirstDigit = grind (arith, nat_tests)
  text_only SecondDigit = grind (arith, nat_tests)
  text_only ThirdDigit = grind (arith, nat_tests)
  text_only FourthDigit = grind (arith, nat_tests)
  text_only SecondAfterD = grind (arith, nat_tests)
  text_only PairThirdDigit = grind (arith, nat_tests)
  text_only PairFourthDigit = grind (arith, nat_tests)
  text_only PairBackslash = grind (arith, nat_tests)
  text_only PairEscaped = grind (arith, nat_tests)
  text_only PairFirstDigit = grind (arith, nat_tests)
  text_only PairSecondDigit = grind (arith, nat_tests)

  no_quote : (t : Text) → is_plain t && b == 34 ≡ false
  no_quote t = and_right (is_plain t) _ other.not_34

  no_value : (levels : List Level) → begun_by levels b ≡ None
  no_value levels = begun_by-other levels b other ∙ ap (λ z. some_if z (levels, next.Number Whole)) no_digit

  pub high_leads : (levels : List Level) (n : Next) → IsPlainFrom (is_in_plain n) (after_byte levels n b)
  high_leads levels next.Value = solid levels next.Value _ (no_value levels)
  high_leads levels next.FirstItem = solid levels next.FirstItem _ (ap (λ z. if z then closed levels else begun_by levels b) other.not_93 ∙ no_value levels)
  high_leads levels next.FirstName = solid levels next.FirstName _ (rw (other.not_125, other.not_34) refl)
  high_leads levels next.Name = solid levels next.Name _ (rw other.not_34 refl)
  high_leads levels next.Colon = solid levels next.Colon _ (rw other.not_58 refl)
  high_leads levels next.AfterValue = solid levels next.AfterValue _ (after_other levels b other)
  high_leads levels (next.Word Rue) = nowhere _ (rw (not_at 114 (omega arith)) refl)
  high_leads levels (next.Word Ue) = nowhere _ (rw (not_at 117 (omega arith)) refl)
  high_leads levels (next.Word Alse) = nowhere _ (rw (not_at 97 (omega arith)) refl)
  high_leads levels (next.Word Lse) = nowhere _ (rw (not_at 108 (omega arith)) refl)
  high_leads levels (next.Word Se) = nowhere _ (rw (not_at 115 (omega arith)) refl)
  high_leads levels (next.Word E) = nowhere _ (rw (not_at 101 (omega arith)) refl)
  high_leads levels (next.Word Ull) = nowhere _ (rw (not_at 117 (omega arith)) refl)
  high_leads levels (next.Word Ll) = nowhere _ (rw (not_at 108 (omega arith)) refl)
  high_leads levels (next.Word L) = nowhere _ (rw (not_at 108 (omega arith)) refl)
  high_leads levels (next.Number n) = nowhere _ (ap (λ o. with_levels levels (option_map next.Number o)) (no_number n b no_part))
  high_leads levels (next.Text t) =
      subst (IsPlainFrom (is_plain t)) (sym (ap (λ z. if z then Some (levels, next.AfterValue) else with_levels levels (option_map next.Text (after_text t b))) (no_quote t) ∙ ap (λ o. with_levels levels (option_map next.Text o)) (text_only t)))
      (elim (is_plain t) as (λ z. IsPlainFrom z (with_levels levels (option_map next.Text (if z then Some Plain else None)))) [ true ↦ (refl, refl) | false ↦ tt ])
  high_leads levels (next.NameText t) =
      subst (IsPlainFrom (is_plain t)) (sym (ap (λ z. if z then Some (levels, next.Colon) else with_levels levels (option_map next.NameText (after_text t b))) (no_quote t) ∙ ap (λ o. with_levels levels (option_map next.NameText o)) (text_only t)))
      (elim (is_plain t) as (λ z. IsPlainFrom z (with_levels levels (option_map next.NameText (if z then Some Plain else None)))) [ true ↦ (refl, refl) | false ↦ tt ])

  -- nothing else goes on
  pub high_ends : (levels : List Level) (n : Next) → is_in_plain n ≡ false → after_byte levels n b ≡ None
  high_ends levels n off = nowhere_else _ (subst (λ z. IsPlainFrom z (after_byte levels n b)) off (high_leads levels n))

  -- a string goes on
  pub plain_goes_on : (levels : List Level) (n : Next) → is_in_plain n ≡ true → after_byte levels n b ≡ None → ⊥
  plain_goes_on levels next.Value h e = false≢true h
  plain_goes_on levels next.FirstItem h e = false≢true h
  plain_goes_on levels next.FirstName h e = false≢true h
  plain_goes_on levels next.Name h e = false≢true h
  plain_goes_on levels next.Colon h e = false≢true h
  plain_goes_on levels next.AfterValue h e = false≢true h
  plain_goes_on levels (next.Word w) h e = false≢true h
  plain_goes_on levels (next.Number n) h e = false≢true h
  plain_goes_on levels (next.Text t) h e =
      none-some (levels, next.Text Plain) (sym e ∙ ap (λ z. if z then Some (levels, next.AfterValue) else with_levels levels (option_map next.Text (after_text t b))) (no_quote t)
      ∙ ap (λ o. with_levels levels (option_map next.Text o)) (text_only t ∙ ap (λ z. if z then Some Plain else None) h))
  plain_goes_on levels (next.NameText t) h e =
      none-some (levels, next.NameText Plain) (sym e ∙ ap (λ z. if z then Some (levels, next.Colon) else with_levels levels (option_map next.NameText (after_text t b))) (no_quote t)
      ∙ ap (λ o. with_levels levels (option_map next.NameText o)) (text_only t ∙ ap (λ z. if z then Some Plain else None) h))

-- ---- where numbers begin

-- a number is led to by a number, or from where none of this has begun
abbrev pub IsNumberFrom : Next → Option (List Level × Next) → Type 0
IsNumberFrom m None = ⊤
IsNumberFrom m (Some s) = is_number s.1 ≡ true → (is_number m ≡ true) ⊎ ((is_within m ≡ false) × (is_in_plain m ≡ false))

between : (m : Next) → is_within m ≡ false → is_in_plain m ≡ false → (o : Option (List Level × Next)) → IsNumberFrom m o
between m e f None = tt
between m e f (Some s) = λ h. inr (e, f)

no_more : (m : Next) (levels : List Level) (c : Bool) (n : Next) → is_number n ≡ false → IsNumberFrom m (with_levels levels (some_if c n))
no_more m levels true n h = λ e. absurd (false≢true (sym h ∙ e))
no_more m levels false n h = tt

pub number_from : (levels : List Level) (m : Next) (b : ℕ) → IsNumberFrom m (after_byte levels m b)
number_from levels next.Value b = between next.Value refl refl _
number_from levels next.FirstItem b = between next.FirstItem refl refl _
number_from levels next.FirstName b = between next.FirstName refl refl _
number_from levels next.Name b = between next.Name refl refl _
number_from levels next.Colon b = between next.Colon refl refl _
number_from levels next.AfterValue b = between next.AfterValue refl refl _
number_from levels (next.Word Rue) b = no_more (next.Word Rue) levels (b == 114) (next.Word Ue) refl
number_from levels (next.Word Ue) b = no_more (next.Word Ue) levels (b == 117) (next.Word E) refl
number_from levels (next.Word Alse) b = no_more (next.Word Alse) levels (b == 97) (next.Word Lse) refl
number_from levels (next.Word Lse) b = no_more (next.Word Lse) levels (b == 108) (next.Word Se) refl
number_from levels (next.Word Se) b = no_more (next.Word Se) levels (b == 115) (next.Word E) refl
number_from levels (next.Word E) b = no_more (next.Word E) levels (b == 101) next.AfterValue refl
number_from levels (next.Word Ull) b = no_more (next.Word Ull) levels (b == 117) (next.Word Ll) refl
number_from levels (next.Word Ll) b = no_more (next.Word Ll) levels (b == 108) (next.Word L) refl
number_from levels (next.Word L) b = no_more (next.Word L) levels (b == 108) next.AfterValue refl
number_from levels (next.Number n) b = elim (after_number n b) as (λ o. IsNumberFrom (next.Number n) (with_levels levels (option_map next.Number o))) [ None ↦ tt | Some k ↦ λ e. inl refl ]
number_from levels (next.Text t) b =
    elim (is_plain t && b == 34) as (λ z. IsNumberFrom (next.Text t) (if z then Some (levels, next.AfterValue) else with_levels levels (option_map next.Text (after_text t b))))
    [ true ↦ λ e. absurd (false≢true e) | false ↦ elim (after_text t b) as (λ o. IsNumberFrom (next.Text t) (with_levels levels (option_map next.Text o))) [ None ↦ tt | Some k ↦ λ e. absurd (false≢true e) ] ]
number_from levels (next.NameText t) b =
    elim (is_plain t && b == 34) as (λ z. IsNumberFrom (next.NameText t) (if z then Some (levels, next.Colon) else with_levels levels (option_map next.NameText (after_text t b))))
    [ true ↦ λ e. absurd (false≢true e) | false ↦ elim (after_text t b) as (λ o. IsNumberFrom (next.NameText t) (with_levels levels (option_map next.NameText o))) [ None ↦ tt | Some k ↦ λ e. absurd (false≢true e) ] ]

-- ---- before a byte

pub plain_before : (n : Next) (b : ℕ) (begun : List ℕ) → is_in_plain n ≡ true → before_byte n b begun ≡ n
plain_before next.Value b begun h = refl
plain_before next.FirstItem b begun h = refl
plain_before next.FirstName b begun h = refl
plain_before next.Name b begun h = refl
plain_before next.Colon b begun h = refl
plain_before next.AfterValue b begun h = refl
plain_before (next.Word w) b begun h = refl
plain_before (next.Number n) b begun h = absurd (false≢true h)
plain_before (next.Text t) b begun h = refl
plain_before (next.NameText t) b begun h = refl

pub off_before : (n : Next) (b : ℕ) (begun : List ℕ) → is_in_plain n ≡ false → is_in_plain (before_byte n b begun) ≡ false
off_before (next.Number n) b begun h =
    elim (ends_before n b && is_some (number_of begun)) as (λ z. is_in_plain (if z then next.AfterValue else next.Number n) ≡ false) [ true ↦ refl | false ↦ refl ]
off_before _ b begun h = h

pub number_before_byte : (n : Next) (b : ℕ) (begun : List ℕ) → is_number (before_byte n b begun) ≡ true → is_number n ≡ true
number_before_byte next.Value b begun h = h
number_before_byte next.FirstItem b begun h = h
number_before_byte next.FirstName b begun h = h
number_before_byte next.Name b begun h = h
number_before_byte next.Colon b begun h = h
number_before_byte next.AfterValue b begun h = h
number_before_byte (next.Word w) b begun h = h
number_before_byte (next.Number n) b begun h = refl
number_before_byte (next.Text t) b begun h = h
number_before_byte (next.NameText t) b begun h = h

-- a number that ends there can end
pub can_go : (n : Next) (b : ℕ) (begun : List ℕ) → is_number (before_byte n b begun) ≡ false → CanGoOn n begun
can_go next.Value b begun h = tt
can_go next.FirstItem b begun h = tt
can_go next.FirstName b begun h = tt
can_go next.Name b begun h = tt
can_go next.Colon b begun h = tt
can_go next.AfterValue b begun h = tt
can_go (next.Word w) b begun h = tt
can_go (next.Number n) b begun h =
    let each : (z : Bool) → ends_before n b && is_some (number_of begun) ≡ z → is_number (if z then next.AfterValue else next.Number n) ≡ false → CanEnd n begun =
    λ z. elim z as (λ z. ends_before n b && is_some (number_of begun) ≡ z → is_number (if z then next.AfterValue else next.Number n) ≡ false → CanEnd n begun) [
      | true ↦ λ e k. let both = and_parts _ _ e in ended_so n begun (and_parts _ _ both.0).0 both.1
      | false ↦ λ e k. absurd (true≢false k)
    ] in
    each (ends_before n b && is_some (number_of begun)) refl h
can_go (next.Text t) b begun h = tt
can_go (next.NameText t) b begun h = tt

pub plain_can : (n : Next) (begun : List ℕ) → is_in_plain n ≡ true → CanGoOn n begun
plain_can (next.Text t) begun h = tt
plain_can (next.NameText t) begun h = tt
plain_can _ begun h = absurd (false≢true h)

pub number_stays : (n : Next) (b : ℕ) (begun : List ℕ) → is_number (before_byte n b begun) ≡ true → before_byte n b begun ≡ n
number_stays next.Value b begun h = refl
number_stays next.FirstItem b begun h = refl
number_stays next.FirstName b begun h = refl
number_stays next.Name b begun h = refl
number_stays next.Colon b begun h = refl
number_stays next.AfterValue b begun h = refl
number_stays (next.Word w) b begun h = refl
number_stays (next.Number n) b begun h =
    let each : (z : Bool) → is_number (if z then next.AfterValue else next.Number n) ≡ true → (if z then next.AfterValue else next.Number n) ≡ next.Number n =
    λ z. elim z as (λ z. is_number (if z then next.AfterValue else next.Number n) ≡ true → (if z then next.AfterValue else next.Number n) ≡ next.Number n)
    [ true ↦ λ k. absurd (false≢true k) | false ↦ λ k. refl ] in
    each (ends_before n b && is_some (number_of begun)) h
number_stays (next.Text t) b begun h = refl
number_stays (next.NameText t) b begun h = refl
