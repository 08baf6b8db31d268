-- Wherever a reader stands, some text completes a document.
use Rattle.std.proofs.Common.{Option, Some, None, option_and_then, subst, ap₂, append-nil, lt-ltb, ◌≡◌, nat_lt, ℕ, Bool, true, false, ◌&&◌, List, [], ◌∷◌, ◌++◌, refl, sym, ap, ◌∙◌, append_assoc}
use Rattle.std.specs.Option.{is_some}
use Rattle.std.specs.Prelude.{⊤}
use Rattle.json.specs.Lex.{after_value, in_word, lex, punctuate}
use Rattle.json.specs.Word.{ends_word, word}
use Rattle.jsonpath_document.specs.Completes.{completes}
use Rattle.jsonpath_document.specs.Reading.{accepts, after_number, ends_string, is_number_token, left_of, may_end, some_if}
use Rattle.jsonpath_document.specs.declared.reading.Level.{Level}
use Rattle.jsonpath_document.specs.declared.reading.Level.TheVariants.{Array, Object}
use Rattle.jsonpath_document.specs.declared.reading.Next.{Next}
use Rattle.jsonpath_document.specs.declared.reading.Next.TheVariants as next
use Rattle.jsonpath_document.specs.declared.reading.Text.{Text}
use Rattle.jsonpath_document.specs.declared.reading.Text.TheVariants.{Plain, Escaped, FirstDigit, SecondDigit, ThirdDigit, FourthDigit, SecondAfterD, PairThirdDigit, PairFourthDigit, PairBackslash, PairEscaped, PairFirstDigit, PairSecondDigit}
use Rattle.jsonpath_document.specs.declared.reading.Word.{Word}
use Rattle.jsonpath_document.specs.declared.reading.Word.TheVariants.{Rue, Ue, Alse, Lse, Se, E, Ull, Ll, L}
use Rattle.jsonpath_document.specs.declared.reading.Number.{Number}
use Rattle.jsonpath_document.proofs.Numbers.{IsBegun, at_end, begun_more, ended, goes_on, rest_from, rest_of}
use Rattle.jsonpath_document.proofs.Steps.{IsStanding, in_number_below, is_in_number, no_number, number_passes, steps, word_over}
use Rattle.std.proofs.lemmas.Bool.{and_from, and_parts, true_from_ne_false}
use Rattle.std.proofs.lemmas.Option.{none-some, same_Some}
use Rattle.serde_json.specs.Read.{number_of}

-- what closes all that is open
abbrev closers : List Level → List ℕ
closers [] = []
closers (Array ∷ levels) = 93 ∷ closers levels
closers (Object ∷ levels) = 125 ∷ closers levels

closes : (levels : List Level) (begun : List ℕ) → accepts levels next.AfterValue begun (closers levels) ≡ true
unfolding accepts completes punctuate lex
closes [] begun = refl
closes (Array ∷ levels) begun = closes levels begun
closes (Object ∷ levels) begun = closes levels begun

closers_end : (levels : List Level) → ends_word (closers levels) ≡ true
closers_end [] = refl
closers_end (Array ∷ levels) = refl
closers_end (Object ∷ levels) = refl

-- what ends an escape that has begun
abbrev unescaped : Text → List ℕ
unescaped Plain = []
unescaped Escaped = 110 ∷ []
unescaped FirstDigit = 48 ∷ 48 ∷ 48 ∷ 48 ∷ []
unescaped SecondDigit = 48 ∷ 48 ∷ 48 ∷ []
unescaped ThirdDigit = 48 ∷ 48 ∷ []
unescaped FourthDigit = 48 ∷ []
unescaped SecondAfterD = 48 ∷ 48 ∷ 48 ∷ []
unescaped PairThirdDigit = 48 ∷ 48 ∷ 92 ∷ 117 ∷ 100 ∷ 99 ∷ 48 ∷ 48 ∷ []
unescaped PairFourthDigit = 48 ∷ 92 ∷ 117 ∷ 100 ∷ 99 ∷ 48 ∷ 48 ∷ []
unescaped PairBackslash = 92 ∷ 117 ∷ 100 ∷ 99 ∷ 48 ∷ 48 ∷ []
unescaped PairEscaped = 117 ∷ 100 ∷ 99 ∷ 48 ∷ 48 ∷ []
unescaped PairFirstDigit = 100 ∷ 99 ∷ 48 ∷ 48 ∷ []
unescaped PairSecondDigit = 99 ∷ 48 ∷ 48 ∷ []

module _ (levels : List Level) (begun r : List ℕ) where
  text_ended : (t : Text) → accepts levels (next.Text t) begun (unescaped t ++ (34 ∷ r)) ≡ accepts levels next.AfterValue begun r
  unfolding accepts ends_string lex
  text_ended Plain = refl
  text_ended Escaped = refl
  text_ended FirstDigit = refl
  text_ended SecondDigit = refl
  text_ended ThirdDigit = refl
  text_ended FourthDigit = refl
  text_ended SecondAfterD = refl
  text_ended PairThirdDigit = refl
  text_ended PairFourthDigit = refl
  text_ended PairBackslash = refl
  text_ended PairEscaped = refl
  text_ended PairFirstDigit = refl
  text_ended PairSecondDigit = refl

  name_ended : (t : Text) → accepts levels (next.NameText t) begun (unescaped t ++ (34 ∷ r)) ≡ accepts levels next.Colon begun r
  unfolding accepts ends_string lex
  name_ended Plain = refl
  name_ended Escaped = refl
  name_ended FirstDigit = refl
  name_ended SecondDigit = refl
  name_ended ThirdDigit = refl
  name_ended FourthDigit = refl
  name_ended SecondAfterD = refl
  name_ended PairThirdDigit = refl
  name_ended PairFourthDigit = refl
  name_ended PairBackslash = refl
  name_ended PairEscaped = refl
  name_ended PairFirstDigit = refl
  name_ended PairSecondDigit = refl

  word_ended : (w : Word) → accepts levels (next.Word w) begun (left_of w ++ r) ≡ accepts levels next.AfterValue begun r
  unfolding accepts lex
  word_ended Rue = word_over levels r
  word_ended Ue = word_over levels r
  word_ended Alse = word_over levels r
  word_ended Lse = word_over levels r
  word_ended Se = word_over levels r
  word_ended E = word_over levels r
  word_ended Ull = word_over levels r
  word_ended Ll = word_over levels r
  word_ended L = word_over levels r

-- ---- ASCII

abbrev pub is_ascii : List ℕ → Bool
is_ascii [] = true
is_ascii (x ∷ xs) = nat_lt x 128 && is_ascii xs

-- what completes a document
abbrev pub IsFilled : List Level → Next → List ℕ → Type 0
IsFilled levels n begun = (r : List ℕ) × (is_ascii r ≡ true) × (accepts levels n begun r ≡ true)

closers_ascii : (levels : List Level) → is_ascii (closers levels) ≡ true
closers_ascii [] = refl
closers_ascii (Array ∷ levels) = closers_ascii levels
closers_ascii (Object ∷ levels) = closers_ascii levels

-- an empty string, and what closes
abbrev quotes : List Level → List ℕ
quotes levels = 34 ∷ 34 ∷ closers levels

quotes_fill : (levels : List Level) (begun : List ℕ) → accepts levels next.Value begun (quotes levels) ≡ true
quotes_fill levels begun =
    steps levels next.Value begun 34 (34 ∷ closers levels) tt ∙ text_ended levels (34 ∷ []) (closers levels) Plain ∙ closes levels (34 ∷ [])

colon_fills : (outer : List Level) (begun : List ℕ) → accepts (Object ∷ outer) next.Colon begun (58 ∷ quotes (Object ∷ outer)) ≡ true
colon_fills outer begun = steps (Object ∷ outer) next.Colon begun 58 (quotes (Object ∷ outer)) (outer, refl) ∙ quotes_fill (Object ∷ outer) (58 ∷ [])

name_fills : (outer : List Level) (begun : List ℕ) → accepts (Object ∷ outer) next.Name begun (34 ∷ 34 ∷ 58 ∷ quotes (Object ∷ outer)) ≡ true
name_fills outer begun =
    steps (Object ∷ outer) next.Name begun 34 (34 ∷ 58 ∷ quotes (Object ∷ outer)) (outer, refl)
    ∙ name_ended (Object ∷ outer) (34 ∷ []) (58 ∷ quotes (Object ∷ outer)) Plain ∙ colon_fills outer (34 ∷ [])

item_fills : (outer : List Level) (begun : List ℕ) → accepts (Array ∷ outer) next.FirstItem begun (closers (Array ∷ outer)) ≡ true
item_fills outer begun = steps (Array ∷ outer) next.FirstItem begun 93 (closers outer) (outer, refl) ∙ closes outer (93 ∷ [])

first_name_fills : (outer : List Level) (begun : List ℕ) → accepts (Object ∷ outer) next.FirstName begun (closers (Object ∷ outer)) ≡ true
first_name_fills outer begun = steps (Object ∷ outer) next.FirstName begun 125 (closers outer) (outer, refl) ∙ closes outer (125 ∷ [])

text_ascii : (t : Text) (r : List ℕ) → is_ascii r ≡ true → is_ascii (unescaped t ++ (34 ∷ r)) ≡ true
text_ascii Plain r h = h
text_ascii Escaped r h = h
text_ascii FirstDigit r h = h
text_ascii SecondDigit r h = h
text_ascii ThirdDigit r h = h
text_ascii FourthDigit r h = h
text_ascii SecondAfterD r h = h
text_ascii PairThirdDigit r h = h
text_ascii PairFourthDigit r h = h
text_ascii PairBackslash r h = h
text_ascii PairEscaped r h = h
text_ascii PairFirstDigit r h = h
text_ascii PairSecondDigit r h = h

word_ascii : (w : Word) (r : List ℕ) → is_ascii r ≡ true → is_ascii (left_of w ++ r) ≡ true
word_ascii Rue r h = h
word_ascii Ue r h = h
word_ascii Alse r h = h
word_ascii Lse r h = h
word_ascii Se r h = h
word_ascii E r h = h
word_ascii Ull r h = h
word_ascii Ll r h = h
word_ascii L r h = h

-- ---- a number

-- what comes of more bytes of a number
abbrev pub run : List ℕ → Number → Option Number
run [] n = Some n
run (b ∷ bs) n = option_and_then (λ m. run bs m) (after_number n b)

-- some more of a number ends it, in range
pub record CanEnd (n : Number) (begun : List ℕ) : Type 0 where
  pub more : List ℕ
  pub comes_to : Number
  pub runs : run more n ≡ Some comes_to
  pub ends : may_end comes_to ≡ true
  pub in_range : is_some (number_of (begun ++ more)) ≡ true

pub ended_so : (n : Number) (begun : List ℕ) → may_end n ≡ true → is_some (number_of begun) ≡ true → CanEnd n begun
ended_so n begun e f = record { more = []; comes_to = n; runs = refl; ends = e; in_range = ap (λ t. is_some (number_of t)) (append-nil begun) ∙ f }

record Passes (more : List ℕ) (m : Number) (begun : List ℕ) : Type 0 where
  begun_so : IsBegun m begun
  ascii : is_ascii more ≡ true
  passed : (r : List ℕ) → lex in_word (more ++ r) ≡ lex in_word r

passes : (more : List ℕ) (n m : Number) (begun : List ℕ) → IsBegun n begun → run more n ≡ Some m → Passes more m (begun ++ more)
passes [] n m begun is e =
    let same : n ≡ m = same_Some n m e in
    record { begun_so = subst (λ t. IsBegun m t) (sym (append-nil begun)) (subst (λ k. IsBegun k begun) same is); ascii = refl; passed = λ r. refl }
passes (b ∷ bs) n m begun is e = each (λ k. passes bs k m (begun ++ b ∷ [])) (after_number n b) refl e
  where
    each : ((k : Number) → IsBegun k (begun ++ b ∷ []) → run bs k ≡ Some m → Passes bs m ((begun ++ b ∷ []) ++ bs))
        → (o : Option Number) → after_number n b ≡ o → option_and_then (λ k. run bs k) o ≡ Some m → Passes (b ∷ bs) m (begun ++ b ∷ bs)
    each again None f e = absurd (none-some m e)
    each again (Some k) f e =
        let part : is_in_number b ≡ true = true_from_ne_false (is_in_number b) (λ z. none-some k (sym (no_number n b z) ∙ f)) in
        let more = again k (begun_more n k begun b is f) e in
        record {
          begun_so = subst (λ t. IsBegun m t) (append_assoc begun (b ∷ []) bs) more.begun_so;
          ascii = and_from _ _ (lt-ltb b 128 (in_number_below b part)) more.ascii;
          passed = λ r. number_passes b (bs ++ r) part ∙ more.passed r;
        }

closers_rest : (m : Number) (levels : List Level) → rest_of m (closers levels) ≡ some_if (may_end m) (closers levels)
closers_rest m [] = at_end m
closers_rest m (Array ∷ levels) = goes_on m 93 (closers levels) ∙ ap (λ o. rest_from o (may_end m) 93 (closers levels)) (no_number m 93 refl)
closers_rest m (Object ∷ levels) = goes_on m 125 (closers levels) ∙ ap (λ o. rest_from o (may_end m) 125 (closers levels)) (no_number m 125 refl)

append_ascii : (a b : List ℕ) → is_ascii a ≡ true → is_ascii b ≡ true → is_ascii (a ++ b) ≡ true
append_ascii [] b h k = k
append_ascii (x ∷ xs) b h k = let both = and_parts _ _ h in and_from _ _ both.0 (append_ascii xs b both.1 k)

number_filled : (levels : List Level) (n : Number) (begun : List ℕ) → IsBegun n begun → CanEnd n begun → IsFilled levels (next.Number n) begun
unfolding accepts
number_filled levels n begun is can =
    let r = closers levels in
    let after = passes can.more n can.comes_to begun is can.runs in
    let ended_well : is_number_token (word ((begun ++ can.more) ++ r)) ≡ true =
    ended can.comes_to (begun ++ can.more) r after.begun_so (closers_rest can.comes_to levels) ∙ all_three can.ends (closers_end levels) can.in_range in (
      can.more ++ r,
      append_ascii can.more r after.ascii (closers_ascii levels),
      ap₂ (λ t ls. is_number_token (word t) && completes (punctuate after_value ls) false levels) (sym (append_assoc begun can.more r)) (after.passed r)
          ∙ ap (λ z. z && completes (punctuate after_value (lex in_word r)) false levels) (ended_well ∙ sym (closers_end levels)) ∙ word_over levels r ∙ closes levels [],
    )
  where
    all_three : {a b c : Bool} → a ≡ true → b ≡ true → c ≡ true → a && (b && c) ≡ true
    all_three {a} {b} {c} e f g = rw (e, f, g) refl

-- ---- all

-- a number that has begun can still end in range
abbrev pub CanGoOn : Next → List ℕ → Type 0
CanGoOn next.Value begun = ⊤
CanGoOn next.FirstItem begun = ⊤
CanGoOn next.FirstName begun = ⊤
CanGoOn next.Name begun = ⊤
CanGoOn next.Colon begun = ⊤
CanGoOn next.AfterValue begun = ⊤
CanGoOn (next.Word w) begun = ⊤
CanGoOn (next.Number n) begun = CanEnd n begun
CanGoOn (next.Text t) begun = ⊤
CanGoOn (next.NameText t) begun = ⊤

pub filled : (levels : List Level) (n : Next) (begun : List ℕ) → IsStanding levels n begun → CanGoOn n begun → IsFilled levels n begun
filled levels next.Value begun h can = (quotes levels, closers_ascii levels, quotes_fill levels begun)
filled levels next.FirstItem begun h can = subst (λ ls. IsFilled ls next.FirstItem begun) (sym h.1) (closers (Array ∷ h.0), closers_ascii h.0, item_fills h.0 begun)
filled levels next.FirstName begun h can = subst (λ ls. IsFilled ls next.FirstName begun) (sym h.1) (closers (Object ∷ h.0), closers_ascii h.0, first_name_fills h.0 begun)
filled levels next.Name begun h can = subst (λ ls. IsFilled ls next.Name begun) (sym h.1) (34 ∷ 34 ∷ 58 ∷ quotes (Object ∷ h.0), closers_ascii h.0, name_fills h.0 begun)
filled levels next.Colon begun h can = subst (λ ls. IsFilled ls next.Colon begun) (sym h.1) (58 ∷ quotes (Object ∷ h.0), closers_ascii h.0, colon_fills h.0 begun)
filled levels next.AfterValue begun h can = (closers levels, closers_ascii levels, closes levels begun)
filled levels (next.Word w) begun h can =
    (left_of w ++ closers levels, word_ascii w (closers levels) (closers_ascii levels), word_ended levels begun (closers levels) w ∙ closes levels begun)
filled levels (next.Number n) begun h can = number_filled levels n begun h.0 can
filled levels (next.Text t) begun h can =
    (unescaped t ++ (34 ∷ closers levels), text_ascii t (closers levels) (closers_ascii levels), text_ended levels begun (closers levels) t ∙ closes levels begun)
filled levels (next.NameText t) begun h can = subst (λ ls. IsFilled ls (next.NameText t) begun) (sym h.1)
    (unescaped t ++ (34 ∷ 58 ∷ quotes (Object ∷ h.0)), text_ascii t (58 ∷ quotes (Object ∷ h.0)) (closers_ascii h.0), name_ended (Object ∷ h.0) begun (58 ∷ quotes (Object ∷ h.0)) t ∙ colon_fills h.0 begun)
