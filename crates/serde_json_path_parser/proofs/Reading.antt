-- Reading lists of characters, whatever is read: runs at the start, items one after another, and what a reader gives.
use Rattle.serde_json_path_parser.proofs.Words.{cases_lt, eqb-true, encode_utf8_all, encode_utf8, ◌==◌, AllByRecursion, begins, is_blank, is_digit, value_from, front, past, length-append, IsBlank, past_blanks, Refusal, Parsed, ◌>>=◌, with_front, many_within, many, and_parts, begins_both, Joined, Failure, Fails, Signature, ParseErrorKind, ExpectedRoot, UndefinedFunction, TextAfterPath, NoMemory, IsUndeclared, byte_count, refusal, cases_Bool, false_from_ne_true, ◌≡◌, ℕ, ◌+◌, ◌-◌, ◌*◌, ◌<◌, ◌≤◌, min, Bool, true, false, true≢false, List, [], ◌∷◌, ◌++◌, length, refl, sym, ap, ◌∙◌, append_assoc, inl, inr, arith, zero, suc, Ok, Err, drop, Result, subst, ◌⊎◌, Option, cond, Context, append-nil, ◌||◌}

-- ---- what begins a list

pub some_begun : (p : ℕ → Bool) (t : List ℕ) → begins p t ≡ true → 0 < length t
some_begun p t h1 = grind (arith)

-- a list begins as its front does, where that is there
pub begins_front : (p : ℕ → Bool) (b : Bool) (t rest : List ℕ) → 0 < length t → begins p t ≡ b → begins p (t ++ rest) ≡ b
begins_front p b t rest h1 h2 = grind (arith)

-- a list begins so where each character that begins it so does
pub begins_where : (p q : ℕ → Bool) (b : Bool) (cs : List ℕ) → ((c : ℕ) → p c ≡ true → q c ≡ b) → begins p cs ≡ true → begins q cs ≡ b
begins_where p q b cs h1 h2 = grind (arith)

-- a list that begins with one of two characters, and not with the first, begins with the other
pub begins_other : (a b : ℕ) (cs : List ℕ) → begins (λ c. c == a || c == b) cs ≡ true → begins (λ c. c == a) cs ≡ false → begins (λ c. c == b) cs ≡ true
begins_other a b [] e none = absurd cc
begins_other a b (c ∷ cs) e none = sym (rw none refl) ∙ e

-- ---- characters that differ

-- a character that passes a test is none that fails it
pub differs : (p : ℕ → Bool) (k c : ℕ) → p k ≡ false → p c ≡ true → (c == k) ≡ false
differs p k c fails passes = false_from_ne_true (c == k) (λ e. true≢false (sym passes ∙ ap p (eqb-true c k e) ∙ fails))

-- nor a blank, where each blank fails
pub no_blank : (p : ℕ → Bool) (c : ℕ) → p 32 ≡ false → p 9 ≡ false → p 10 ≡ false → p 13 ≡ false → p c ≡ true → is_blank c ≡ false
no_blank p c space tab feed return passes = rw (differs p 32 c space passes, differs p 9 c tab passes, differs p 10 c feed passes, differs p 13 c return passes) refl

-- a list that begins with one that passes begins with none that fails
pub begins_differs : (p : ℕ → Bool) (k : ℕ) (cs : List ℕ) → p k ≡ false → begins p cs ≡ true → begins (λ c. c == k) cs ≡ false
begins_differs p k cs fails begun = begins_where p (λ c. c == k) false cs (λ c e. differs p k c fails e) begun

-- ---- a front and what is after it

-- the front and what is after it are the whole
pub whole : (p : ℕ → Bool) (cs : List ℕ) → cs ≡ front p cs ++ past p cs
whole p [] = refl
whole p (c ∷ cs) = elim (cases_Bool (p c)) [ inl e ↦ rw e (ap (λ (l : List ℕ). c ∷ l) (whole p cs)) | inr e ↦ rw e refl ]

pub front_each : (p : ℕ → Bool) (cs : List ℕ) → AllByRecursion (λ c. p c ≡ true) (front p cs)
front_each p [] = tt
front_each p (c ∷ cs) = elim (cases_Bool (p c)) [ inl e ↦ rw e (e, front_each p cs) | inr e ↦ rw e tt ]

-- the front begins as the list does
pub front_begins : (p q : ℕ → Bool) (cs : List ℕ) → ((c : ℕ) → q c ≡ true → p c ≡ true) → begins q cs ≡ true → begins q (front p cs) ≡ true
front_begins p q cs h1 h2 = grind (arith)

pub front_begins_not : (p q : ℕ → Bool) (cs : List ℕ) → begins q cs ≡ false → begins q (front p cs) ≡ false
front_begins_not p q cs h1 = grind (arith, cases_Bool)

pub front_end : (p : ℕ → Bool) (cs : List ℕ) → begins p cs ≡ false → front p cs ≡ []
front_end p cs h1 = grind (arith)

pub past_end : (p : ℕ → Bool) (cs : List ℕ) → begins p cs ≡ false → past p cs ≡ cs
past_end p cs h1 = grind (arith)

-- the front of a text that passes, and more
pub front_through : (p : ℕ → Bool) (t rest : List ℕ) → AllByRecursion (λ c. p c ≡ true) t → front p (t ++ rest) ≡ t ++ front p rest
front_through p [] rest h = refl
front_through p (c ∷ t) rest h = rw h.0 (ap (λ (l : List ℕ). c ∷ l) (front_through p t rest h.1))

pub front_all : (p : ℕ → Bool) (t rest : List ℕ) → AllByRecursion (λ c. p c ≡ true) t → begins p rest ≡ false → front p (t ++ rest) ≡ t
front_all p t rest h e = front_through p t rest h ∙ ap (λ (l : List ℕ). t ++ l) (front_end p rest e) ∙ append-nil t

-- what is after a text that passes, and more
pub past_through : (p : ℕ → Bool) (t rest : List ℕ) → AllByRecursion (λ c. p c ≡ true) t → past p (t ++ rest) ≡ past p rest
past_through p [] rest h = refl
past_through p (c ∷ t) rest h = rw h.0 (past_through p t rest h.1)

pub front_more : (p : ℕ → Bool) (cs ds : List ℕ) (c : ℕ) → cs ≡ c ∷ ds → begins p cs ≡ true → front p cs ≡ c ∷ front p ds
front_more p cs ds c e t = let k : p c ≡ true = sym (ap (begins p) e) ∙ t in ap (front p) e ∙ rw k refl

pub past_more : (p : ℕ → Bool) (cs ds : List ℕ) (c : ℕ) → cs ≡ c ∷ ds → begins p cs ≡ true → past p cs ≡ past p ds
past_more p cs ds c e t = let k : p c ≡ true = sym (ap (begins p) e) ∙ t in ap (past p) e ∙ rw k refl

pub past_run : (p : ℕ → Bool) (t rest : List ℕ) → AllByRecursion (λ c. p c ≡ true) t → begins p rest ≡ false → past p (t ++ rest) ≡ rest
past_run p t rest h e = past_through p t rest h ∙ past_end p rest e

-- one more character of the front is taken into a text
pub taken : (p : ℕ → Bool) (cs ds : List ℕ) (c : ℕ) (text whole : List ℕ) → cs ≡ c ∷ ds → begins p cs ≡ true
    → text ++ encode_utf8_all (front p cs) ≡ whole → (text ++ encode_utf8 c) ++ encode_utf8_all (front p ds) ≡ whole
taken p cs ds c text whole e t h = append_assoc text (encode_utf8 c) (encode_utf8_all (front p ds)) ∙ ap (λ (l : List ℕ). text ++ encode_utf8_all l) (sym (front_more p cs ds c e t)) ∙ h

-- ---- the value of digits

pub value_least : (n : ℕ) (ds : List ℕ) → n ≤ value_from n ds
value_least n [] = omega arith
value_least n (d ∷ ds) = omega (arith, value_least (n * 10 + (d - 48)) ds)

-- a number that stops at the largest one stays there
pub saturated : (n m limit : ℕ) (ds : List ℕ) → n ≡ min m limit → min (value_from n ds) limit ≡ min (value_from m ds) limit
saturated n m limit ds e = grind (arith, value_least, cases_lt)

pub digit_taken : (cs ds : List ℕ) (c n m limit whole : ℕ) → cs ≡ c ∷ ds → begins is_digit cs ≡ true → m ≡ min (n * 10 + (c - 48)) limit
    → min (value_from n (front is_digit cs)) limit ≡ whole → min (value_from m (front is_digit ds)) limit ≡ whole
digit_taken cs ds c n m limit whole e t s h = grind (arith, front_more, saturated, whole)

-- ---- texts: regrouped; blanks at the start; items in a row, with a sign and blanks between them

pub gathered : (a b c d : List ℕ) → a ++ (b ++ (c ++ d)) ≡ (a ++ (b ++ c)) ++ d
gathered a b c d = simp append_assoc refl

pub spread : (a b c s d : List ℕ) → (a ++ (b ++ (c ++ s))) ++ d ≡ a ++ (b ++ (c ++ (s ++ d)))
spread a b c s d = simp append_assoc refl

-- a text split once more
pub split_again : {whole cs : List ℕ} (a b rest : List ℕ) → whole ≡ a ++ cs → cs ≡ b ++ rest → whole ≡ (a ++ b) ++ rest
split_again a b rest first second = first ∙ ap (λ (l : List ℕ). a ++ l) second ∙ sym (append_assoc a b rest)

-- ---- blanks at the start of a text

-- the blanks themselves
abbrev pub blanks_of : List ℕ → List ℕ
blanks_of cs = front is_blank cs

pub no_longer : (cs : List ℕ) → length (past_blanks cs) ≤ length cs
no_longer cs = omega (arith, ap length (whole is_blank cs), length-append (blanks_of cs) (past_blanks cs))

-- what no blank is, the first character of blanks and a text is not either, if that of the text is not
pub begins_not : (p : ℕ → Bool) (k rest : List ℕ) → ((c : ℕ) → is_blank c ≡ true → p c ≡ false) → IsBlank k → begins p rest ≡ false → begins p (k ++ rest) ≡ false
begins_not p [] rest none h e = e
begins_not p (c ∷ k) rest none h e = none c h.0

-- ---- reading items one after the other

-- an item consumes at least one character
pub record Consumes {A : Type 0} (more : List ℕ → Bool) (item : List ℕ → Parsed A) : Type 0 where
  pub shorter : (cs rest : List ℕ) (x : A) → more cs ≡ true → item cs ≡ Ok (x, rest) → length rest < length cs
  pub some : (cs : List ℕ) → more cs ≡ true → 0 < length cs

module _ {A : Type 0} (more : List ℕ → Bool) (item : List ℕ → Parsed A) where
  stop : (n : ℕ) (cs : List ℕ) → more cs ≡ false → many_within more item n cs ≡ Ok ([], cs)
  unfolding many_within
  stop n cs h1 = grind (arith)

  -- where no item begins there is none
  pub many_end : (cs : List ℕ) → more cs ≡ false → many more item cs ≡ Ok ([], cs)
  unfolding many
  many_end cs t = stop (length cs) cs t

module _ {A : Type 0} (more : List ℕ → Bool) (item : List ℕ → Parsed A) (consumes : Consumes more item) where
  none_more : (cs : List ℕ) → length cs ≤ 0 → more cs ≡ false
  none_more cs l = false_from_ne_true (more cs) (λ e. omega (arith, consumes.some cs e))

  -- what is after an item, and the item
  abbrev others : ℕ → A × List ℕ → Parsed (List A)
  others n x = many_within more item n x.1 >>= λ xs. Ok (x.0 ∷ xs.0, xs.1)

  one : (n : ℕ) (cs : List ℕ) → more cs ≡ true → many_within more item (suc n) cs ≡ (item cs >>= others n)
  unfolding many_within
  one n cs t = rw t refl

  same_others : (n m : ℕ) (read : Parsed A) → ((x : A × List ℕ) → read ≡ Ok x → many_within more item n x.1 ≡ many_within more item m x.1) → (read >>= others n) ≡ (read >>= others m)
  same_others n m read h1 = grind (arith)

  -- any amount of fuel serves that is no less than the length
  pub enough : (n m : ℕ) (cs : List ℕ) → length cs ≤ n → length cs ≤ m → many_within more item n cs ≡ many_within more item m cs
  enough zero m cs h k = let e = none_more cs h in stop more item 0 cs e ∙ sym (stop more item m cs e)
  enough (suc n) zero cs h k = let e = none_more cs k in stop more item (suc n) cs e ∙ sym (stop more item 0 cs e)
  enough (suc n) (suc m) cs h k = elim (cases_Bool (more cs)) [
    | inl t ↦ one n cs t ∙ same_others n m (item cs) (λ x e. let l = consumes.shorter cs x.1 x.0 t e in enough n m x.1 (omega (arith, l)) (omega (arith, l))) ∙ sym (one m cs t)
    | inr t ↦ stop more item (suc n) cs t ∙ sym (stop more item (suc m) cs t)
  ]

  -- the two other steps
  pub many_more : (cs rest : List ℕ) (x : A) → more cs ≡ true → item cs ≡ Ok (x, rest) → many more item cs ≡ with_front (x ∷ []) (many more item rest)
  unfolding many
  many_more cs rest x t e =
      let l = consumes.shorter cs rest x t e in
      enough (length cs) (suc (length cs)) cs (omega arith) (omega arith) ∙ one (length cs) cs t ∙ rw e (ap (with_front (x ∷ [])) (enough (length cs) (length rest) rest (omega (arith, l)) (omega arith)))

  pub many_err : (cs : List ℕ) (f : Refusal) → more cs ≡ true → item cs ≡ Err f → many more item cs ≡ Err f
  unfolding many
  many_err cs f t e = enough (length cs) (suc (length cs)) cs (omega arith) (omega arith) ∙ one (length cs) cs t ∙ rw e refl

-- ---- one step

-- the value of a step that did not fail
pub bind_ok : {A B : Type 0} (r : Result A Refusal) (f : A → Result B Refusal) (y : B) → (r >>= f) ≡ Ok y → (x : A) × (r ≡ Ok x) × (f x ≡ Ok y)
bind_ok r f y h1 = grind (arith)

abbrev pub done : {A : Type 0} → A → Result A Refusal
done x = Ok x

pub ok_is : {A : Type 0} (x y : A) → done x ≡ done y → x ≡ y
ok_is x y e = cc

pub after_one : (k : ℕ) (cs : List ℕ) → begins (λ c. c == k) cs ≡ true → cs ≡ k ∷ drop 1 cs
after_one k cs h1 = grind (arith, eqb-true)

pub after_two : (a b : ℕ) (cs : List ℕ) → begins_both a b cs ≡ true → cs ≡ a ∷ b ∷ drop 2 cs
after_two a b cs h1 = grind (arith, after_one, and_parts)

-- ---- what was read

-- the text of what was read, and what is after it
pub record Read {A : Type 0} (is : List ℕ → A → Type 0) (cs : List ℕ) (x : A × List ℕ) : Type 0 where
  pub text : List ℕ
  pub is_so : is text x.0
  pub split : cs ≡ text ++ x.1

-- a text and the blanks after it
abbrev pub Spaced : {A : Type 0} → (List ℕ → A → Type 0) → List ℕ → A → Type 0
Spaced is t x = (a k : List ℕ) × is a x × IsBlank k × (t ≡ a ++ k)

-- What makes a list of items be read again: each is, where it stops; each begins as an item; and before each an item stops.
pub record Again {A : Type 0} (is : List ℕ → A → Type 0) (more : List ℕ → Bool) (item : List ℕ → Parsed A) (Stops : List ℕ → Type 0) : Type 0 where
  pub consumes : Consumes more item
  pub again : (t : List ℕ) (x : A) (rest : List ℕ) → is t x → Stops rest → item (t ++ rest) ≡ Ok (x, rest)
  pub starts : (t : List ℕ) (x : A) (rest : List ℕ) → is t x → more (t ++ rest) ≡ true
  pub failures : (t : List ℕ) (x : A) (rest : List ℕ) → is t x → Stops (t ++ rest)

module _ {A : Type 0} {is : List ℕ → A → Type 0} {more : List ℕ → Bool} {item : List ℕ → Parsed A} {Stops : List ℕ → Type 0} (law : Again is more item Stops) where
  stops_at : (t : List ℕ) (xs : List A) (rest : List ℕ) → Joined is t xs → Stops rest → Stops (t ++ rest)
  stops_at t [] rest h s = subst (λ (l : List ℕ). Stops (l ++ rest)) (sym h) s
  stops_at t (x ∷ xs) rest h s = subst Stops (sym (ap (λ (l : List ℕ). l ++ rest) h.4 ∙ append_assoc h.0 h.1 rest)) (law.failures h.0 x (h.1 ++ rest) h.2)

  pub many_again : (t : List ℕ) (xs : List A) (rest : List ℕ) → Joined is t xs → Stops rest → more rest ≡ false → many more item (t ++ rest) ≡ Ok (xs, rest)
  many_again t [] rest h s e = ap (λ (l : List ℕ). many more item (l ++ rest)) h ∙ many_end more item rest e
  many_again t (x ∷ xs) rest h s e =
      let regrouped : t ++ rest ≡ h.0 ++ (h.1 ++ rest) = ap (λ (l : List ℕ). l ++ rest) h.4 ∙ append_assoc h.0 h.1 rest in
      ap (many more item) regrouped
      ∙ many_more more item law.consumes (h.0 ++ (h.1 ++ rest)) (h.1 ++ rest) x (law.starts h.0 x (h.1 ++ rest) h.2) (law.again h.0 x (h.1 ++ rest) h.2 (stops_at h.1 xs rest h.3 s))
      ∙ ap (with_front (x ∷ [])) (many_again h.1 xs rest h.3 s e)

-- ---- what stops where a step stops

-- what goes on after a first step fails where that does
pub first_fails : {A B : Type 0} (s : Failure) (read : Result A Refusal) (f : A → Result B Refusal) → Fails s read → Fails s (read >>= f)
first_fails s read f h1 = grind (arith)

-- ---- what a kind tells of the text from the refusal on

-- a kind that is reported of a piece, a selector or a segment, whatever text it is
abbrev pub is_plain : ParseErrorKind → Bool
is_plain ExpectedRoot = false
is_plain UndefinedFunction = false
is_plain TextAfterPath = false
is_plain NoMemory = false
is_plain _ = true

-- in a piece without filters
abbrev pub Plain : ParseErrorKind → List ℕ → Type 0
Plain kind rest = is_plain kind ≡ true

-- in one that may hold filters
abbrev pub Inner : (List ℕ → Option Signature) → ParseErrorKind → List ℕ → Type 0
Inner signature kind rest = (is_plain kind ≡ true) ⊎ ((kind ≡ UndefinedFunction) × IsUndeclared signature rest)

-- ---- where a refusal stands

-- some characters stand before the refusal, and its kind tells so of the rest from it on
pub record Stands (Tells : ParseErrorKind → List ℕ → Type 0) (cs : List ℕ) (r : Refusal) : Type 0 where
  pub before : List ℕ
  pub rest : List ℕ
  pub split : cs ≡ before ++ rest
  pub left : r.left ≡ byte_count rest
  pub tells : Tells r.kind rest

-- ---- what a reader gives, for both of its answers: what is read is so, or the refusal stands in the text

-- what is given is so, and so is each refusal
pub record IsOutcome {A : Type 0} (Is : A → Type 0) (Refuses : Refusal → Type 0) (answer : Result A Refusal) : Type 0 where
  pub reads : (x : A) → answer ≡ Ok x → Is x
  pub stands : (r : Refusal) → answer ≡ Err r → Refuses r

module _ {A : Type 0} {Is : A → Type 0} {Refuses : Refusal → Type 0} where
  pub gives : (x : A) → Is x → IsOutcome Is Refuses (Ok x)
  gives x h = record { reads = λ y e. subst Is (ok_is x y e) h; stands = λ r e. absurd cc }

  pub refuses : (d : Refusal) → Refuses d → IsOutcome Is Refuses (Err d)
  refuses d h = record { reads = λ x e. absurd cc; stands = λ r e. let same : d ≡ r = cc in subst Refuses same h }

  pub choose : {b : Bool} {x y : Result A Refusal} → (b ≡ true → IsOutcome Is Refuses x) → (b ≡ false → IsOutcome Is Refuses y) → IsOutcome Is Refuses (cond b x y)
  choose h1 h2 = grind (arith)

module _ {A : Type 0} {Is : A → Type 0} {Refuses : Refusal → Type 0} where
  -- one step, and the next of what it reads
  pub onward : {B : Type 0} {Is_next : B → Type 0} {read : Result A Refusal} {next : A → Result B Refusal} → IsOutcome Is Refuses read
      → ((x : A) → read ≡ Ok x → Is x → IsOutcome Is_next Refuses (next x)) → IsOutcome Is_next Refuses (read >>= next)
  onward h1 h2 = grind (arith, refuses)

-- what is read at cs, where a refusal stands in the text from start on
abbrev pub OutcomeIn : {A : Type 0} → (List ℕ → A → Type 0) → (ParseErrorKind → List ℕ → Type 0) → List ℕ → List ℕ → Parsed A → Type 0
OutcomeIn is Tells start cs answer = IsOutcome (Read is cs) (Stands Tells start) answer

abbrev pub Outcome : {A : Type 0} → (List ℕ → A → Type 0) → (ParseErrorKind → List ℕ → Type 0) → List ℕ → Parsed A → Type 0
Outcome is Tells cs answer = OutcomeIn is Tells cs cs answer

-- where each refusal stands otherwise
pub stands_so : {A : Type 0} {is : List ℕ → A → Type 0} {Tells Tells_too : ParseErrorKind → List ℕ → Type 0} {start whole cs : List ℕ} {answer : Parsed A} → ((r : Refusal) → Stands Tells start r → Stands Tells_too whole r)
    → OutcomeIn is Tells start cs answer → OutcomeIn is Tells_too whole cs answer
stands_so better h = record { reads = h.reads; stands = λ r e. better r (h.stands r e) }

-- what was read, and the blanks after it
pub with_blanks : {A : Type 0} (is : List ℕ → A → Type 0) (cs : List ℕ) (x : A × List ℕ) → Read is cs x → Read (Spaced is) cs (x.0, past_blanks x.1)
with_blanks is cs x r = record {
  text = r.text ++ blanks_of x.1;
  is_so = (r.text, blanks_of x.1, r.is_so, front_each is_blank x.1, refl);
  split = r.split ∙ ap (λ (l : List ℕ). r.text ++ l) (whole is_blank x.1) ∙ sym (append_assoc r.text (blanks_of x.1) (past_blanks x.1));
}

-- what stands after some text
abbrev pub Past : {A : Type 0} → List ℕ → (List ℕ → A → Type 0) → List ℕ → A → Type 0
Past before is t x = (u : List ℕ) × is u x × (t ≡ before ++ u)

-- a character and the blanks after it
pub after_sign : (k : ℕ) (cs : List ℕ) → begins (λ c. c == k) cs ≡ true → cs ≡ (k ∷ blanks_of (drop 1 cs)) ++ past_blanks (drop 1 cs)
after_sign k cs e = after_one k cs e ∙ ap (λ (l : List ℕ). k ∷ l) (whole is_blank (drop 1 cs))

module _ {A : Type 0} {is : List ℕ → A → Type 0} {Tells : ParseErrorKind → List ℕ → Type 0} {start cs : List ℕ} where
  pub read_spaced : (x : A × List ℕ) → Read is cs x → OutcomeIn (Spaced is) Tells start cs (Ok (x.0, past_blanks x.1))
  read_spaced x h = gives (x.0, past_blanks x.1) (with_blanks is cs x h)

  -- a refusal at the text's beginning
  pub refused : (kind : ParseErrorKind) (at : Context) → Tells kind start → OutcomeIn is Tells start cs (Err (refusal kind at start))
  refused kind at tells = refuses (refusal kind at start) (record { before = []; rest = start; split = refl; left = refl; tells = tells })

  -- a test with a refusal after it
  pub guarded : {b : Bool} {x : Parsed A} (kind : ParseErrorKind) (at : Context) → Tells kind start → (b ≡ true → OutcomeIn is Tells start cs x)
      → OutcomeIn is Tells start cs (cond b x (Err (refusal kind at start)))
  guarded kind at tells f = choose f (λ e. refused kind at tells)

  -- what is so is also something else
  pub weaker : {is_too : List ℕ → A → Type 0} {answer : Parsed A} → ((t : List ℕ) (x : A) → is t x → is_too t x) → OutcomeIn is Tells start cs answer → OutcomeIn is_too Tells start cs answer
  weaker good h = record { reads = λ x e. let r = h.reads x e in record { text = r.text; is_so = good r.text x.0 r.is_so; split = r.split }; stands = h.stands }

  -- what is read after some of the text
  pub past_in : (t : List ℕ) {rest : List ℕ} {answer : Parsed A} → cs ≡ t ++ rest → OutcomeIn (λ u x. is (t ++ u) x) Tells start rest answer → OutcomeIn is Tells start cs answer
  past_in t {rest} split h = record {
    reads = λ x e.
        let r = h.reads x e in
        record { text = t ++ r.text; is_so = r.is_so; split = split_again t r.text x.1 split r.split };
    stands = h.stands;
  }

  -- where more of the text stands before
  pub moved : (t : List ℕ) {whole : List ℕ} {answer : Parsed A} → whole ≡ t ++ start → OutcomeIn is Tells start cs answer → OutcomeIn is Tells whole cs answer
  moved t split h = stands_so (λ r s. record { before = t ++ s.before; rest = s.rest; split = split_again t s.before s.rest split s.split; left = s.left; tells = s.tells }) h

module _ {A : Type 0} {is : List ℕ → A → Type 0} {Tells : ParseErrorKind → List ℕ → Type 0} {cs : List ℕ} where
  -- the same, where the rest refuses in itself
  pub past_text : (t : List ℕ) {rest : List ℕ} {answer : Parsed A} → cs ≡ t ++ rest → Outcome (λ u x. is (t ++ u) x) Tells rest answer → Outcome is Tells cs answer
  past_text t split h = past_in t split (moved t split h)

  -- the same text by another name
  pub along : {ds : List ℕ} {answer : Parsed A} → cs ≡ ds → Outcome is Tells ds answer → Outcome is Tells cs answer
  along {ds} {answer} same h = subst (λ (l : List ℕ). Outcome is Tells l answer) (sym same) h

pub weaker_spaced : {A : Type 0} {is is_too : List ℕ → A → Type 0} {Tells : ParseErrorKind → List ℕ → Type 0} {start cs : List ℕ} {answer : Parsed A} → ((t : List ℕ) (x : A) → is t x → is_too t x)
    → OutcomeIn (Spaced is) Tells start cs answer → OutcomeIn (Spaced is_too) Tells start cs answer
weaker_spaced good h = weaker (λ t x s. (s.0, s.1, good s.0 x s.2, s.3, s.4)) h

-- with the blanks after what is read
pub past_spaced : {A : Type 0} {is : List ℕ → A → Type 0} {Tells : ParseErrorKind → List ℕ → Type 0} {cs : List ℕ} (t : List ℕ) {rest : List ℕ} {answer : Parsed A} → cs ≡ t ++ rest
    → Outcome (Spaced (λ u x. is (t ++ u) x)) Tells rest answer → Outcome (Spaced is) Tells cs answer
past_spaced t split h = past_text t split (weaker (λ u x s. (t ++ s.0, s.1, s.2, s.3, split_again t s.0 s.1 refl s.4)) h)

module _ {A : Type 0} {is : List ℕ → A → Type 0} {Tells : ParseErrorKind → List ℕ → Type 0} {start cs : List ℕ} where
  -- the next reads the text after it
  pub after_in : {B : Type 0} {is_whole : List ℕ → B → Type 0} {read : Parsed A} {next : A × List ℕ → Parsed B} → OutcomeIn is Tells start cs read
      → ((x : A × List ℕ) → read ≡ Ok x → (r : Read is cs x) → OutcomeIn (λ u y. is_whole (r.text ++ u) y) Tells start x.1 (next x)) → OutcomeIn is_whole Tells start cs (read >>= next)
  after_in h more = onward h (λ x e r. past_in r.text r.split (more x e r))

  -- a step that makes something of what it reads
  pub made : {B : Type 0} {is_made : List ℕ → B → Type 0} {read : Parsed A} (make : A → B) → ((t : List ℕ) (a : A) → is t a → is_made t (make a)) → OutcomeIn is Tells start cs read
      → OutcomeIn is_made Tells start cs (read >>= λ a. Ok (make a.0, a.1))
  made make good h = onward h (λ x e r. gives (make x.0, x.1) (record { text = r.text; is_so = good r.text x.0 r.is_so; split = r.split }))

  -- one that goes past the blanks after it, too
  pub made_spaced : {B : Type 0} {is_made : List ℕ → B → Type 0} {read : Parsed A} (make : A → B) → ((t : List ℕ) (a : A) → is t a → is_made t (make a)) → OutcomeIn is Tells start cs read
      → OutcomeIn (Spaced is_made) Tells start cs (read >>= λ a. Ok (make a.0, past_blanks a.1))
  made_spaced {is_made} make good h = onward h (λ x e r.
      gives (make x.0, past_blanks x.1) (with_blanks is_made cs (make x.0, x.1) (record { text = r.text; is_so = good r.text x.0 r.is_so; split = r.split })))

module _ {A : Type 0} {is : List ℕ → A → Type 0} {Tells : ParseErrorKind → List ℕ → Type 0} {cs : List ℕ} where
  -- one step, and the next, which refuses in what is left
  pub after : {B : Type 0} {is_whole : List ℕ → B → Type 0} {read : Parsed A} {next : A × List ℕ → Parsed B} → Outcome is Tells cs read
      → ((x : A × List ℕ) → read ≡ Ok x → (r : Read is cs x) → Outcome (λ u y. is_whole (r.text ++ u) y) Tells x.1 (next x)) → Outcome is_whole Tells cs (read >>= next)
  after h more = onward h (λ x e r. past_text r.text r.split (more x e r))

  -- what was read with the blanks after it is also something else
  pub read_as : {B : Type 0} {is_made : List ℕ → B → Type 0} {x : A × List ℕ} (y : B) → Read (Spaced is) cs x → ((t : List ℕ) → is t x.0 → is_made t y) → Outcome (Spaced is_made) Tells cs (Ok (y, x.1))
  read_as {x} y r good = gives (y, x.1) (record { text = r.text; is_so = (r.is_so.0, r.is_so.1, good r.is_so.0 r.is_so.2, r.is_so.3, r.is_so.4); split = r.split })

  pub after_spaced : {B : Type 0} {is_whole : List ℕ → B → Type 0} {read : Parsed A} {next : A × List ℕ → Parsed B} → Outcome is Tells cs read
      → ((x : A × List ℕ) → read ≡ Ok x → (r : Read is cs x) → Outcome (Spaced (λ u y. is_whole (r.text ++ u) y)) Tells x.1 (next x)) → Outcome (Spaced is_whole) Tells cs (read >>= next)
  after_spaced h more = onward h (λ x e r. past_spaced r.text r.split (more x e r))

-- a step that makes something of what it reads with the blanks after it
pub remade : {A B : Type 0} {is : List ℕ → A → Type 0} {is_made : List ℕ → B → Type 0} {Tells : ParseErrorKind → List ℕ → Type 0} {start cs : List ℕ} {read : Parsed A} (make : A → B)
    → ((t : List ℕ) (a : A) → is t a → is_made t (make a)) → OutcomeIn (Spaced is) Tells start cs read → OutcomeIn (Spaced is_made) Tells start cs (read >>= λ a. Ok (make a.0, a.1))
remade make good h = made make (λ t a s. (s.0, s.1, good s.0 a s.2, s.3, s.4)) h

-- as in a piece that may hold filters
pub inner : {A : Type 0} {signature : List ℕ → Option Signature} {is : List ℕ → A → Type 0} {start cs : List ℕ} {answer : Parsed A} → OutcomeIn is Plain start cs answer
    → OutcomeIn is (Inner signature) start cs answer
inner h = stands_so (λ r s. record { before = s.before; rest = s.rest; split = s.split; left = s.left; tells = inl s.tells }) h

-- many items, one after the other
module _ {A : Type 0} (is : List ℕ → A → Type 0) (Tells : ParseErrorKind → List ℕ → Type 0) (more : List ℕ → Bool) (item : List ℕ → Parsed A)
    (each : (cs : List ℕ) → more cs ≡ true → Outcome is Tells cs (item cs)) where
  none : (cs : List ℕ) → Outcome (Joined is) Tells cs (Ok ([], cs))
  none cs = gives ([], cs) (record { text = []; is_so = refl; split = refl })

  pub many_outcome : (n : ℕ) (cs : List ℕ) → Outcome (Joined is) Tells cs (many_within more item n cs)
  unfolding many_within
  many_outcome zero cs = none cs
  many_outcome (suc n) cs = choose (λ e. after (each cs e) (λ x f r. made (λ xs. x.0 ∷ xs) (λ t xs h. (r.text, t, r.is_so, h, refl)) (many_outcome n x.1))) (λ e. none cs)
