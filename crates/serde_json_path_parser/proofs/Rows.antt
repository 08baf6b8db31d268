-- Items in a row, with a sign and blanks between them: as they are read, each with the blanks after it, and as the grammar has them, with blanks round each sign.
use Rattle.serde_json_path_parser.proofs.Words.{with_front, ◌==◌, ◌&&◌, ◌||◌, or_right, and_parts, eq-eqb, append-nil, length-append, drop-append_seam, Signature, Parsed, ◌>>=◌, past_blanks, many, begins, is_blank, IsBlank, IsSign, Joined, ◌≡◌, ℕ, Bool, true, false, List, [], ◌∷◌, ◌++◌, length, drop, Option, Ok, refl, sym, ap, ◌∙◌, append_assoc, arith}
use Rattle.serde_json_path_parser.proofs.Reading.{Read, Spaced, after_one, Inner, Outcome, past_text, made, weaker, many_outcome, split_again, blanks_of, spread, some_begun, begins_where, begins_differs, Consumes, many_end, many_more, past_run, front_each, whole}

-- after the blanks stands a character that passes
abbrev pub Follows : (ℕ → Bool) → List ℕ → Type 0
Follows p rest = begins p (past_blanks rest) ≡ true

-- ---- signs, of one character and others

-- the text begins with these characters
abbrev pub begins_all : ℕ → List ℕ → List ℕ → Bool
begins_all k [] cs = begins (λ c. c == k) cs
begins_all k (l ∷ others) cs = begins (λ c. c == k) cs && begins_all l others (drop 1 cs)

after_all : (k : ℕ) (others cs : List ℕ) → begins_all k others cs ≡ true → cs ≡ (k ∷ others) ++ drop (length (k ∷ others)) cs
after_all k [] cs e = after_one k cs e
after_all k (l ∷ others) [] e = absurd cc
after_all k (l ∷ others) (c ∷ cs) e =
    let parts = and_parts (c == k) (begins_all l others cs) e in
    after_one k (c ∷ cs) parts.0 ∙ ap (λ (r : List ℕ). k ∷ r) (after_all l others cs parts.1)

all_there : (k : ℕ) (others cs : List ℕ) → begins_all k others ((k ∷ others) ++ cs) ≡ true
all_there k [] cs = eq-eqb k k refl
all_there k (l ∷ others) cs = rw (eq-eqb k k refl) (all_there l others cs)

first_there : (k : ℕ) (others cs : List ℕ) → begins_all k others cs ≡ true → begins (λ c. c == k) cs ≡ true
first_there k [] cs e = e
first_there k (l ∷ others) cs e = (and_parts (begins (λ c. c == k) cs) (begins_all l others (drop 1 cs)) e).0

none_there : (k : ℕ) (others cs : List ℕ) → begins (λ c. c == k) cs ≡ false → begins_all k others cs ≡ false
none_there k [] cs e = e
none_there k (l ∷ others) cs e = rw e refl

-- a sign and what follows, after the blanks
pub at_sign : (sign t s j k a b rest : List ℕ) → ((cs : List ℕ) → begins is_blank (sign ++ cs) ≡ false) → IsBlank j → s ≡ j ++ (sign ++ k) → t ≡ s ++ (a ++ b)
    → past_blanks (t ++ rest) ≡ sign ++ (k ++ (a ++ (b ++ rest)))
at_sign sign t s j k a b rest none blank is_sign e = grind (arith, append_assoc, past_run)

-- ---- one item and a row of them

module _ {A : Type 0} (sign : List ℕ) (is : List ℕ → A → Type 0) where
  -- a sign, blanks, an item and blanks
  record IsNext (t : List ℕ) (x : A) : Type 0 where
    before : List ℕ
    text : List ℕ
    after : List ℕ
    blank_before : IsBlank before
    is_so : is text x
    blank_after : IsBlank after
    joined : t ≡ sign ++ (before ++ (text ++ after))

  abbrev pub AreRows : List ℕ → List A → Type 0
  AreRows t [] = t ≡ []
  AreRows t (x ∷ xs) = (s a b : List ℕ) × IsSign sign s × is a x × AreRows b xs × (t ≡ s ++ (a ++ b))

  -- a row and the blanks after it
  record Row (xs : List A) (t : List ℕ) : Type 0 where
    text : List ℕ
    blanks : List ℕ
    are : AreRows text xs
    blank : IsBlank blanks
    split : t ≡ text ++ blanks

  -- the blanks after an item are those before the next sign
  row_of : (xs : List A) (j t : List ℕ) → IsBlank j → Joined IsNext t xs → Row xs (j ++ t)
  row_of [] j t blank h = record { text = []; blanks = j; are = refl; blank = blank; split = ap (λ (l : List ℕ). j ++ l) h ∙ append-nil j }
  row_of (x ∷ xs) j t blank h =
      let first = h.2 in
      let rest = row_of xs first.after h.1 first.blank_after h.3 in
      let here = j ++ (sign ++ first.before) in
      record {
        text = here ++ (first.text ++ rest.text);
        blanks = rest.blanks;
        are = (here, first.text, rest.text, (j, first.before, blank, first.blank_before, refl), first.is_so, rest.are, refl);
        blank = rest.blank;
        split =
            ap (λ (l : List ℕ). j ++ l) (h.4 ∙ ap (λ (l : List ℕ). l ++ h.1) first.joined)
            ∙ ap (λ (l : List ℕ). j ++ l) (spread sign first.before first.text first.after h.1 ∙ ap (λ (l : List ℕ). sign ++ (first.before ++ (first.text ++ l))) rest.split)
            ∙ signed j first.before first.text rest.text rest.blanks;
      }
    where
      signed : (j a b c d : List ℕ) → j ++ (sign ++ (a ++ (b ++ (c ++ d)))) ≡ ((j ++ (sign ++ a)) ++ (b ++ c)) ++ d
      signed j a b c d = simp append_assoc refl

-- What is read of items that stand after a sign: each is good, or the refusal stands in its text; and each good one is read
-- before what ends the row or the sign, with the blanks after it.
pub record RowLaw {A : Type 0} (signature : List ℕ → Option Signature) (k : ℕ) (others : List ℕ) (is : List ℕ → A → Type 0) (item : List ℕ → Parsed A) (ends : ℕ → Bool) : Type 0 where
  pub outcome : (cs : List ℕ) → Outcome (Spaced is) (Inner signature) cs (item cs)
  pub again : (t : List ℕ) (x : A) (rest : List ℕ) → is t x → Follows (λ c. c == k || ends c) rest → item (t ++ rest) ≡ Ok (x, past_blanks rest)
  pub starts : (t : List ℕ) (x : A) (rest : List ℕ) → is t x → begins is_blank (t ++ rest) ≡ false
  pub sign_no_blank : is_blank k ≡ false
  pub sign_no_end : ends k ≡ false

module _ {A : Type 0} {signature : List ℕ → Option Signature} {k : ℕ} {others : List ℕ} {is : List ℕ → A → Type 0} {item : List ℕ → Parsed A} {ends : ℕ → Bool} (law : RowLaw signature k others is item ends) where
  abbrev sign : List ℕ
  sign = k ∷ others

  abbrev more : List ℕ → Bool
  more cs = begins_all k others cs

  abbrev next : List ℕ → Parsed A
  next cs = item (past_blanks (drop (length sign) cs))

  abbrev ends_item : ℕ → Bool
  ends_item c = c == k || ends c

  next_outcome : (cs : List ℕ) → more cs ≡ true → Outcome (IsNext sign is) (Inner signature) cs (next cs)
  next_outcome cs begun =
      let rest = drop (length sign) cs in
      let j = blanks_of rest in
      past_text (sign ++ j) (after_all k others cs begun ∙ ap (λ (l : List ℕ). sign ++ l) (whole is_blank rest) ∙ sym (append_assoc sign j (past_blanks rest))) (weaker (λ t x s. record {
        before = j;
        text = s.0;
        after = s.1;
        blank_before = front_each is_blank rest;
        is_so = s.2;
        blank_after = s.3;
        joined = append_assoc sign j t ∙ ap (λ (l : List ℕ). sign ++ (j ++ l)) s.4;
      }) (law.outcome (past_blanks rest)))

  pub next_consumes : Consumes more next
  next_consumes = record {
    shorter = λ cs rest x begun e.
        let read = (next_outcome cs begun).reads (x, rest) e in
        let next = read.is_so in
        omega (arith, ap length read.split, length-append read.text rest, ap length next.joined, length-append sign (next.before ++ (next.text ++ next.after)));
    some = λ cs begun. some_begun (λ c. c == k) cs (first_there k others cs begun);
  }

  -- after a first item
  abbrev pub a_row : {B : Type 0} → (List A → B) → A × List ℕ → Parsed B
  a_row make x = many more next x.1 >>= λ xs. Ok (make (x.0 ∷ xs.0), xs.1)

  pub row_outcome : {B : Type 0} {is_row : List ℕ → B → Type 0} (make : List A → B) → ((x : A) (xs : List A) (t c : List ℕ) → is t x → AreRows sign is c xs → is_row (t ++ c) (make (x ∷ xs)))
      → (start : List ℕ) (x : A × List ℕ) → Read (Spaced is) start x → Outcome (Spaced is_row) (Inner signature) start (a_row make x)
  unfolding many
  row_outcome make good start x s =
      past_text s.text s.split (made (λ xs. make (x.0 ∷ xs)) (λ u xs h.
      let a = s.is_so.0 in
      let row = row_of sign is xs s.is_so.1 u s.is_so.3 h in (
        a ++ row.text,
        row.blanks,
        good x.0 xs a row.text s.is_so.2 row.are,
        row.blank,
        split_again a row.text row.blanks (ap (λ (l : List ℕ). l ++ u) s.is_so.4 ∙ append_assoc a s.is_so.1 u) row.split,
      )) (many_outcome (IsNext sign is) (Inner signature) more next next_outcome (length x.1) x.1))

  rows_follow : (xs : List A) (t rest : List ℕ) → AreRows sign is t xs → Follows ends rest → Follows ends_item (t ++ rest)
  rows_follow [] t rest h follows = ap (λ (l : List ℕ). begins ends_item (past_blanks (l ++ rest))) h ∙ begins_where ends ends_item true (past_blanks rest) (λ c e. or_right (c == k) (ends c) e) follows
  rows_follow (x ∷ xs) t rest (s, a, b, (i, j, before, after, is_sign), h, rows, e) follows = ap (begins ends_item) (at_sign sign t s i j a b rest (λ cs. law.sign_no_blank) before is_sign e) ∙ rw (eq-eqb k k refl) refl

  rows_again : (xs : List A) (t rest : List ℕ) → AreRows sign is t xs → Follows ends rest → many more next (past_blanks (t ++ rest)) ≡ Ok (xs, past_blanks rest)
  rows_again [] t rest h follows =
      ap (λ (l : List ℕ). many more next (past_blanks (l ++ rest))) h ∙ many_end more next (past_blanks rest) (none_there k others (past_blanks rest) (begins_differs ends k (past_blanks rest) law.sign_no_end follows))
  rows_again (x ∷ xs) t rest (s, a, b, (i, j, before, after, is_sign), h, rows, e) follows =
      let inside = j ++ (a ++ (b ++ rest)) in
      let one : next (sign ++ inside) ≡ Ok (x, past_blanks (b ++ rest)) =
      ap (λ (l : List ℕ). item (past_blanks l)) (drop-append_seam sign inside) ∙ ap item (past_run is_blank j (a ++ (b ++ rest)) after (law.starts a x (b ++ rest) h)) ∙ law.again a x (b ++ rest) h (rows_follow xs b rest rows follows) in
      ap (many more next) (at_sign sign t s i j a b rest (λ cs. law.sign_no_blank) before is_sign e)
      ∙ many_more more next next_consumes (sign ++ inside) (past_blanks (b ++ rest)) x (all_there k others inside) one
      ∙ ap (with_front (x ∷ [])) (rows_again xs b rest rows follows)

  pub row_again : {B : Type 0} (make : List A → B) (x : A) (xs : List A) (t a c rest : List ℕ) → is a x → AreRows sign is c xs → t ≡ a ++ c → Follows ends rest
      → (item (t ++ rest) >>= a_row make) ≡ Ok (make (x ∷ xs), past_blanks rest)
  row_again make x xs t a c rest h rows same follows = grind (arith, append_assoc, rows_again, rows_follow, whole)
