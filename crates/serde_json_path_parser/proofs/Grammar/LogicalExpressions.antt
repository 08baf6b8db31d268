-- Logical expressions: what is read is a good one, or where the refusal stands; and each good one is read.
use Rattle.serde_json_path_parser.proofs.Words.{Numbers, codes, LogicalOr, LogicalAnd, Basic, paren, relation, test, no_or, or, no_and, and, IsTypedOr, IsTypedAnd, or_depth, and_depth, Signature, ExpectedClosingParenthesis, ExpectedExpression, is_at, are_at, begins, IsBlank, InParentheses, ReadsOr, ReadMoreOrs, ReadMoreAnds, past_blanks, called, and_list, or_list, Deeper, read_paren, read_negated, read_basic, read_next_basic, read_and_from, read_and, read_next_and, read_or_from, read_or, ◌≡◌, ℕ, ◌≤◌, inl, true, false, List, [], ◌∷◌, ◌++◌, drop, Option, Ok, refl, ap, ◌∙◌, append_assoc, arith, LongHand, queried, is_blank, IsTypedOperand, operand_depth, ReadsOperand, Operand, literal, begins_test, of_logical, byte_count, read_negated_test}
use Rattle.serde_json_path_parser.proofs.Reading.{blanks_of, spread, begins_differs, Read, Spaced, after_one, Inner, guarded, onward, remade, refused, choose, Outcome, after_sign, past_spaced, read_spaced, Consumes, past_run, front_each}
use Rattle.serde_json_path_parser.proofs.Grammar.LogicalForms.{IsGoodInside, DeeperLaws, ends_or, ends_and, ends_basic, IsOrText, IsAndText, IsBasicText, begins_operand, begins_expression, operand_begins, basic_begins, and_begins, or_begins, no_blank_begins, IsOperandText, typed_good, test_begins}
use Rattle.serde_json_path_parser.proofs.Grammar.Comparisons.{operand_outcome, basic_ends_operand, relation_again, compared, basic_from_outcome, tested, test_again, test_outcome, operand_again}
use Rattle.serde_json_path_parser.proofs.Rows.{Follows, AreRows, RowLaw, next_consumes, row_outcome, row_again}

module _ (rule : Numbers) (signature : List ℕ → Option Signature) (n : ℕ) (deeper : Deeper) (laws : DeeperLaws rule signature n deeper) where
  -- ---- parentheses and `!`: what a reading gives

  -- at `(`
  paren_outcome : (cs : List ℕ) → is_at "(" cs ≡ true
      → Outcome (Spaced (λ t e. IsGoodInside signature n e × InParentheses (ReadsOr rule e) t)) (Inner signature) cs (read_paren rule signature deeper cs)
  paren_outcome cs opened =
      let j = blanks_of (drop 1 cs) in
      onward (laws.inside_outcome (40 ∷ j) cs (past_blanks (drop 1 cs)) (after_sign 40 cs opened)) (λ e f s.
      past_spaced s.text s.split (guarded ExpectedClosingParenthesis LongHand (inl refl) (λ closed.
      let k = s.is_so.1 in
      let inside = s.is_so.2 in
      let same : s.text ++ 41 ∷ [] ≡ 40 ∷ (j ++ (inside.0 ++ (k ++ 41 ∷ []))) = ap (λ (l : List ℕ). l ++ 41 ∷ []) (s.is_so.4 ∙ ap (λ (l : List ℕ). l ++ k) inside.2) ∙ regrouped (40 ∷ j) inside.0 k (codes ")") in
      read_spaced (e.0, drop 1 e.1) (record { text = 41 ∷ []; is_so = (inside.1.0, (j, inside.0, k, front_each is_blank (drop 1 cs), inside.1.1, s.is_so.3, same)); split = after_one 41 e.1 closed }))))
    where
      regrouped : (a b c d : List ℕ) → ((a ++ b) ++ c) ++ d ≡ a ++ (b ++ (c ++ d))
      regrouped a b c d = simp append_assoc refl

  -- after `!` and blanks
  module _ (k : List ℕ) (blank : IsBlank k) where
    abbrev IsNegated : List ℕ → Basic → Type 0
    IsNegated t b = IsBasicText rule signature n (33 ∷ (k ++ t)) b

    negated_test_outcome : (cs : List ℕ) (o : Operand × List ℕ) → Read (Spaced (IsOperandText rule signature n)) cs o → Outcome (Spaced IsNegated) (Inner signature) cs (read_negated_test rule signature deeper (byte_count cs) o.0 o.1)
    negated_test_outcome cs o h1 = grind (arith, refused, test_outcome)

    negated_outcome : (cs : List ℕ) → Outcome (Spaced IsNegated) (Inner signature) cs (read_negated rule signature deeper cs)
    negated_outcome cs =
        choose (λ e. remade (λ e. paren true e) (λ t e h. (h.0, (k, t, blank, h.1, refl))) (paren_outcome cs e)) (λ _.
        guarded ExpectedExpression LongHand (inl refl) (λ _. onward (operand_outcome rule signature n deeper laws cs) (λ o e s. negated_test_outcome cs o s)))

  -- ---- parentheses and `!`: what is good is read

  paren_again : (t : List ℕ) (e : LogicalOr) (rest : List ℕ) → IsGoodInside signature n e → InParentheses (ReadsOr rule e) t
      → (is_at "(" (t ++ rest) ≡ true) × (read_paren rule signature deeper (t ++ rest) ≡ Ok (e, past_blanks rest))
  paren_again t e rest h1 h2 = grind (arith, no_blank_begins, or_begins, past_run, spread)

  -- `!`, blanks and what it negates
  negated_again : (t k a rest : List ℕ) (b : Basic) → IsBlank k → t ≡ 33 ∷ (k ++ a) → begins begins_expression (a ++ rest) ≡ true
      → read_negated rule signature deeper (a ++ rest) ≡ Ok (b, past_blanks rest) → read_basic rule signature deeper (t ++ rest) ≡ Ok (b, past_blanks rest)
  negated_again t k a rest b blank same first e = grind (arith, append_assoc, no_blank_begins, past_run)

  -- a test that is negated
  negated_test_again : (a : List ℕ) (o : Operand) (rest : List ℕ) → IsTypedOperand signature o of_logical × (operand_depth o ≤ n) → ReadsOperand rule o a → Follows ends_basic rest
      → read_negated rule signature deeper (a ++ rest) ≡ Ok (test true o, past_blanks rest)
  negated_test_again a o rest good is follows =
      let begun = test_begins rule signature o a rest good.0 is in
      let read = operand_again rule signature n deeper laws a o rest (typed_good signature n o of_logical good.0 good.1, is) (basic_ends_operand rest follows) in
      rw (begins_differs begins_test 40 (a ++ rest) refl begun, begun, read) (of_test o good.0)
    where
      of_test : (o : Operand) → IsTypedOperand signature o of_logical → read_negated_test rule signature deeper (byte_count (a ++ rest)) o (past_blanks rest) ≡ Ok (test true o, past_blanks rest)
      of_test (literal l) typed = absurd typed
      of_test (queried q) typed = test_again rule signature n deeper laws true (a ++ rest) (queried q) (past_blanks rest) typed
      of_test (called c) typed = test_again rule signature n deeper laws true (a ++ rest) (called c) (past_blanks rest) typed

  -- ---- basic expressions

  basic_outcome : (cs : List ℕ) → Outcome (Spaced (IsBasicText rule signature n)) (Inner signature) cs (read_basic rule signature deeper cs)
  basic_outcome cs =
      choose (λ e. remade (λ e. paren false e) (λ t e h. h) (paren_outcome cs e)) (λ _.
      choose (λ e. let k = blanks_of (drop 1 cs) in past_spaced (33 ∷ k) (after_sign 33 cs e) (negated_outcome k (front_each is_blank (drop 1 cs)) (past_blanks (drop 1 cs)))) (λ _.
      onward (operand_outcome rule signature n deeper laws cs) (λ o e s. basic_from_outcome rule signature n deeper laws cs o s)))

  of_operand : (cs : List ℕ) → begins begins_operand cs ≡ true → read_basic rule signature deeper cs ≡ compared rule signature n deeper laws cs
  of_operand cs first = rw (begins_differs begins_operand 40 cs refl first, begins_differs begins_operand 33 cs refl first) refl

  basic_again : (t : List ℕ) (b : Basic) (rest : List ℕ) → IsBasicText rule signature n t b → Follows ends_basic rest → read_basic rule signature deeper (t ++ rest) ≡ Ok (b, past_blanks rest)
  basic_again t (paren false e) rest h follows = let p = paren_again t e rest h.0 h.1 in rw (p.0, p.1) refl
  basic_again t (paren true e) rest (good, (k, a, blank, is, same)) follows =
      let p = paren_again a e rest good is in
      negated_again t k a rest (paren true e) blank same (basic_begins rule (paren false e) a rest is) (rw (p.0, p.1) refl)
  basic_again t (relation left op right) rest h follows =
      let first = ap (λ (l : List ℕ). begins begins_operand (l ++ rest)) h.1.6 ∙ ap (begins begins_operand) (append_assoc h.1.0 _ rest) ∙ operand_begins rule left h.1.0 ((h.1.1 ++ h.1.2) ++ rest) h.1.3 in
      of_operand (t ++ rest) first ∙ relation_again rule signature n deeper laws t left op right rest h follows
  basic_again t (test false o) rest h follows =
      of_operand (t ++ rest) (operand_begins rule o t rest h.1) ∙ tested rule signature n deeper laws t o rest (typed_good signature n o of_logical h.0.0 h.0.1, h.1) follows ∙ test_again rule signature n deeper laws false (t ++ rest) o (past_blanks rest) h.0.0
  basic_again t (test true o) rest (good, (k, a, blank, is, same)) follows =
      negated_again t k a rest (test true o) blank same (basic_begins rule (test false o) a rest is) (negated_test_again a o rest good is follows)

  -- ---- what is joined by `&&`

  basic_row : RowLaw signature 38 (38 ∷ []) (IsBasicText rule signature n) (read_basic rule signature deeper) ends_and
  basic_row = grind (arith, basic_again, basic_begins, basic_outcome, no_blank_begins)

  pub next_basic_consumes : Consumes (are_at "&&") (read_next_basic rule signature deeper)
  next_basic_consumes = next_consumes basic_row

  more_ands : (bs : List Basic) (t : List ℕ) → AreRows (codes "&&") (IsBasicText rule signature n) t bs → (IsTypedAnd signature (and_list bs) × (and_depth (and_list bs) ≤ n)) × ReadMoreAnds rule (and_list bs) t
  more_ands [] t h = ((tt, omega arith), h)
  more_ands (b ∷ bs) t (s, a, c, sign, is, rest, e) =
      let more = more_ands bs c rest in
      (((is.0.0, more.0.0), omega (arith, is.0.1, more.0.1)), (s, a, c, sign, is.1, more.1, e))

  -- after a first part
  pub and_from_outcome : (start : List ℕ) (b : Basic × List ℕ) → Read (Spaced (IsBasicText rule signature n)) start b → Outcome (Spaced (IsAndText rule signature n)) (Inner signature) start (read_and_from rule signature deeper b.0 b.1)
  and_from_outcome start b s = row_outcome basic_row and_list (λ b bs t c is rows. let more = more_ands bs c rows in (((is.0.0, more.0.0), omega (arith, is.0.1, more.0.1)), (t, c, is.1, more.1, refl))) start b s

  and_outcome : (cs : List ℕ) → Outcome (Spaced (IsAndText rule signature n)) (Inner signature) cs (read_and rule signature deeper cs)
  and_outcome cs = onward (basic_outcome cs) (λ b e s. and_from_outcome cs b s)

  and_rows : (e : LogicalAnd) (t : List ℕ) → IsTypedAnd signature e → and_depth e ≤ n → ReadMoreAnds rule e t → (bs : List Basic) × (and_list bs ≡ e) × AreRows (codes "&&") (IsBasicText rule signature n) t bs
  and_rows no_and t typed depth h = ([], refl, h)
  and_rows (and b more) t typed depth (s, a, c, sign, is, others, e) =
      let rest = and_rows more c typed.1 (omega (arith, depth)) others in
      (b ∷ rest.0, ap (and b) rest.1, (s, a, c, sign, ((typed.0, omega (arith, depth)), is), rest.2, e))

  and_again : (t : List ℕ) (e : LogicalAnd) (rest : List ℕ) → IsAndText rule signature n t e → Follows ends_and rest → read_and rule signature deeper (t ++ rest) ≡ Ok (e, past_blanks rest)
  and_again t no_and rest h follows = absurd h.1
  and_again t (and b more) rest (good, (a, c, is, others, same)) follows =
      let rows = and_rows more c good.0.1 (omega (arith, good.1)) others in
      row_again basic_row and_list b rows.0 t a c rest ((good.0.0, omega (arith, good.1)), is) rows.2 same follows ∙ ap (λ (l : LogicalAnd). Ok (and b l, past_blanks rest)) rows.1

  -- ---- what is joined by `||`

  and_row : RowLaw signature 124 (124 ∷ []) (IsAndText rule signature n) (read_and rule signature deeper) ends_or
  and_row = grind (arith, and_again, and_begins, and_outcome, no_blank_begins)

  pub next_and_consumes : Consumes (are_at "||") (read_next_and rule signature deeper)
  next_and_consumes = next_consumes and_row

  more_ors : (xs : List LogicalAnd) (t : List ℕ) → AreRows (codes "||") (IsAndText rule signature n) t xs → (IsTypedOr signature (or_list xs) × (or_depth (or_list xs) ≤ n)) × ReadMoreOrs rule (or_list xs) t
  more_ors [] t h = ((tt, omega arith), h)
  more_ors (x ∷ xs) t (s, a, c, sign, is, rest, e) =
      let more = more_ors xs c rest in
      (((is.0.0, more.0.0), omega (arith, is.0.1, more.0.1)), (s, a, c, sign, is.1, more.1, e))

  pub or_from_outcome : (start : List ℕ) (a : LogicalAnd × List ℕ) → Read (Spaced (IsAndText rule signature n)) start a → Outcome (Spaced (IsOrText rule signature n)) (Inner signature) start (read_or_from rule signature deeper a.0 a.1)
  or_from_outcome start a s = row_outcome and_row or_list (λ x xs t c is rows. let more = more_ors xs c rows in (((is.0.0, more.0.0), omega (arith, is.0.1, more.0.1)), (t, c, is.1, more.1, refl))) start a s

  pub or_outcome : (cs : List ℕ) → Outcome (Spaced (IsOrText rule signature n)) (Inner signature) cs (read_or rule signature deeper cs)
  or_outcome cs = onward (and_outcome cs) (λ a e s. or_from_outcome cs a s)

  or_rows : (e : LogicalOr) (t : List ℕ) → IsTypedOr signature e → or_depth e ≤ n → ReadMoreOrs rule e t → (xs : List LogicalAnd) × (or_list xs ≡ e) × AreRows (codes "||") (IsAndText rule signature n) t xs
  or_rows no_or t typed depth h = ([], refl, h)
  or_rows (or x more) t typed depth (s, a, c, sign, is, others, e) =
      let rest = or_rows more c typed.1 (omega (arith, depth)) others in
      (x ∷ rest.0, ap (or x) rest.1, (s, a, c, sign, ((typed.0, omega (arith, depth)), is), rest.2, e))

  pub or_again : (t : List ℕ) (e : LogicalOr) (rest : List ℕ) → IsOrText rule signature n t e → Follows ends_or rest → read_or rule signature deeper (t ++ rest) ≡ Ok (e, past_blanks rest)
  or_again t no_or rest h follows = absurd h.1
  or_again t (or x more) rest (good, (a, c, is, others, same)) follows =
      let rows = or_rows more c good.0.1 (omega (arith, good.1)) others in
      row_again and_row or_list x rows.0 t a c rest ((good.0.0, omega (arith, good.1)), is) rows.2 same follows ∙ ap (λ (l : LogicalOr). Ok (or x l, past_blanks rest)) rows.1
