-- Operands, comparisons and tests, by what holds one level deeper.
use Rattle.serde_json_path_parser.proofs.Words.{common_steps, Amount, billionths, literal_of, Numbers, ◌==◌, codes, bytes_eq, and_parts, ReadSegments, is_digit, is_exponent, nat_le, ◌&&◌, bytes_eq-Decides, QueryKind, root, current, query, Call, Literal, text, number, truth, null, Segments, call, Signature, ExpectedExpression, is_at, begins, is_small_letter, is_function_char, IsFunctionName, IsQuote, AllPass, is_blank, is_name_char, IsNumberLiteral, opens, IsLiteral, Reads, ReadsCall, query_sign, Parsed, past_blanks, byte_count, read_string, segment_list, begins_int, Operand, literal, called, Deeper, word, past_word, begins_call, read_literal_word, read_query, read_named_call, read_text, read_operand, ◌>>=◌, Basic, relation, test, queried, Operator, result_kind, IsTestKind, Kind, of_value, of_logical, WrongReturnType, ExpectedComparisonOperator, IsBlank, operator_sign, is_result, read_operator, read_comparable, read_test, read_right_side, read_relation, read_basic_from, ℕ, ◌<◌, ◌≡◌, inl, inr, true, false, List, [], ◌∷◌, ◌++◌, drop, Option, Ok, refl, sym, ap, ◌∙◌, append_assoc, Bool, arith, cond, Some, None, LongHand, read_named, or_parts, begins_operator, IsTypedOperand, operand_depth, ReadsOperand, ◌≤◌, held_decimal, decimal_literal}
use Rattle.serde_json_path_parser.proofs.Grammar.LogicalForms.{query_singular, IsGoodQuery, IsGoodCall, DeeperLaws, ends_operand, IsCallText, IsOperandText, singular_query, ends_basic, IsBasicText, IsComparableText, begins_operand, operand_begins, as_expression, no_blank_begins}
use Rattle.serde_json_path_parser.proofs.Grammar.Numbers.{goes_on}
use Rattle.serde_json_path_parser.proofs.Grammar.Numerals.{number_outcome, number_first, number_again}
use Rattle.serde_json_path_parser.proofs.Reading.{whole, front_each, front_begins, some_begun, begins_front, begins_where, differs, begins_differs, front_all, past_run, no_blank, blanks_of, begins_not, Spaced, after_one, Read, after_two, made_spaced, read_spaced, guarded, along, choose, inner, past_spaced, remade, Outcome, past_text, read_as, refused, onward, gives, Inner}
use Rattle.serde_json_path_parser.proofs.Grammar.Segments.{segments_outcome, same_segments, segments_again}
use Rattle.serde_json_path_parser.proofs.Rows.{Follows}
use Rattle.serde_json_path_parser.proofs.Grammar.Strings.{string_outcome, string_again, of_quote}

-- ---- words

-- a word that begins with a letter is a function name
word_is_name : (cs : List ℕ) → begins is_small_letter cs ≡ true → IsFunctionName (word cs) (word cs)
word_is_name cs e = record { first = front_begins is_function_char is_small_letter cs (λ c h. rw h refl) e; passes = front_each is_function_char cs; bytes_of = refl }

module _ (rule : Numbers) (signature : List ℕ → Option Signature) (n : ℕ) (deeper : Deeper) (laws : DeeperLaws rule signature n deeper) where
  -- ---- what a reading gives

  abbrev OperandOutcome : List ℕ → Parsed Operand → Type 0
  OperandOutcome cs answer = Outcome (Spaced (IsOperandText rule signature n)) (Inner signature) cs answer

  -- a literal word and the blanks after it
  word_outcome : (cs bytes : List ℕ) (l : Literal) → ((t : List ℕ) → t ≡ bytes → IsLiteral rule l t) → bytes_eq (word cs) bytes ≡ true → OperandOutcome cs (Ok (literal l, past_blanks (past_word cs)))
  word_outcome cs bytes l is e = read_spaced (literal l, past_word cs) (record { text = word cs; is_so = (tt, is (word cs) ((bytes_eq-Decides (word cs) bytes).0 e)); split = whole is_function_char cs })

  literal_word_outcome : (cs : List ℕ) → OperandOutcome cs (read_literal_word cs)
  literal_word_outcome cs =
      choose (word_outcome cs (codes "true") (truth true) (λ t same. same)) (λ _.
      choose (word_outcome cs (codes "false") (truth false) (λ t same. same)) (λ _.
      guarded ExpectedExpression LongHand (inl refl) (word_outcome cs (codes "null") null (λ t same. same))))

  quoted_outcome : (quote : ℕ) (cs : List ℕ) → IsQuote quote → begins (λ c. c == quote) cs ≡ true → OperandOutcome cs (read_text quote cs)
  unfolding read_text
  quoted_outcome quote cs is e = inner (along (after_one quote cs e) (made_spaced (λ bytes. literal (text bytes)) (λ t bytes h. (tt, h)) (string_outcome quote is (drop 1 cs))))

  pub query_outcome : (kind : QueryKind) (sign : ℕ) (cs : List ℕ) → query_sign kind ≡ sign ∷ [] → begins (λ c. c == sign) cs ≡ true
      → Outcome (Spaced (λ t q. IsGoodQuery signature n q × Reads rule q t)) (Inner signature) cs (read_query rule signature deeper kind cs)
  query_outcome kind sign cs is e =
      past_spaced (sign ∷ []) (after_one sign cs e)
      (made_spaced (λ ss. query kind (segment_list ss)) (λ t ss h. (h.0, (t, h.1, ap (λ (l : List ℕ). l ++ t) (sym is)))) (segments_outcome rule signature n deeper laws LongHand (drop 1 cs)))

  pub named_call_outcome : (cs : List ℕ) → begins_call cs ≡ true → Outcome (Spaced (IsCallText rule signature n)) (Inner signature) cs (read_named_call rule signature deeper cs)
  unfolding read_named_call
  named_call_outcome cs begun = grind (arith, after_one, and_parts, whole, word_is_name)

  pub operand_outcome : (cs : List ℕ) → OperandOutcome cs (read_operand rule signature deeper cs)
  operand_outcome cs =
      choose (quoted_outcome 39 cs (inl refl)) (λ _.
      choose (quoted_outcome 34 cs (inr refl)) (λ _.
      choose (λ e. remade (λ q. queried q) (λ t q h. h) (query_outcome current 64 cs refl e)) (λ _.
      choose (λ e. remade (λ q. queried q) (λ t q h. h) (query_outcome root 36 cs refl e)) (λ _.
      choose (λ e. remade (λ c. called c) (λ t c h. h) (named_call_outcome cs e)) (λ _.
      choose (λ e. literal_word_outcome cs) (λ _. inner (made_spaced (λ l. literal l) (λ t l h. (tt, h)) (number_outcome rule cs))))))))

-- ---- what stands after an operand

-- it begins with no character that passes a test, where neither a blank nor what may follow does
none_after : (p : ℕ → Bool) (rest : List ℕ) → ((c : ℕ) → is_blank c ≡ true → p c ≡ false) → ((c : ℕ) → ends_operand c ≡ true → p c ≡ false) → Follows ends_operand rest → begins p rest ≡ false
none_after p rest blank ends follows = grind (arith, begins_not, begins_where, front_each, whole)

ends_no_digit : (c : ℕ) → ends_operand c ≡ true → is_digit c ≡ false
ends_no_digit c e = grind (arith, e)

ends_no_letter : (c : ℕ) → ends_operand c ≡ true → is_small_letter c ≡ false
ends_no_letter c e = grind (arith, e)

blank_no_name : (c : ℕ) → is_blank c ≡ true → is_name_char c ≡ false
blank_no_name c e = let small : c < 33 = grind (arith, e) in grind (arith, small)

ends_no_name : (c : ℕ) → ends_operand c ≡ true → is_name_char c ≡ false
ends_no_name c e = let capital : (nat_le 65 c && nat_le c 90) ≡ false = grind (arith, e) in rw (ends_no_letter c e, ends_no_digit c e, capital) (grind (arith, e))

-- ---- literal words

-- a word is not a call where no `(` follows
word_alone : (w rest : List ℕ) → AllPass is_function_char w → Follows ends_operand rest → (word (w ++ rest) ≡ w) × (past_word (w ++ rest) ≡ rest) × (is_at "(" (past_word (w ++ rest)) ≡ false)
word_alone w rest passes follows = grind (arith, common_steps, none_after, ends_no_letter, ends_no_digit, past_run, front_all)

module _ (rule : Numbers) (signature : List ℕ → Option Signature) (n : ℕ) (deeper : Deeper) (laws : DeeperLaws rule signature n deeper) where
  -- ---- queries and calls

  pub query_again : (kind : QueryKind) (sign : ℕ) (a : List ℕ) (segs : Segments) (rest : List ℕ) → IsGoodQuery signature n (query kind segs) → ReadSegments rule segs a → Follows ends_operand rest
      → read_query rule signature deeper kind (sign ∷ (a ++ rest)) ≡ Ok (query kind segs, past_blanks rest)
  query_again kind sign a segs rest good reads follows =
      let closed = begins_where ends_operand opens false (past_blanks rest) (λ c e. grind (arith, e)) follows in
      let read = segments_again rule signature n deeper laws LongHand a segs rest (good, reads) (none_after is_name_char rest blank_no_name ends_no_name follows) closed in
      rw (read, same_segments segs) refl

  pub named_call_again : (t : List ℕ) (c : Call) (rest : List ℕ) → IsGoodCall signature n c → ReadsCall rule c t → (begins_call (t ++ rest) ≡ true) × (read_named_call rule signature deeper (t ++ rest) ≡ Ok (c, past_blanks rest))
  unfolding read_named_call
  named_call_again t (call f args) rest good (m, j, a, k, name, before, are, closing, e) =
      grind (arith, common_steps, begins_front, some_begun, past_run, front_all, append_assoc)

  -- ---- literals

  abbrev read : List ℕ → Parsed Operand
  read cs = read_operand rule signature deeper cs

  -- at a letter stands a call or a literal word
  at_letter : (cs : List ℕ) → begins is_small_letter cs ≡ true → read cs ≡ read_named rule signature deeper cs
  at_letter cs letter = grind (arith, begins_differs)

  word_again : (w rest : List ℕ) (l : Literal) → AllPass is_function_char w → begins is_small_letter (w ++ rest) ≡ true
      → ((cs : List ℕ) → word cs ≡ w → read_literal_word cs ≡ Ok (literal l, past_blanks (past_word cs))) → Follows ends_operand rest → read (w ++ rest) ≡ Ok (literal l, past_blanks rest)
  word_again w rest l passes letter at follows = grind (arith, at_letter, word_alone)

  quoted_again : (quote : ℕ) (cs bytes rest : List ℕ) → IsQuote quote → read_string quote cs ≡ Ok (bytes, rest) → read (quote ∷ cs) ≡ Ok (literal (text bytes), past_blanks rest)
  unfolding read_text
  quoted_again quote cs bytes rest is e = of_quote (λ q. read_string q cs ≡ Ok (bytes, rest) → read (q ∷ cs) ≡ Ok (literal (text bytes), past_blanks rest)) (λ e. rw e refl) (λ e. rw e refl) quote is e

  number_read : (t : List ℕ) (a : Amount) (rest : List ℕ) → IsNumberLiteral rule t a → Follows ends_operand rest → read (t ++ rest) ≡ Ok (literal (literal_of a), past_blanks rest)
  number_read t a rest is follows =
      let other : (k : ℕ) → begins_int k ≡ false → begins (λ c. c == k) (t ++ rest) ≡ false = λ k none. number_first rule (λ c. c == k) false t a rest (λ c e. differs begins_int k c none e) is in
      let no_word : begins is_small_letter (t ++ rest) ≡ false = number_first rule is_small_letter false t a rest (λ c e. grind (arith, e)) is in
      rw (other 39 refl, other 34 refl, other 64 refl, other 36 refl, no_word, number_again rule t a rest is (none_after goes_on rest (λ c e. grind (arith, e)) (λ c e. let exponent : is_exponent c ≡ false = grind (arith, e) in rw (ends_no_digit c e, exponent) (grind (arith, e))) follows)) refl

  -- ---- operands

  pub operand_again : (t : List ℕ) (o : Operand) (rest : List ℕ) → IsOperandText rule signature n t o → Follows ends_operand rest → read_operand rule signature deeper (t ++ rest) ≡ Ok (o, past_blanks rest)
  operand_again t (literal (text bytes)) rest h follows =
      let s = string_again t bytes rest h.1 in
      ap (λ (l : List ℕ). read (l ++ rest)) s.3 ∙ quoted_again s.0 (s.1 ++ rest) bytes rest s.2 s.4
  operand_again t (literal (number b)) rest h follows = number_read t (billionths b) rest h.1 follows
  operand_again t (literal (decimal_literal d)) rest h follows = number_read t (held_decimal d) rest h.1 follows
  operand_again t (literal (truth true)) rest h follows = ap (λ (l : List ℕ). read (l ++ rest)) h.1 ∙ word_again (codes "true") rest (truth true) (refl, (refl, (refl, (refl, tt)))) refl (λ cs is. rw is refl) follows
  operand_again t (literal (truth false)) rest h follows = ap (λ (l : List ℕ). read (l ++ rest)) h.1 ∙ word_again (codes "false") rest (truth false) (refl, (refl, (refl, (refl, (refl, tt))))) refl (λ cs is. rw is refl) follows
  operand_again t (literal null) rest h follows = ap (λ (l : List ℕ). read (l ++ rest)) h.1 ∙ word_again (codes "null") rest null (refl, (refl, (refl, (refl, tt)))) refl (λ cs is. rw is refl) follows
  operand_again t (queried (query root segs)) rest (good, (a, reads, e)) follows = rw (e, query_again root 36 a segs rest good reads follows) refl
  operand_again t (queried (query current segs)) rest (good, (a, reads, e)) follows = rw (e, query_again current 64 a segs rest good reads follows) refl
  operand_again t (called c) rest h follows = grind (arith, common_steps, named_call_again, and_parts, at_letter)

-- ---- operators

abbrev Found : List ℕ → Option (Operator × List ℕ) → Type 0
Found cs None = Unit {0}
Found cs (Some op) = cs ≡ operator_sign op.0 ++ op.1

either : (cs : List ℕ) {b : Bool} (x y : Option (Operator × List ℕ)) → (b ≡ true → Found cs x) → (b ≡ false → Found cs y) → Found cs (cond b x y)
either cs x y h1 h2 = grind (arith)

operator_found : (cs : List ℕ) → Found cs (read_operator cs)
operator_found cs = grind (arith, either, after_two, after_one)

-- neither a blank nor an operand begins with `=`
no_equals : (k cs : List ℕ) → IsBlank k → begins begins_operand cs ≡ true → is_at "=" (k ++ cs) ≡ false
no_equals k cs blank first =
    begins_not (λ c. c == 61) k cs (λ c e. differs is_blank 61 c refl e) blank (begins_differs begins_operand 61 cs refl first)

operator_again : (op : Operator) (rest : List ℕ) → is_at "=" rest ≡ false → read_operator (operator_sign op ++ rest) ≡ Some (op, rest)
operator_again op rest h1 = grind (arith)

-- no operator is there where none may begin
pub no_operator : (cs : List ℕ) → begins begins_operator cs ≡ false → read_operator cs ≡ None
no_operator cs h1 = grind (arith, or_parts)

operator_ends : (op : Operator) (rest : List ℕ) → begins ends_operand (operator_sign op ++ rest) ≡ true
operator_ends op rest = grind (arith)

-- ---- what begins and what ends

-- what ends a basic expression ends an operand
pub basic_ends_operand : (rest : List ℕ) → Follows ends_basic rest → Follows ends_operand rest
basic_ends_operand rest follows = begins_where ends_basic ends_operand true (past_blanks rest) (λ c e. grind (arith, e)) follows

pub test_no_value : (kind : Option Kind) → IsTestKind kind → is_result of_value kind ≡ false
test_no_value kind h1 = grind (arith)

-- ---- results of calls

pub value_result : (kind : Option Kind) → is_result of_value kind ≡ true → kind ≡ Some of_value
value_result kind h1 = grind (arith)

test_result : (kind : Kind) → is_result of_value (Some kind) ≡ false → IsTestKind (Some kind)
test_result kind h1 = grind (arith)

module _ (rule : Numbers) (signature : List ℕ → Option Signature) (n : ℕ) where
  -- a well-typed call whose result is no value may stand as a test
  pub may_test : (c : Call) → IsGoodCall signature n c → is_result of_value (result_kind signature c) ≡ false → IsTestKind (result_kind signature c)
  may_test c h1 h2 = grind (arith, test_result)

module _ (rule : Numbers) (signature : List ℕ → Option Signature) (n : ℕ) (deeper : Deeper) (laws : DeeperLaws rule signature n deeper) where
  -- ---- what a reading gives

  -- an operand of this text, which stands before
  comparable_outcome : (is : List ℕ → Operand → Type 0) (start before t : List ℕ) (o : Operand) (cs : List ℕ) → IsOperandText rule signature n t o → start ≡ before ++ cs → ((a : Operand) → IsComparableText rule signature n t a → is before a)
      → Outcome is (Inner signature) start (read_comparable rule signature deeper (byte_count start) o cs)
  comparable_outcome is start before t o cs h1 h2 h3 = grind (arith, gives, guarded, singular_query, value_result)

  -- what is read as a test of an operand is one of the text that good says
  pub test_outcome : (is : List ℕ → Basic → Type 0) (negated : Bool) (start : List ℕ) (o : Operand × List ℕ) → Read (Spaced (IsOperandText rule signature n)) start o
      → ((o : Operand) (t : List ℕ) → (IsTypedOperand signature o of_logical × (operand_depth o ≤ n)) × ReadsOperand rule o t → is t (test negated o))
      → Outcome (Spaced is) (Inner signature) start (read_test rule signature deeper negated (byte_count start) o.0 o.1)
  test_outcome is negated start (literal l, cs) s good = past_text s.text s.split (refused ExpectedComparisonOperator LongHand (inl refl))
  test_outcome is negated start (queried q, cs) s good = read_as (test negated (queried q)) s (good (queried q))
  test_outcome is negated start (called c, cs) s good =
      choose (λ e. refused WrongReturnType LongHand (inl refl)) (λ e. read_as (test negated (called c)) s (λ t h. good (called c) t (((h.0.0, may_test rule signature n c h.0 e), h.0.1), h.1)))

  right_side_outcome : (cs : List ℕ) → Outcome (Spaced (IsComparableText rule signature n)) (Inner signature) cs (read_right_side rule signature deeper cs)
  right_side_outcome cs = onward (operand_outcome rule signature n deeper laws cs) (λ o e s.
      comparable_outcome (Spaced (IsComparableText rule signature n)) cs s.text s.is_so.0 o.0 o.1 s.is_so.2 s.split (λ a h. (s.is_so.0, s.is_so.1, h, s.is_so.3, s.is_so.4)))

  pub basic_from_outcome : (start : List ℕ) (o : Operand × List ℕ) → Read (Spaced (IsOperandText rule signature n)) start o → Outcome (Spaced (IsBasicText rule signature n)) (Inner signature) start (read_basic_from rule signature deeper (byte_count start) o.0 o.1)
  basic_from_outcome start o s = by_operator (read_operator o.1) (operator_found o.1)
    where
      by_operator : (op : Option (Operator × List ℕ)) → Found o.1 op → Outcome (Spaced (IsBasicText rule signature n)) (Inner signature) start (read_relation rule signature deeper (byte_count start) o.0 op o.1)
      by_operator None found = test_outcome (IsBasicText rule signature n) false start o s (λ o t h. h)
      by_operator (Some op) found =
          let t = s.is_so.0 in
          let k = s.is_so.1 in
          let j = blanks_of op.1 in
          let sign = k ++ (operator_sign op.0 ++ j) in
          let split : start ≡ (t ++ sign) ++ past_blanks op.1 =
          s.split ∙ ap (λ (l : List ℕ). l ++ o.1) s.is_so.4 ∙ ap (λ (l : List ℕ). (t ++ k) ++ l) (found ∙ ap (λ (l : List ℕ). operator_sign op.0 ++ l) (whole is_blank op.1))
          ∙ regrouped t k (operator_sign op.0) j (past_blanks op.1) in
          onward (comparable_outcome (λ u a. IsComparableText rule signature n t a × (u ≡ t ++ sign)) start (t ++ sign) t o.0 (past_blanks op.1) s.is_so.2 split (λ a h. (h, refl))) (λ a e r.
          past_spaced r.text r.split (remade (λ b. relation a.0 op.0 b) (λ u b h. (
            ((r.is_so.0.0.0, h.0.0), omega (arith, r.is_so.0.0.1, h.0.1)),
            (t, sign, u, r.is_so.0.1, (k, j, s.is_so.3, front_each is_blank op.1, refl), h.1, ap (λ (l : List ℕ). l ++ u) r.is_so.1 ∙ append_assoc t sign u),
          )) (right_side_outcome a.1)))
        where
          regrouped : (t k o j d : List ℕ) → (t ++ k) ++ (o ++ (j ++ d)) ≡ (t ++ (k ++ (o ++ j))) ++ d
          regrouped t k o j d = simp append_assoc refl

  -- ---- what is good is read

  as_operand : (a : Operand) (t : List ℕ) → IsComparableText rule signature n t a → IsOperandText rule signature n t a
  as_operand a t h1 = grind (arith)

  comparable_again : (start : List ℕ) (a : Operand) (t cs : List ℕ) → IsComparableText rule signature n t a → read_comparable rule signature deeper (byte_count start) a cs ≡ Ok (a, cs)
  comparable_again start a t cs h1 = grind (arith, query_singular)

  pub test_again : (negated : Bool) (start : List ℕ) (o : Operand) (cs : List ℕ) → IsTypedOperand signature o of_logical → read_test rule signature deeper negated (byte_count start) o cs ≡ Ok (test negated o, cs)
  test_again negated start o cs h1 = grind (arith, test_no_value)

  -- an operand, and what it is made after it
  abbrev pub compared : List ℕ → Parsed Basic
  compared cs = read_operand rule signature deeper cs >>= λ o. read_basic_from rule signature deeper (byte_count cs) o.0 o.1

  pub relation_again : (t : List ℕ) (left : Operand) (op : Operator) (right : Operand) (rest : List ℕ) → IsBasicText rule signature n t (relation left op right) → Follows ends_basic rest
      → compared (t ++ rest) ≡ Ok (relation left op right, past_blanks rest)
  relation_again t left op right rest (good, (a, s, b, is_left, (j, k, before, after, sign), is_right, same)) follows =
      let here = operator_sign op ++ (k ++ (b ++ rest)) in
      let start = a ++ (j ++ here) in
      let whole : t ++ rest ≡ start = ap (λ (l : List ℕ). l ++ rest) (same ∙ ap (λ (l : List ℕ). a ++ (l ++ b)) sign) ∙ regrouped a j (operator_sign op) k b rest in
      let left_good : IsComparableText rule signature n a left = ((good.0.0, omega (arith, good.1)), is_left) in
      let right_good : IsComparableText rule signature n b right = ((good.0.1, omega (arith, good.1)), is_right) in
      let o = as_operand right b right_good in
      let first = operand_begins rule right b rest o.1 in
      let sign_ends = operator_ends op (k ++ (b ++ rest)) in
      let past : past_blanks (j ++ here) ≡ here = past_run is_blank j here before (begins_where ends_operand is_blank false here (λ c e. no_blank ends_operand c refl refl refl refl e) sign_ends) in
      let left_read : read_operand rule signature deeper start ≡ Ok (left, here) =
      operand_again rule signature n deeper laws a left (j ++ here) (as_operand left a left_good) (ap (begins ends_operand) past ∙ sign_ends)
      ∙ ap (λ (l : List ℕ). Ok (left, l)) past in
      let right_read = operand_again rule signature n deeper laws b right rest o (basic_ends_operand rest follows) in
      let found = operator_again op (k ++ (b ++ rest)) (no_equals k (b ++ rest) after first) in
      ap compared whole ∙ rw (left_read, found)
      (rw (past_run is_blank k (b ++ rest) after (no_blank_begins (b ++ rest) (as_expression (b ++ rest) first)), comparable_again start left a (b ++ rest) left_good, right_read, comparable_again (b ++ rest) right b (past_blanks rest) right_good) refl)
    where
      regrouped : (a j o k b d : List ℕ) → (a ++ ((j ++ (o ++ k)) ++ b)) ++ d ≡ a ++ (j ++ (o ++ (k ++ (b ++ d))))
      regrouped a j o k b d = simp append_assoc refl

  pub tested : (t : List ℕ) (o : Operand) (rest : List ℕ) → IsOperandText rule signature n t o → Follows ends_basic rest → compared (t ++ rest) ≡ read_test rule signature deeper false (byte_count (t ++ rest)) o (past_blanks rest)
  tested t o rest h follows =
      rw (operand_again rule signature n deeper laws t o rest h (basic_ends_operand rest follows))
      (ap (λ op. read_relation rule signature deeper (byte_count (t ++ rest)) o op (past_blanks rest)) (no_operator (past_blanks rest) (begins_where ends_basic begins_operator false (past_blanks rest) (λ c e. grind (arith, e)) follows)))
