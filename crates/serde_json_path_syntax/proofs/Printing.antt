-- What is printed of a part of any kind.
use Rattle.serde_json_path_syntax.proofs.Words.{nat_tests, common_steps, ◌≡◌, ◌≢◌, ◌∙◌, ℕ, zero, suc, ◌+◌, ◌-◌, ◌*◌, ◌/◌, ◌%◌, ◌<◌, ℤ, pos, negsuc, List, [], ◌++◌, codes, true, false, refl, sym, ap, append_assoc, arith, ◌≤◌, ◌∷◌, length, map, take, get_or, ints, decimal, HasWritten, IsPlainFormatter, amount_text, fraction_digits, number_text, query_text, joined, branch_text, and_text, and_texts, argument_texts, basic_text, basic_texts, call_text, operand_text, or_text, segment_text, segments_text, selector_text, selector_texts, has_written_append, has_written_of_eq, flat_map_more, map_more, take_all, branch_in, branches_named, ands_in, arguments_in, call_in, operand_in, or_in, ors_in, query_in, segments_in, selectors_in, Branch, a_query, a_segment, a_selector, an_or, an_and, a_basic, an_operand, a_call, Part, each_is, is_and, is_argument, is_basic, is_call, is_operand, is_or, is_query, is_segment, is_selector, nat_abs, Formatter}
use lib.Signed.{lt_z}
use Rattle.std.specs.List.{flat_map}
use Rattle.serde_json_path_syntax.proofs.Tree.NamedParts.{one_is, others, others-bound, others-cons, operand_of_comparable, operand_of_tested, others_are, within_get}

-- ---- the digits of a fraction, one after another; numbers with a sign and without

-- where the rest is 0
pub fraction_ended : (places rest : ℕ) → rest ≡ 0 → fraction_digits places rest ≡ []
fraction_ended places rest e = grind (arith, nat_tests, common_steps)

one_digit : (places rest : ℕ) → rest ≢ 0 → fraction_digits (suc places) rest ≡ decimal (rest / 100000000) ++ fraction_digits places ((rest % 100000000) * 10)
one_digit places rest h = grind (arith, h)

-- one digit more
pub fraction_more : (done : List ℕ) (counter rest : ℕ) → counter < 9 → rest ≢ 0
    → (done ++ decimal (rest / 100000000)) ++ fraction_digits (9 - (counter + 1)) ((rest % 100000000) * 10) ≡ done ++ fraction_digits (9 - counter) rest
fraction_more done counter rest h there =
    let left : 9 - counter ≡ suc (9 - (counter + 1)) = omega (arith, h) in
    append_assoc done _ _ ∙ ap (λ t. done ++ t) (sym (ap (λ n. fraction_digits n rest) left ∙ one_digit (9 - (counter + 1)) rest there))

-- ---- numbers by their sign and their size

pub negative : (i : ℤ) (size : ℕ) → size ≡ nat_abs i → lt_z i (pos 0) ≡ true → codes "-" ++ amount_text size ≡ number_text i
negative i size e below = grind (arith, nat_tests, common_steps, ints)

pub natural : (i : ℤ) (size : ℕ) → size ≡ nat_abs i → lt_z i (pos 0) ≡ false → amount_text size ≡ number_text i
natural i size e above = grind (arith, nat_tests, common_steps, ints)

-- ---- texts of parts that are printed one after another

module _ (separator : List ℕ) (ps : List Branch) where
  abbrev text_of : Part → List ℕ
  text_of part = branch_text (branch_in ps part.number)

  -- what is printed of the first i parts, each after a separator
  abbrev pub begun : List Part → ℕ → List ℕ
  begun parts i = flat_map (λ t. separator ++ t) (map text_of (take i parts))

  pub begun_more : (parts : List Part) (i : ℕ) (d : Part) → i < length parts → begun parts i ++ (separator ++ text_of (get_or parts i d)) ≡ begun parts (i + 1)
  begun_more parts i d h = grind (arith, nat_tests, common_steps, flat_map_more, map_more)

  -- one more is printed
  pub printed_more : {W : Type 0} (took : W → List ℕ → W → Type 0) (f g h : Formatter W) (parts : List Part) (i : ℕ) (d : Part) → i < length parts
      → HasWritten took f (begun parts i) g → HasWritten took g (separator ++ text_of (get_or parts i d)) h
      → HasWritten took f (begun parts (i + 1)) h
  printed_more took f g h parts i d within wrote next = has_written_of_eq _ _ _ _ _ (begun_more parts i d within) (has_written_append _ _ _ _ _ _ wrote next)

  -- the same, where the separator is printed by itself
  pub printed_apart : {W : Type 0} (took : W → List ℕ → W → Type 0) (f g h k : Formatter W) (parts : List Part) (i : ℕ) (d : Part) → i < length parts
      → HasWritten took f (begun parts i) g → HasWritten took g separator h → HasWritten took h (text_of (get_or parts i d)) k
      → HasWritten took f (begun parts (i + 1)) k
  printed_apart took f g h k parts i d within wrote between next = printed_more took f g k parts i d within wrote (has_written_append _ _ _ _ _ _ between next)

  listed : (parts : List Part) → map text_of parts ≡ map branch_text (branches_named ps parts)
  listed [] = refl
  listed (part ∷ parts) = ap (λ ts. text_of part ∷ ts) (listed parts)

  -- a first part, and what is printed of the others once none is left
  pub begun_whole : (parts : List Part) (d : Part) (i : ℕ) → 1 ≤ length parts → length (others parts) ≤ i → text_of (get_or parts 0 d) ++ begun (others parts) i ≡ joined separator (map branch_text (branches_named ps parts))
  begun_whole parts d i some all = grind (arith, nat_tests, common_steps, others-cons, listed)

  -- all are printed, after a text before the first
  pub all_printed : {W : Type 0} (took : W → List ℕ → W → Type 0) (f g h : Formatter W) (start : List ℕ) (parts : List Part) (d : Part) (i : ℕ)
      → 1 ≤ length parts → length (others parts) ≤ i → HasWritten took f (start ++ text_of (get_or parts 0 d)) g → HasWritten took g (begun (others parts) i) h
      → HasWritten took f (start ++ joined separator (map branch_text (branches_named ps parts))) h
  all_printed took f g h start parts d i some all first rest = grind (arith, nat_tests, common_steps, has_written_append, has_written_of_eq, begun_whole)

-- before anything is printed
pub nothing_printed : {W : Type 0} (took : W → List ℕ → W → Type 0) (f : Formatter W) → IsPlainFormatter f → HasWritten took f [] f
nothing_printed took f plain = record { wrote = record { parts = []; calls = refl; whole = refl }; plain = plain }

-- ---- one

pub text_of_query : (p : Branch) → is_query p ≡ true → branch_text p ≡ query_text (query_in p)
text_of_query p h = grind (arith, nat_tests, common_steps)

pub text_of_or : (p : Branch) → is_or p ≡ true → branch_text p ≡ or_text (or_in p)
text_of_or p h = grind (arith, nat_tests, common_steps)

pub text_of_operand : (p : Branch) → is_operand p ≡ true → branch_text p ≡ operand_text (operand_in p)
text_of_operand p h = grind (arith, nat_tests, common_steps)

pub text_of_call : (p : Branch) → is_call p ≡ true → branch_text p ≡ call_text (call_in p)
text_of_call p h = grind (arith, nat_tests, common_steps)

-- ---- many

more_segments : (ps : List Branch) → each_is is_segment ps ≡ true → flat_map (λ t. [] ++ t) (map branch_text ps) ≡ segments_text (segments_in ps)
more_segments (a_segment kind seg ∷ ps) h = ap (λ t. segment_text seg kind ++ t) (more_segments ps h)
more_segments _ h = cc

pub text_of_segments : (ps : List Branch) → each_is is_segment ps ≡ true → joined [] (map branch_text ps) ≡ segments_text (segments_in ps)
text_of_segments [] h = refl
text_of_segments (p ∷ ps) h = more_segments (p ∷ ps) h

pub texts_of_selectors : (ps : List Branch) → each_is is_selector ps ≡ true → map branch_text ps ≡ selector_texts (selectors_in ps)
texts_of_selectors (a_selector sel ∷ ps) h = ap (λ ts. selector_text sel ∷ ts) (texts_of_selectors ps h)
texts_of_selectors _ h = cc

texts_of_ands : (ps : List Branch) → each_is is_and ps ≡ true → map branch_text ps ≡ and_texts (ors_in ps)
texts_of_ands (an_and e ∷ ps) h = ap (λ ts. and_text e ∷ ts) (texts_of_ands ps h)
texts_of_ands _ h = cc

pub text_of_ands : (ps : List Branch) → each_is is_and ps ≡ true → joined (codes " || ") (map branch_text ps) ≡ or_text (ors_in ps)
text_of_ands [] h = refl
text_of_ands (p ∷ ps) h = ap (joined (codes " || ")) (texts_of_ands (p ∷ ps) h)

texts_of_basics : (ps : List Branch) → each_is is_basic ps ≡ true → map branch_text ps ≡ basic_texts (ands_in ps)
texts_of_basics (a_basic b ∷ ps) h = ap (λ ts. basic_text b ∷ ts) (texts_of_basics ps h)
texts_of_basics _ h = cc

pub text_of_basics : (ps : List Branch) → each_is is_basic ps ≡ true → joined (codes " && ") (map branch_text ps) ≡ and_text (ands_in ps)
text_of_basics [] h = refl
text_of_basics (p ∷ ps) h = ap (joined (codes " && ")) (texts_of_basics (p ∷ ps) h)

pub texts_of_arguments : (ps : List Branch) → each_is is_argument ps ≡ true → map branch_text ps ≡ argument_texts (arguments_in ps)
texts_of_arguments (an_operand o ∷ ps) h = ap (λ ts. operand_text o ∷ ts) (texts_of_arguments ps h)
texts_of_arguments (an_or e ∷ ps) h = ap (λ ts. or_text e ∷ ts) (texts_of_arguments ps h)
texts_of_arguments _ h = cc

pub ruleset of_kinds = (nat_tests, common_steps, has_written_append, has_written_of_eq, operand_of_comparable, operand_of_tested, text_of_query, text_of_or, text_of_operand, text_of_call, text_of_segments, texts_of_selectors, text_of_ands, text_of_basics, texts_of_arguments)

-- several parts, one after another
pub ruleset of_parts = (nat_tests, common_steps, has_written_append, has_written_of_eq, begun_whole, others, nothing_printed, printed_more, printed_apart, all_printed, text_of_segments, one_is, others-bound, others_are, within_get)
