-- Printed texts read back: what reads as a tree, or as a part of one, has the tree printed in a text that reads as it.
-- a text between quotes
pub mod QuotedTexts
-- numbers, slices and literals
pub mod Literals
use Rattle.serde_json_path_parser.proofs.Words.{common_steps, rules, Numbers, true, false, flat_map, IsUtf8, chars, all_scalars, nat_tests, chars-encodes, scalars-chars, Query, query, QueryKind, root, current, Segments, no_segments, segment, SegmentKind, child, descendant, Segment, dot_name, dot_wildcard, long_hand, Selectors, no_selectors, selector, Selector, name, wildcard, index, slice, filter, LogicalOr, no_or, or, LogicalAnd, no_and, and, Basic, paren, relation, test, Operand, literal, queried, called, Call, call, Arguments, no_arguments, argument, Argument, operand, logical_argument, Operator, equal, not_equal, less, less_or_equal, greater, greater_or_equal, operator_text, query_kind_text, dots_of, bracket_dots_of, joined, query_text, segments_text, segment_text, selector_texts, selector_text, or_text, and_texts, and_text, basic_texts, basic_text, operand_text, call_text, argument_texts, argument_text, IsFunctionName, is_function_char, Reads, ReadSegments, ReadsSegment, ReadSelectors, ReadMoreSelectors, ReadsSelector, ReadsOr, ReadMoreOrs, ReadsAnd, ReadMoreAnds, ReadsBasic, ReadsOperand, ReadsCall, ReadArguments, ReadMoreArguments, ReadsArgument, InParentheses, Negated, IsSign, IsName, query_sign, operator_sign, dots_before_bracket, dots_before_name, ◌≡◌, ◌<◌, ℕ, List, [], ◌++◌, codes, refl, sym, ap, subst, ◌∙◌, append_assoc, arith, Bool, negation_text}
use QuotedTexts.{Spells, Spelt, spell_nothing, scalars_parts, scalars_of, spell_both, spell_ascii, spell_passing, spell_sign, spelt_nothing, spelt_as, spelt_after, spelt_between, spelt_both, string_spelt}
use Literals.{int_spelt, slice_spelt, literal_spelt}

-- ---- signs: those that are printed spell those of the grammar

kind_spells : (kind : QueryKind) → Spells (query_kind_text kind) (query_sign kind)
kind_spells kind = grind (arith, common_steps)

dots_spell : (kind : SegmentKind) → Spells (dots_of kind) (dots_before_name kind)
dots_spell kind = grind (arith, common_steps)

bracket_dots_spell : (kind : SegmentKind) → Spells (bracket_dots_of kind) (dots_before_bracket kind)
bracket_dots_spell kind = grind (arith, common_steps)

operator_spells : (op : Operator) → Spells (operator_text op) (operator_sign op)
operator_spells op = grind (arith, common_steps)

-- ---- names

function_name_spells : (t bytes : List ℕ) → IsFunctionName t bytes → Spells bytes t
function_name_spells t bytes is = rw is.bytes_of (spell_passing is_function_char (λ c e. grind (arith, nat_tests, e)) t is.passes)

-- ---- parts joined

-- the parts of a text after a sign
scalars_after : (t s a b : List ℕ) → all_scalars t ≡ true → t ≡ s ++ (a ++ b) → (all_scalars a ≡ true) × (all_scalars b ≡ true)
scalars_after t s a b e split = scalars_parts a b (scalars_of t s (a ++ b) e split).1

-- the part between two others
scalars_inside : (t s j a rest : List ℕ) → all_scalars t ≡ true → t ≡ s ++ (j ++ (a ++ rest)) → all_scalars a ≡ true
scalars_inside t s j a rest e split = (scalars_parts a rest (scalars_after t s j (a ++ rest) e split).1).0

-- commas and operators are printed with blanks
comma_spelt : Spelt (IsSign (codes ",")) (codes ", ")
comma_spelt = record { characters = codes ", "; spells = spell_ascii (codes ", ") (omega arith, (omega arith, tt)); is_so = ([], codes " ", tt, (refl, tt), refl) }

blank_spells : Spells (codes " ") (codes " ")
blank_spells = spell_sign 32 (omega arith)

between_blanks : (sign : List ℕ) → IsSign sign (codes " " ++ (sign ++ codes " "))
between_blanks sign = (codes " ", codes " ", (refl, tt), (refl, tt), refl)

operator_spelt : (sign : List ℕ) → Spells sign sign → Spelt (IsSign sign) (codes " " ++ (sign ++ codes " "))
operator_spelt sign h = search (rules, (codes " " ++ (sign ++ codes " ")), (spell_both blank_spells (spell_both h blank_spells)), (between_blanks sign))

module _ {Is More : List ℕ → Type 0} {first more : List ℕ} where
  -- a first part and more
  both : Spelt Is first → Spelt More more → Spelt (λ t. (a b : List ℕ) × Is a × More b × (t ≡ a ++ b)) (first ++ more)
  both x y = spelt_both x y (λ a b is others. (a, b, is, others, refl))

  -- one more part after a sign
  one_more : (sign : List ℕ) {bytes : List ℕ} → Spelt (IsSign sign) bytes → Spelt Is first → Spelt More more
      → Spelt (λ t. (s a b : List ℕ) × IsSign sign s × Is a × More b × (t ≡ s ++ (a ++ b))) ((bytes ++ first) ++ more)
  one_more sign s x y = search (rules, (spell_both (spell_both s.spells x.spells) y.spells), append_assoc)

in_parentheses : {Is : List ℕ → Type 0} {bytes : List ℕ} → Spelt Is bytes → Spelt (InParentheses Is) ((codes "(" ++ bytes) ++ codes ")")
in_parentheses x = spelt_between (spell_sign 40 (omega arith)) x (spell_sign 41 (omega arith)) (λ a is. ([], a, [], tt, is, tt, refl))

negated : {Is : List ℕ → Type 0} {bytes : List ℕ} → Spelt Is bytes → Spelt (Negated true Is) (codes "!" ++ bytes)
negated x = spelt_after (spell_sign 33 (omega arith)) x (λ a is. ([], a, tt, is, refl))

-- what may be negated
negation_spelt : {Is : List ℕ → Type 0} {bytes : List ℕ} (b : Bool) (t : List ℕ) → all_scalars t ≡ true → ((t : List ℕ) → all_scalars t ≡ true → Is t → Spelt Is bytes) → Negated b Is t → Spelt (Negated b Is) (negation_text b ++ bytes)
negation_spelt false t e spelt h = spelt t e h
negation_spelt true t e spelt (k, a, blank, inside, split) = negated (spelt a (scalars_after t (codes "!") k a e split).1 inside)

-- ---- trees, part by part

module _ (rule : Numbers) where
  mutual
    query_spelt : (q : Query) (t : List ℕ) → all_scalars t ≡ true → Reads rule q t → Spelt (Reads rule q) (query_text q)
    query_spelt (query kind segs) t e (a, segments, split) =
        spelt_after (kind_spells kind) (segments_spelt segs a (scalars_of t (query_sign kind) a e split).1 segments) (λ a is. (a, is, refl))

    segments_spelt : (segs : Segments) (t : List ℕ) → all_scalars t ≡ true → ReadSegments rule segs t → Spelt (ReadSegments rule segs) (segments_text segs)
    segments_spelt no_segments t e h = spelt_nothing refl
    segments_spelt (segment kind seg more) t e (k, a, b, blank, first, rest, split) =
        let h = scalars_after t k a b e split in
        spelt_both (segment_spelt seg kind a h.0 first) (segments_spelt more b h.1 rest) (λ a b is others. ([], a, b, tt, is, others, refl))

    segment_spelt : (seg : Segment) (kind : SegmentKind) (t : List ℕ) → all_scalars t ≡ true → ReadsSegment rule seg kind t → Spelt (ReadsSegment rule seg kind) (segment_text seg kind)
    segment_spelt (dot_name bytes) kind t e (a, is, split) =
        let name : Spells bytes a = record { scalars = (scalars_of t (dots_before_name kind) a e split).1; encoded = sym is.bytes_of } in
        spelt_after {Is = λ t. IsName t bytes} (dots_spell kind) (record { characters = a; spells = name; is_so = is }) (λ a is. (a, is, refl))
    segment_spelt dot_wildcard kind t e h =
        record { characters = dots_before_name kind ++ codes "*"; spells = spell_both (dots_spell kind) (spell_sign 42 (omega arith)); is_so = refl }
    segment_spelt (long_hand sels) kind t e (j, a, k, blank, inside, blank', split) =
        let x = selectors_spelt sels a (scalars_inside t (dots_before_bracket kind) (codes "[" ++ j) a (k ++ codes "]") e split) inside in
        spelt_between (spell_both (bracket_dots_spell kind) (spell_sign 91 (omega arith))) x (spell_sign 93 (omega arith)) (λ a is. ([], a, [], tt, is, tt, simp append_assoc refl))

    selectors_spelt : (sels : Selectors) (t : List ℕ) → all_scalars t ≡ true → ReadSelectors rule sels t → Spelt (ReadSelectors rule sels) (joined (codes ", ") (selector_texts sels))
    selectors_spelt no_selectors t e h = elim h [ ]
    selectors_spelt (selector sel more) t e (a, b, first, rest, split) =
        let h = scalars_of t a b e split in
        both (selector_spelt sel a h.0 first) (more_selectors_spelt more b h.1 rest)

    more_selectors_spelt : (sels : Selectors) (t : List ℕ) → all_scalars t ≡ true → ReadMoreSelectors rule sels t
        → Spelt (ReadMoreSelectors rule sels) (flat_map (λ t. codes ", " ++ t) (selector_texts sels))
    more_selectors_spelt no_selectors t e h = spelt_nothing refl
    more_selectors_spelt (selector sel more) t e (s, a, b, sign, first, rest, split) =
        let h = scalars_after t s a b e split in
        one_more (codes ",") comma_spelt (selector_spelt sel a h.0 first) (more_selectors_spelt more b h.1 rest)

    selector_spelt : (sel : Selector) (t : List ℕ) → all_scalars t ≡ true → ReadsSelector rule sel t → Spelt (ReadsSelector rule sel) (selector_text sel)
    selector_spelt (name bytes) t e h = string_spelt t bytes e h
    selector_spelt wildcard t e h = record { characters = codes "*"; spells = spell_sign 42 (omega arith); is_so = refl }
    selector_spelt (index i) t e h = int_spelt t i h
    selector_spelt (slice s) t e h = slice_spelt s t h
    selector_spelt (filter c) t e (k, a, blank, inside, split) =
        spelt_after (spell_sign 63 (omega arith)) (ors_spelt c a (scalars_after t (codes "?") k a e split).1 inside) (λ a is. ([], a, tt, is, refl))

    ors_spelt : (c : LogicalOr) (t : List ℕ) → all_scalars t ≡ true → ReadsOr rule c t → Spelt (ReadsOr rule c) (or_text c)
    ors_spelt no_or t e h = elim h [ ]
    ors_spelt (or part more) t e (a, b, first, rest, split) =
        let h = scalars_of t a b e split in
        both (ands_spelt part a h.0 first) (more_ors_spelt more b h.1 rest)

    more_ors_spelt : (c : LogicalOr) (t : List ℕ) → all_scalars t ≡ true → ReadMoreOrs rule c t → Spelt (ReadMoreOrs rule c) (flat_map (λ t. codes " || " ++ t) (and_texts c))
    more_ors_spelt no_or t e h = spelt_nothing refl
    more_ors_spelt (or part more) t e (s, a, b, sign, first, rest, split) =
        let h = scalars_after t s a b e split in
        one_more (codes "||") (operator_spelt (codes "||") (spell_ascii (codes "||") (omega arith, (omega arith, tt)))) (ands_spelt part a h.0 first) (more_ors_spelt more b h.1 rest)

    ands_spelt : (c : LogicalAnd) (t : List ℕ) → all_scalars t ≡ true → ReadsAnd rule c t → Spelt (ReadsAnd rule c) (and_text c)
    ands_spelt no_and t e h = elim h [ ]
    ands_spelt (and part more) t e (a, b, first, rest, split) =
        let h = scalars_of t a b e split in
        both (basic_spelt part a h.0 first) (more_ands_spelt more b h.1 rest)

    more_ands_spelt : (c : LogicalAnd) (t : List ℕ) → all_scalars t ≡ true → ReadMoreAnds rule c t → Spelt (ReadMoreAnds rule c) (flat_map (λ t. codes " && " ++ t) (basic_texts c))
    more_ands_spelt no_and t e h = spelt_nothing refl
    more_ands_spelt (and part more) t e (s, a, b, sign, first, rest, split) =
        let h = scalars_after t s a b e split in
        one_more (codes "&&") (operator_spelt (codes "&&") (spell_ascii (codes "&&") (omega arith, (omega arith, tt)))) (basic_spelt part a h.0 first) (more_ands_spelt more b h.1 rest)

    basic_spelt : (part : Basic) (t : List ℕ) → all_scalars t ≡ true → ReadsBasic rule part t → Spelt (ReadsBasic rule part) (basic_text part)
    basic_spelt (paren b c) t e h = negation_spelt b t e (λ t e (j, a, k, blank, inside, blank', split).
        in_parentheses (ors_spelt c a (scalars_inside t (codes "(") j a (k ++ codes ")") e split) inside)) h
    basic_spelt (relation left op right) t e (a, s, b, l, sign, r, split) =
        let x = operand_spelt left a (scalars_of t a (s ++ b) e split).0 l in
        let y = operand_spelt right b (scalars_after t a s b e split).1 r in
        let o = operator_spells op in
        record {
          characters = (((x.characters ++ codes " ") ++ operator_sign op) ++ codes " ") ++ y.characters;
          spells = spell_both (spell_both (spell_both (spell_both x.spells blank_spells) o) blank_spells) y.spells;
          is_so = (x.characters, codes " " ++ (operator_sign op ++ codes " "), y.characters, x.is_so, between_blanks (operator_sign op), y.is_so, simp append_assoc refl);
        }
    basic_spelt (test b o) t e h = negation_spelt b t e (λ t e h. operand_spelt o t e h) h

    operand_spelt : (o : Operand) (t : List ℕ) → all_scalars t ≡ true → ReadsOperand rule o t → Spelt (ReadsOperand rule o) (operand_text o)
    operand_spelt (literal l) t e h = literal_spelt rule l t e h
    operand_spelt (queried q) t e h = query_spelt q t e h
    operand_spelt (called c) t e h = call_spelt c t e h

    call_spelt : (c : Call) (t : List ℕ) → all_scalars t ≡ true → ReadsCall rule c t → Spelt (ReadsCall rule c) (call_text c)
    call_spelt (call f args) t e (n, j, a, k, is, blank, inside, blank', split) =
        let x = arguments_spelt args a (scalars_inside t n (codes "(" ++ j) a (k ++ codes ")") e split) inside in
        spelt_between (spell_both (function_name_spells n f is) (spell_sign 40 (omega arith))) x (spell_sign 41 (omega arith)) (λ a inside. (n, [], a, [], is, tt, inside, tt, simp append_assoc refl))

    arguments_spelt : (args : Arguments) (t : List ℕ) → all_scalars t ≡ true → ReadArguments rule args t → Spelt (ReadArguments rule args) (joined (codes ", ") (argument_texts args))
    arguments_spelt no_arguments t e h = spelt_nothing refl
    arguments_spelt (argument arg more) t e (a, b, first, rest, split) =
        let h = scalars_of t a b e split in
        both (argument_spelt arg a h.0 first) (more_arguments_spelt more b h.1 rest)

    more_arguments_spelt : (args : Arguments) (t : List ℕ) → all_scalars t ≡ true → ReadMoreArguments rule args t
        → Spelt (ReadMoreArguments rule args) (flat_map (λ t. codes ", " ++ t) (argument_texts args))
    more_arguments_spelt no_arguments t e h = spelt_nothing refl
    more_arguments_spelt (argument arg more) t e (s, a, b, sign, first, rest, split) =
        let h = scalars_after t s a b e split in
        one_more (codes ",") comma_spelt (argument_spelt arg a h.0 first) (more_arguments_spelt more b h.1 rest)

    argument_spelt : (arg : Argument) (t : List ℕ) → all_scalars t ≡ true → ReadsArgument rule arg t → Spelt (ReadsArgument rule arg) (argument_text arg)
    argument_spelt (operand o) t e h = spelt_as (λ a is. (h.0, is)) (operand_spelt o t e h.1)
    argument_spelt (logical_argument c) t e h = spelt_as (λ a is. (h.0, is)) (ors_spelt c t e h.1)

-- ---- whole queries

pub printed_reads_back : (rule : Numbers) (text : List ℕ) (q : Query) → IsUtf8 text → Reads rule q (chars text) → Reads rule q (chars (query_text q))
printed_reads_back rule text q utf8 reads = grind (arith, common_steps, query_spelt, scalars-chars, chars-encodes)
