-- The texts of null, truth values and integers are their JSON in each layout.
use Rattle.jsonpath_lines.proofs.Words.{◌≡◌, ℕ, ◌^◌, ◌<◌, ℤ, pos, negsuc, List, [], ◌∷◌, Bool, true, false, Some, None, if◌then◌else◌, int_lt, SFits, w64, decimal, rules, refl, sym, ap, subst, ◌∙◌, arith, append-nil, option_and_then, signed_decimal, Token, tokens, print, token_text, json_tokens, HasNumbers, IsNumber-decimal, IsNumber-signed_decimal, tokens-print, ArePrintable-json_tokens, Data, unsigned, negative, null, boolean, number, as_number, as_u64, as_i64, view, blank, compact_text, outline, number_of-decimal, number_of-negative, print-outline, unless_float-number_of, IsJsonIn, IsJsonOf, IsPrettyOf, IsLaid, IsPrintedOf, Layout, Compact, Pretty, pretty, pretty_from, option_map, has_float, of_json, read, depth, max_depth, ◌≤◌, nat_tests, common_steps}
use Rattle.json.specs.Json as json
use Rattle.serde_json.specs.declared.value.Value as value
use Rattle.jsonpath_lines.proofs.Arrays.{read_tree}

-- one token alone has the same text in each layout
pretty_token : (t : Token) → pretty (t ∷ []) ≡ token_text t
unfolding pretty_from
pretty_token t = append-nil (token_text t)

-- a value of one token that has no float and is its outline: its compact text is its JSON in each layout
pub in_each : (layout : Layout) (d : Data) (t : Token) → json_tokens (outline d) ≡ t ∷ [] → token_text t ≡ compact_text d → HasNumbers (outline d) → blank (outline d) ≡ outline d
    → of_json (outline d) ≡ Some d → has_float d ≡ false → IsLaid layout d (compact_text d)
in_each layout d t one text numbers same back exact =
    let said : tokens (compact_text d) ≡ json_tokens (outline d) = ap tokens (sym (print-outline d)) ∙ tokens-print (json_tokens (outline d)) (ArePrintable-json_tokens (outline d) numbers) in
    let reads : depth d ≤ max_depth → read (compact_text d) ≡ Some d = λ shallow. read_tree (compact_text d) (outline d) d said same shallow ∙ back in
    let printed : IsPrintedOf d (compact_text d) = (sym (ap print said ∙ print-outline d), (outline d, said, same), reads) in
    let indented : IsPrettyOf d (compact_text d) = (sym (ap pretty (said ∙ one) ∙ pretty_token t ∙ text), (outline d, said, same), reads) in
    (by_layout layout d (compact_text d) (λ _. refl, reads, λ float. absurd cc) indented, λ _. printed)
  where
    by_layout : (layout : Layout) (d : Data) (text : List ℕ) → IsJsonOf d text → IsPrettyOf d text → IsJsonIn layout d text
    by_layout Compact d text one_line indented = one_line
    by_layout Pretty d text one_line indented = indented

-- a value without parts
pub json_of_null : (layout : Layout) (v : value.Value) → v ≡ value.Null → IsLaid layout (view v) (compact_text null)
json_of_null layout v is =
    let seen : null ≡ view v = search (rules, value.the_lemmas) in
    subst (λ d. IsLaid layout d (compact_text null)) seen (in_each layout null Token.null refl refl tt refl refl refl)

pub json_of_boolean : (layout : Layout) (v : value.Value) (held b : Bool) → v ≡ value.Bool held → held ≡ b → IsLaid layout (view v) (compact_text (boolean b))
json_of_boolean layout v held b is same =
    let seen : boolean b ≡ view v = search (rules, value.the_lemmas) in
    subst (λ d. IsLaid layout d (compact_text (boolean b))) seen (in_each layout (boolean b) (Token.boolean b) refl refl tt refl refl refl)

-- a value that is held as an unsigned integer
pub json_of_u64 : (layout : Layout) (d : Data) (n : ℕ) → n < 2 ^ 64 → option_and_then as_u64 (as_number d) ≡ Some n → IsLaid layout d (decimal n)
json_of_u64 layout (number (unsigned m)) n h e =
    let same : m ≡ n = cc in
    let back = number_of-decimal n h in
    rw same (in_each layout (number (unsigned n)) (Token.number (decimal n)) refl refl (IsNumber-decimal n h)
    (ap json.number (unless_float-number_of (decimal n) (unsigned n) back)) (ap (option_map number) back) refl)
json_of_u64 layout _ n h e = absurd cc

not_unsigned : (small : Bool) (m n : ℕ) → (if small then Some (pos m) else None) ≡ Some (negsuc n) → ⊥
not_unsigned small m n e = grind (arith, nat_tests, common_steps)

-- a value that is held as a negative integer
pub json_of_i64 : (layout : Layout) (d : Data) (z : ℤ) → SFits w64 z → int_lt z (pos 0) ≡ true → option_and_then as_i64 (as_number d) ≡ Some z → IsLaid layout d (signed_decimal z)
json_of_i64 layout (number (negative z)) (negsuc n) fits below e =
    let same : z ≡ negsuc n = cc in
    let h : n < 2 ^ 63 = grind arith in
    let back = number_of-negative n h in
    rw same (in_each layout (number (negative (negsuc n))) (Token.number (signed_decimal (negsuc n))) refl refl (IsNumber-signed_decimal (negsuc n) h)
    (ap json.number (unless_float-number_of (signed_decimal (negsuc n)) (negative (negsuc n)) back)) (ap (option_map number) back) refl)
json_of_i64 layout d z fits below e = first_of (assumption, grind (arith, nat_tests, common_steps, not_unsigned, in_each, negative))
