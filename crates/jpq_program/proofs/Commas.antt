-- Rows of cells with commas between are UTF-8, as their cells are.
use Rattle.jpq_program.proofs.Words.{◌≡◌, ◌∙◌, ◌==◌, ◌&&◌, ◌++◌, ◌∷◌, ℕ, Bool, true, false, List, [], String, Global, refl, sym, ap, subst, not, arith, common_steps, nat_tests, if◌then◌else◌, map, string_bytes, IsUtf8, LineEnd, LineFeed, Nul, comma_rows}
use Rattle.std.proofs.Math.Utf8.{encode, encodes, scalar, scalars}
use Rattle.std.proofs.lemmas.Str.{IsUtf8-append, IsUtf8-encode, IsUtf8-nil, IsUtf8-string_bytes}
use Rattle.std.specs.List.{list_all}
use Rattle.csv.specs.Writing as csv
use Rattle.csv.specs.Writing.{by_style, escaped, field_text, fields_text, is_blank, needs_quotes, quoted, row_body}
use Rattle.csv.specs.declared.writer.WriterBuilder.{WriterBuilder}

-- ---- a field between its quotes

escaped_both : (cfg : WriterBuilder) (xs ys : List ℕ) → escaped cfg (xs ++ ys) ≡ escaped cfg xs ++ escaped cfg ys
unfolding escaped
escaped_both cfg [] ys = refl
escaped_both cfg (b ∷ xs) ys = by_case (b == cfg.quote) (escaped_both cfg xs ys)
  where
    first : ℕ
    first = if cfg.double_quote then cfg.quote else cfg.escape

    by_case : (is : Bool) → escaped cfg (xs ++ ys) ≡ escaped cfg xs ++ escaped cfg ys
        → (if is then first ∷ b ∷ escaped cfg (xs ++ ys) else b ∷ escaped cfg (xs ++ ys)) ≡ (if is then first ∷ b ∷ escaped cfg xs else b ∷ escaped cfg xs) ++ escaped cfg ys
    by_case true both = ap (λ (t : List ℕ). first ∷ b ∷ t) both
    by_case false both = ap (λ (t : List ℕ). b ∷ t) both

-- bytes that are no quotes stay as they are
escaped_same : (end : LineEnd) (xs : List ℕ) → list_all (λ b. not (b == 34)) xs ≡ true → escaped (comma_rows end) xs ≡ xs
unfolding escaped
escaped_same end [] all = refl
escaped_same end (b ∷ xs) all = ap (λ (is : Bool). if is then 34 ∷ b ∷ escaped (comma_rows end) xs else b ∷ escaped (comma_rows end) xs) (other (b == 34) (list_all (λ b. not (b == 34)) xs) all)
    ∙ ap (λ (t : List ℕ). b ∷ t) (escaped_same end xs (others (b == 34) (list_all (λ b. not (b == 34)) xs) all))
  where
    other : (is rest : Bool) → (not is && rest) ≡ true → is ≡ false
    other is rest h = grind (arith, nat_tests, common_steps)

    others : (is rest : Bool) → (not is && rest) ≡ true → rest ≡ true
    others is rest h = grind (arith, nat_tests, common_steps)

-- a character that is no quote has no byte that is one
no_quote : (c : ℕ) → (c == 34) ≡ false → list_all (λ b. not (b == 34)) (encode c) ≡ true
unfolding encode
no_quote c other = grind (arith, nat_tests, common_steps, other)

one_escaped : (end : LineEnd) (c : ℕ) → scalar c ≡ true → IsUtf8 (escaped (comma_rows end) (encode c))
unfolding escaped encode
one_escaped end c is = by_case (c == 34) refl
  where
    quote : IsUtf8 (escaped (comma_rows end) (encode 34))
    quote = (34 ∷ 34 ∷ [], (refl, refl))

    same : (c == 34) ≡ true → c ≡ 34
    same is = grind (arith, nat_tests, is)

    by_case : (b : Bool) → (c == 34) ≡ b → IsUtf8 (escaped (comma_rows end) (encode c))
    by_case true is_quote = subst (λ (c : ℕ). IsUtf8 (escaped (comma_rows end) (encode c))) (sym (same is_quote)) quote
    by_case false other = subst IsUtf8 (sym (escaped_same end (encode c) (no_quote c other))) (IsUtf8-encode c is)

all_escaped : (end : LineEnd) (cs : List ℕ) → scalars cs ≡ true → IsUtf8 (escaped (comma_rows end) (encodes cs))
unfolding escaped
all_escaped end [] all = IsUtf8-nil
all_escaped end (c ∷ cs) all = subst IsUtf8 (sym (escaped_both (comma_rows end) (encode c) (encodes cs)))
    (IsUtf8-append (escaped (comma_rows end) (encode c)) (escaped (comma_rows end) (encodes cs)) (one_escaped end c (first (scalar c) (scalars cs) all)) (all_escaped end cs (rest (scalar c) (scalars cs) all)))
  where
    first : (a b : Bool) → (a && b) ≡ true → a ≡ true
    first a b h = grind (arith, nat_tests, common_steps)

    rest : (a b : Bool) → (a && b) ≡ true → b ≡ true
    rest a b h = grind (arith, nat_tests, common_steps)

field_escaped : (end : LineEnd) (field : List ℕ) → IsUtf8 field → IsUtf8 (escaped (comma_rows end) field)
field_escaped end field utf8 = subst (λ (f : List ℕ). IsUtf8 (escaped (comma_rows end) f)) utf8.1.1 (all_escaped end utf8.0 utf8.1.0)

-- ---- fields and rows

quote : IsUtf8 (34 ∷ [])
unfolding encode
quote = (34 ∷ [], (refl, refl))

comma : IsUtf8 (44 ∷ [])
unfolding encode
comma = (44 ∷ [], (refl, refl))

ended : (end : LineEnd) → IsUtf8 (csv.end_text (comma_rows end).terminator)
unfolding encode
ended LineFeed = (10 ∷ [], (refl, refl))
ended Nul = (0 ∷ [], (refl, refl))

field_utf8 : (end : LineEnd) (field : List ℕ) → IsUtf8 field → IsUtf8 (field_text (comma_rows end) field)
field_utf8 end field utf8 = by_case (by_style (comma_rows end).style (needs_quotes (comma_rows end) field))
  where
    by_case : (has : Bool) → IsUtf8 (if has then quoted (comma_rows end) field else field)
    by_case true = IsUtf8-append (34 ∷ []) (escaped (comma_rows end) field ++ 34 ∷ []) quote
        (IsUtf8-append (escaped (comma_rows end) field) (34 ∷ []) (field_escaped end field utf8) quote)
    by_case false = utf8

fields_utf8 : (end : LineEnd) (cells : List (String Global)) → IsUtf8 (fields_text (comma_rows end) (map string_bytes cells))
unfolding fields_text
fields_utf8 end [] = IsUtf8-nil
fields_utf8 end (cell ∷ cells) = IsUtf8-append (44 ∷ []) (field_text (comma_rows end) (string_bytes cell) ++ fields_text (comma_rows end) (map string_bytes cells)) comma
    (IsUtf8-append (field_text (comma_rows end) (string_bytes cell)) (fields_text (comma_rows end) (map string_bytes cells)) (field_utf8 end (string_bytes cell) (IsUtf8-string_bytes cell)) (fields_utf8 end cells))

body_utf8 : (end : LineEnd) (cells : List (String Global)) → IsUtf8 (row_body (comma_rows end) (map string_bytes cells))
body_utf8 end [] = IsUtf8-nil
body_utf8 end (cell ∷ cells) = IsUtf8-append (field_text (comma_rows end) (string_bytes cell)) (fields_text (comma_rows end) (map string_bytes cells)) (field_utf8 end (string_bytes cell) (IsUtf8-string_bytes cell)) (fields_utf8 end cells)

-- a row of texts is a text
pub row_utf8 : (end : LineEnd) (cells : List (String Global)) → IsUtf8 (csv.row_text (comma_rows end) (map string_bytes cells))
row_utf8 end cells = IsUtf8-append (row_body (comma_rows end) fields) (blank ++ csv.end_text (comma_rows end).terminator) (body_utf8 end cells)
    (IsUtf8-append blank (csv.end_text (comma_rows end).terminator) (by_case (is_blank (comma_rows end) fields)) (ended end))
  where
    fields : List (List ℕ)
    fields = map string_bytes cells

    blank : List ℕ
    blank = if is_blank (comma_rows end) fields then 34 ∷ 34 ∷ [] else []

    by_case : (is : Bool) → IsUtf8 (if is then 34 ∷ 34 ∷ [] else [])
    by_case true = IsUtf8-append (34 ∷ []) (34 ∷ []) quote quote
    by_case false = IsUtf8-nil
