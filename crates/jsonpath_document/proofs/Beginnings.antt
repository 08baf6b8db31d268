-- Blanks before a document are passed over, so blanks alone are the beginning of one.
use Rattle.std.proofs.Common.{◌≡◌, ◌<◌, ℕ, suc, zero, Bool, true, false, ◌&&◌, List, [], ◌∷◌, ◌++◌, refl, arith, ◌∙◌}
use Rattle.std.proofs.lemmas.Bool.Decides.{nat_tests}
use Rattle.jsonpath_document.proofs.Bytes.{lex-blank}
use Rattle.jsonpath_document.specs.Place.{are_blank, is_blank}
use Rattle.std.specs.Str.{IsAscii}
use Rattle.std.proofs.lemmas.Str.{IsUtf8-from_ascii}
use Rattle.json.specs.Lex.{lex, between}
use Rattle.serde_json.proofs.OnLiterals.{serde_json_on_literals}
use Rattle.serde_json.specs.Read.{read}
use Rattle.jsonpath_document.specs.Document.{IsBeginning, IsDocument}

below : (x : ℕ) → is_blank x ≡ true → x < 128
below x blank = grind (arith, nat_tests)

front : (a b : Bool) → a && b ≡ true → a ≡ true
front true b e = refl
front false b e = e

back : (a b : Bool) → a && b ≡ true → b ≡ true
back true b e = e
back false b e = absurd (cc)

pub lex_blanks : (bytes t : List ℕ) → are_blank bytes ≡ true
    → lex between (bytes ++ t) ≡ lex between t
lex_blanks [] t blank = refl
lex_blanks (x ∷ xs) t blank = lex-blank x (xs ++ t) (front _ _ blank) ∙ lex_blanks xs t (back _ _ blank)

ascii : (bytes : List ℕ) → are_blank bytes ≡ true → IsAscii (bytes ++ (48 ∷ []))
ascii [] blank zero = omega arith
ascii [] blank (suc i) = omega arith
ascii (x ∷ xs) blank zero = below x (front _ _ blank)
ascii (x ∷ xs) blank (suc i) = ascii xs (back _ _ blank) i

read_blanks : (bytes t : List ℕ) → are_blank bytes ≡ true → read (bytes ++ t) ≡ read t
read_blanks bytes t blank = rw (lex_blanks bytes t blank) refl

nought : IsDocument (48 ∷ [])
unfolding serde_json_on_literals
nought = (_, (IsUtf8-from_ascii _ (ascii [] refl), refl))

pub blanks_begin : (bytes : List ℕ) → are_blank bytes ≡ true → IsBeginning bytes
blanks_begin bytes blank =
    let reads = read_blanks bytes (48 ∷ []) blank ∙ nought.1.1 in
    (48 ∷ [], (nought.0, (IsUtf8-from_ascii _ (ascii bytes blank), reads)))
