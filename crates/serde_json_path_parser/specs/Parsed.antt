-- What reading from left to right gives, on lists of characters: what was read and the characters
-- after it, or the first refusal that is met.
use Rattle.std.specs.Prelude.{ℕ, zero, suc, Bool, List, [], ◌∷◌, ◌++◌, length, Result, Ok, Err, if◌then◌else◌}
use Rattle.serde_json_path_parser.specs.Imports.{encode_utf8_all}
use Rattle.serde_json_path_parser.specs.declared.error.ParseErrorKind.{ParseErrorKind}
use Rattle.serde_json_path_parser.specs.declared.error.Context as declared
use Rattle.serde_json_path_parser.specs.declared.error.Refusal.{Refusal}
use Rattle.serde_json_path_parser.specs.Lexical.{is_blank}

abbrev pub Parsed : Type 0 → Type 0
Parsed A = Result (A × List ℕ) Refusal

infixl 10 ◌>>=◌
abbrev pub ◌>>=◌ : {A B : Type 0} → Result A Refusal → (A → Result B Refusal) → Result B Refusal
(Ok x) >>= f = f x
(Err e) >>= f = Err e

-- what was read before, and what is still read
abbrev pub with_front : {A : Type 0} → List A → Parsed (List A) → Parsed (List A)
with_front before read = read >>= λ x. Ok (before ++ x.0, x.1)

-- how many bytes the characters have
abbrev pub byte_count : List ℕ → ℕ
byte_count cs = length (encode_utf8_all cs)

-- a refusal where so many bytes are left
abbrev pub refusal_at : ParseErrorKind → declared.Context → ℕ → Refusal
refusal_at kind here left = record { kind = kind; context = here; left = left }

-- a refusal at the first of these characters
abbrev pub refusal : ParseErrorKind → declared.Context → List ℕ → Refusal
refusal kind here cs = refusal_at kind here (byte_count cs)

-- the longest front whose characters pass the test, and what is after it
abbrev pub front : (ℕ → Bool) → List ℕ → List ℕ
front p [] = []
front p (c ∷ cs) = if p c then c ∷ front p cs else []

abbrev pub past : (ℕ → Bool) → List ℕ → List ℕ
past p [] = []
past p (c ∷ cs) = if p c then past p cs else c ∷ cs

-- what is after the blanks
abbrev pub past_blanks : List ℕ → List ℕ
past_blanks cs = past is_blank cs

-- as many items as there are while more says that one begins, and at most fuel of them
unfoldable pub many_within : {A : Type 0} → (List ℕ → Bool) → (List ℕ → Parsed A) → ℕ → List ℕ
    → Parsed (List A)
many_within more item zero cs = Ok ([], cs)
many_within more item (suc fuel) cs =
    if more cs then
    (item cs >>= λ x. many_within more item fuel x.1 >>= λ xs. Ok (x.0 ∷ xs.0, xs.1))
    else Ok ([], cs)

unfoldable pub many : {A : Type 0} → (List ℕ → Bool) → (List ℕ → Parsed A) → List ℕ
    → Parsed (List A)
many more item cs = many_within more item (length cs) cs
