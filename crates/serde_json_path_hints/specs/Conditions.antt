-- What is said of the text on one side of a place.
use Rattle.std.specs.Prelude.{ℕ, ◌-◌, ◌==◌, ◌&&◌, ◌||◌, Bool, true, false, List, [], ◌∷◌, Option, Some, None, length, drop, take_while, slice_get, nat_eq, nat_le, bytes_eq, codes}
use Rattle.std.specs.List.{list_any, starts_with, ends_with}
use Rattle.std.specs.Str.{str_eq_ignore_ascii_case}
use Rattle.std.specs.Char.{is_ascii_alphabetic, is_ascii_digit}
use Rattle.serde_json_path_hints.specs.declared.condition.Condition.{Condition}
use Rattle.serde_json_path_hints.specs.declared.condition.Condition.TheVariants.{Any, Empty, Starts, Ends, Holds, Word, Near, Call, Name, Dashed, Digit, EndsInName, EndsInLetter, EndsInDigit}

-- ---- bytes and words

-- a member name may start with the byte: a letter, `_`, or a byte of a character beyond ASCII
abbrev pub is_name_start : ℕ → Bool
is_name_start byte = is_ascii_alphabetic byte || byte == 95 || nat_le 128 byte

-- the byte may be in a member name
abbrev pub is_name_byte : ℕ → Bool
is_name_byte byte = is_name_start byte || is_ascii_digit byte

-- the word that a text starts with, which may be empty
abbrev pub word_of : List ℕ → List ℕ
word_of text = take_while is_name_byte text

-- there is a byte, and it passes the test
abbrev pub passes : (ℕ → Bool) → Option ℕ → Bool
passes test None = false
passes test (Some byte) = test byte

abbrev pub first_passes : (ℕ → Bool) → List ℕ → Bool
first_passes test text = passes test (slice_get text 0)

abbrev pub last_passes : (ℕ → Bool) → List ℕ → Bool
last_passes test text = passes test (slice_get text (length text - 1))

-- the text starts as a member name does, and `(` follows the word that it starts with
abbrev pub is_call : List ℕ → Bool
is_call text =
    first_passes is_name_start text && starts_with nat_eq (drop (length (word_of text)) text) (codes "(")

-- the part is somewhere in the text: at its start, or in what is left without its first byte; in an empty text nothing is
abbrev pub holds : List ℕ → List ℕ → Bool
holds [] part = false
holds (x ∷ xs) part = starts_with nat_eq (x ∷ xs) part || holds xs part

-- the first text is the second with its first two letters swapped
abbrev pub is_swapped : List ℕ → List ℕ → Bool
is_swapped (a ∷ b ∷ xs) (c ∷ d ∷ ys) = a == d && b == c && bytes_eq xs ys
is_swapped _ _ = false

-- The word is the name itself, or the name with one letter replaced, left out or put in, or with two neighbours swapped: after
-- the letters that they share, the rest of the word is that of the name, or is so without the first letter of both, of the
-- name or of the word, or with its first two swapped.
abbrev pub is_one_letter_away : List ℕ → List ℕ → Bool
is_one_letter_away (x ∷ xs) (y ∷ ys) =
    x == y && is_one_letter_away xs ys || bytes_eq xs ys || bytes_eq (x ∷ xs) ys || bytes_eq xs (y ∷ ys)
    || is_swapped (x ∷ xs) (y ∷ ys)
is_one_letter_away (x ∷ xs) [] = length xs == 0
is_one_letter_away [] (y ∷ ys) = length ys == 0
is_one_letter_away [] [] = true

-- ---- conditions

-- texts as the tables of `src/slips/` have them
abbrev pub Text : Type 0
Text = record { now : List ℕ }

abbrev pub Texts : Type 0
Texts = record { now : List Text }

-- the text is as the condition says
abbrev pub is_met : Condition Texts → List ℕ → Bool
is_met Any text = true
is_met Empty text = length text == 0
is_met (Starts starts) text = list_any (λ start. starts_with nat_eq text start.now) starts.now
is_met (Ends ends) text = list_any (λ end. ends_with nat_eq text end.now) ends.now
is_met (Holds parts) text = list_any (λ part. holds text part.now) parts.now
is_met (Word words) text = list_any (λ word. str_eq_ignore_ascii_case (word_of text) word.now) words.now
is_met (Near names) text = list_any (λ name. is_one_letter_away (word_of text) name.now) names.now
is_met Call text = is_call text
is_met Name text = first_passes is_name_start text
is_met Dashed text = starts_with nat_eq text (codes "-") && first_passes is_name_start (drop 1 text)
is_met Digit text = first_passes is_ascii_digit text
is_met EndsInName text = last_passes is_name_byte text
is_met EndsInLetter text = last_passes is_name_start text
is_met EndsInDigit text = last_passes is_ascii_digit text
