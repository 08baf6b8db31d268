-- What the bytes ahead tell, what was looked at, and stretches of characters.
use Rattle.std.specs.Prelude.{◌≡◌, ℕ, ◌<◌, ◌≤◌, nat_le, Bool, true, false, List, [], ◌∷◌, Option, Some, None, drop, ◌+◌, max, ◌-◌, ◌&&◌, ◌++◌, length, take}
use Rattle.serde_json_path_parser.specs.Imports.{ForSome, is_utf8, chars}
use Rattle.serde_json_path_parser.specs.Source.{Observed}
use Rattle.serde_json_path_parser.specs.Lexical.{◌∈◌, AllPass, is_name_char, is_plain}

-- ---- what the bytes ahead tell of the characters

-- The byte is the first of these characters' bytes: below 128 it is itself the first character;
-- otherwise that is 128 or above.
abbrev pub IsAhead : Option ℕ → List ℕ → Type 0
IsAhead None cs = cs ≡ []
IsAhead (Some b) cs = (c : ℕ) × (cs ≡ c ∷ drop 1 cs) × (b < 128 → c ≡ b) × (128 ≤ b → 128 ≤ c)

-- the byte of an ASCII character
abbrev pub is_ascii : Option ℕ → Bool
is_ascii None = false
is_ascii (Some b) = nat_le b 127

-- a comparison operator may begin with the character
abbrev pub begins_operator : ℕ → Bool
begins_operator c = c ∈ "=!<>"

-- Where the byte after the next one was looked at, it is the one that stands there, and the next
-- one is ASCII.
abbrev pub IsSecond : Option (Option ℕ) → Option ℕ → Option ℕ → Type 0
IsSecond second next there = ForSome second (λ s. (s ≡ there) × (is_ascii next ≡ true))

-- Up to where a byte may be looked at: up to the text's end, or none where the byte after the next
-- one was.
abbrev pub limit_of : Option (Option ℕ) → ℕ → ℕ
limit_of None total = total
limit_of (Some second) total = 0

-- ---- how a source is looked at as a text is read

-- how many bytes were seen: those before the index, and the one there if there is one
abbrev pub up_to : ℕ → Option ℕ → ℕ
up_to index None = index
up_to index (Some b) = index + 1

-- the same where the byte after that one may have been looked at
abbrev pub up_to_second : ℕ → Option ℕ → Option (Option ℕ) → ℕ
up_to_second index next None = up_to index next
up_to_second index next (Some second) = up_to (index + 1) second

-- The text is the same, there are at most so many looks more, and none at a byte of a greater
-- number.
pub record LooksOn (old new : Observed) (count number : ℕ) : Type 0 where
  pub same_text : new.text ≡ old.text
  pub looks : new.looks ≤ old.looks + count
  pub farthest : new.farthest ≤ max old.farthest number

-- ---- ASCII characters that are taken many at a time

-- an ASCII character of a member name
abbrev pub is_ascii_name_char : ℕ → Bool
is_ascii_name_char c = nat_le c 127 && is_name_char c

-- an ASCII character of a string in these quotes that stands for itself
abbrev pub is_ascii_plain : ℕ → ℕ → Bool
is_ascii_plain quote c = nat_le c 127 && is_plain quote c

-- A list begins with the characters of a text from an index to an end, each of which passes a test.
pub record Gathered (p : ℕ → Bool) (text : List ℕ) (index end : ℕ) (part : List ℕ) : Type 0 where
  pub within : end ≤ length text
  pub utf8 : is_utf8 (drop end text) ≡ true
  pub taken : chars (drop index text) ≡ take (end - index) part ++ chars (drop end text)
  pub passes : AllPass p (take (end - index) part)

-- Of the characters from an index on, the first ones were taken, each of which passes a test, and
-- appended to a text unless memory is out; the others are those from an end on.
pub record Stretched (p : ℕ → Bool) (characters others old new : List ℕ) (ok : Bool) : Type 0 where
  pub part : List ℕ
  pub some : 1 ≤ length part
  pub passes : AllPass p part
  pub taken : characters ≡ part ++ others
  pub text : ok ≡ true → new ≡ old ++ part
