-- The patterns of `match` and `search`, as `regex` reads them (RFC 9535, sections 2.4.6 and 2.4.7).
use Rattle.std.specs.Prelude.{◌≡◌, ℕ, ◌<◌, ◌≤◌, List, get_or, [], ◌∷◌, ◌++◌, Bool, false, Option, None, Some, IsSomeAnd, is_some, option_and_then, codes, chars, nat_le, if◌then◌else◌}
use Rattle.regex_syntax.specs.Grammar.{read}
use Rattle.regex.specs.Patterns.{Re, default_config, find_str}
use Rattle.serde_json.specs.Data.{string}
use Rattle.serde_json_path_functions.specs.Functions.{Term, value, logical, Matching, whole_text, any_part, FunctionSet, Takes, matching_signature, builtin_signature, builtin_by_regex, plain_meaning, both, whole_numbers}

-- the text that is built of a pattern
abbrev pub built_text : Matching → List ℕ → List ℕ
built_text whole_text pattern = codes "(?R)^(" ++ (pattern ++ codes ")$")
built_text any_part pattern = codes "(?R)(" ++ (pattern ++ codes ")")

-- the text is a pattern, nested no deeper than `regex` takes: `regex` refuses it only for its size, or for want of memory
abbrev pub IsReadable : List ℕ → Type 0
IsReadable text = IsSomeAnd (read default_config (chars text)) (λ (re, names). re.depth ≤ default_config.nest_limit)

-- at these arguments a name may answer `Pattern`: both are texts, and the pattern is readable
abbrev pub MayRefuse : Option Matching → List Term → Type 0
MayRefuse (Some matching) (value (Some (string text)) ∷ value (Some (string pattern)) ∷ []) = IsReadable (built_text matching pattern)
MayRefuse _ _ = ⊥

-- `regex` reads the text as a pattern, nested no deeper than it takes, and finds it in the other text
abbrev pub is_found : List ℕ → List ℕ → Bool
is_found pattern text =
    is_some (option_and_then
    (λ (re, names). if nat_le re.depth default_config.nest_limit then find_str re.value text 0 else None)
    (read default_config (chars pattern)))

-- where a reading is found in a text: nowhere, if there is none
abbrev pub reading_finds : Option Re → List ℕ → Bool
reading_finds None text = false
reading_finds (Some re) text = is_some (find_str re text 0)

-- what is read of a text is found where the text is
abbrev pub IsReadingOf : List ℕ → Option Re → Type 0
IsReadingOf source reading = (text : List ℕ) → ((k : ℕ) → get_or text k 0 < 256) → reading_finds reading text ≡ is_found source text

-- `match` and `search` of a text and a pattern; false unless both are texts (sections 2.4.6 and 2.4.7)
abbrev pub pattern_meaning : Matching → List Term → Term
pattern_meaning matching (value (Some (string text)) ∷ value (Some (string pattern)) ∷ []) = logical (is_found (built_text matching pattern) text)
pattern_meaning _ _ = logical false

-- each name that stands for `match` or `search` has their signature, and means what `regex` finds
abbrev pub KeepsPatterns : FunctionSet → Type 0
KeepsPatterns F =
    (name : List ℕ) (matching : Matching) → F.by_regex name ≡ Some matching
    → (F.signature name ≡ Some matching_signature)
    × ((terms : List Term) → Takes (Some matching_signature) terms → F.meaning name terms ≡ pattern_meaning matching terms)

-- a set without such names does so
pub keeps_no_patterns : (F : FunctionSet) → ((name : List ℕ) → F.by_regex name ≡ None) → KeepsPatterns F
keeps_no_patterns F plain name matching stands = let none : F.by_regex name ≡ None = plain name in absurd cc

-- the meaning of a name that uses `regex`, or of a plain one
abbrev pub meaning_by : Option Matching → Term → List Term → Term
meaning_by None plain ts = plain
meaning_by (Some matching) plain ts = pattern_meaning matching ts

-- the set of `length`, `count`, `value`, `match` and `search`
abbrev pub builtin_functions : FunctionSet
builtin_functions = record {
  signature = builtin_signature;
  meaning = λ name ts. meaning_by (builtin_by_regex name) (plain_meaning name ts) ts;
  by_regex = builtin_by_regex;
  numbers = whole_numbers;
}

-- a set's functions, and the built-in ones after them: of two functions with one name that of the set counts
abbrev pub before_builtin : FunctionSet → FunctionSet
before_builtin F = both F builtin_functions
