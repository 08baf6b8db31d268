-- `regex` finds a pattern in a text exactly where its specification, reading the pattern, does.
use Rattle.std.proofs.lemmas.Bool.Decides.{nat_tests}
use Rattle.std.proofs.Common.{◌≡◌, ℕ, ◌<◌, ◌≤◌, ◌⊎◌, List, length, get_or, true, false, Option, None, Some, IsSomeAnd, is_some, option_and_then, arith, nat_le, if◌then◌else◌}
use Rattle.std.specs.Str.{chars}
use Rattle.regex_syntax.specs.Brackets.{Nested}
use Rattle.regex_syntax.specs.Grammar.{Names, group_count, read}
use Rattle.regex_syntax.specs.declared.error.ErrorKind.{ErrorKind}
use Rattle.regex_syntax.specs.declared.error.ErrorKind.TheVariants as parser
use Rattle.regex.specs.Failures.{IsRightKind}
use Rattle.regex.specs.Patterns.{Re, SameCaptures, Reads, Refuses, default_config, find_str}
use Rattle.regex.specs.Strings.{regex_pattern, regex_source, regex_config, IsReadFromSource}
use Rattle.regex.specs.declared.error.Error.{Error}
use Rattle.regex.specs.declared.error.Error.TheVariants.{CompiledTooBig, Internal}
use Rattle.regex.specs.declared.string.regex.Regex.{Regex}
use Rattle.regex.proofs.ForCallers.{is_match_alike}
use Rattle.serde_json_path_functions.specs.Patterns.{IsReadable, is_found}

found_alike : (o : Option (Nested Re × Names)) (most : ℕ) (a : Re) (names : Names) (text : List ℕ) → ((k : ℕ) → get_or text k 0 < 256) →
    IsSomeAnd o (λ (re, found). (re.depth ≤ most) × SameCaptures a re.value × (names ≡ found) × (group_count a ≤ length names)) →
    is_some (find_str a text 0) ≡ is_some (option_and_then (λ (re, names). if nat_le re.depth most then find_str re.value text 0 else None) o)
found_alike None most a names text bytes h = absurd h
found_alike (Some found) most a names text bytes h =
    let near : nat_le found.0.depth most ≡ true = (let d = h.0 in grind (arith, d)) in
    rw (near) (is_match_alike h.1 text bytes true 0)

-- a compiled pattern is found where the text that it was compiled from says so
pub found_as_read : (r : Regex) (source text : List ℕ) → regex_source r ≡ source → regex_config r ≡ default_config → IsReadFromSource r →
    ((k : ℕ) → get_or text k 0 < 256) → is_some (find_str (regex_pattern r) text 0) ≡ is_found source text
unfolding Reads
found_as_read r source text is_source is_default is_read bytes =
    found_alike (read default_config (chars source)) default_config.nest_limit _ _ text bytes (rw (is_source, is_default) at is_read)

-- a text that the grammar refuses, and not as nested too deep, is found nowhere
pub refused_is_not_found : (source text : List ℕ) (kind : ErrorKind) → Refuses default_config source kind → (kind ≡ parser.OutOfMemory → ⊥) →
    false ≡ is_found source text
unfolding Refuses
refused_is_not_found source text kind h other = grind (arith, nat_tests)

-- a text that `regex` refuses as too big, or by an internal check, is readable
pub refused_is_readable : (source : List ℕ) (error : Error) → (error ≡ CompiledTooBig) ⊎ (error ≡ Internal) →
    IsRightKind default_config source error → IsReadable source
unfolding Reads
refused_is_readable source error refused h = grind (arith, nat_tests)

pub ruleset of_patterns = (found_as_read, refused_is_readable)
