-- The paths in the lines of a file.
use Rattle.std.specs.Prelude.{◌==◌, ◌||◌, ◌&&◌, ◌-◌, ◌+◌, ℕ, Bool, true, false, if◌then◌else◌, List, [], ◌∷◌, drop, length, map, take}
use Rattle.std.specs.List.{prefix_len, slice_split, suffix_len}
use Rattle.std.specs.Char.{is_ascii_whitespace}
use Rattle.jpq_options.specs.declared.paths.Quoting.{Quoting}
use Rattle.jpq_options.specs.declared.paths.Quoting.TheVariants.{Outside, Inside, Escaped}

-- whether the place after a byte is in quotes: `'` is 39, `"` is 34, and a backslash is 92
abbrev pub quoting_past : Quoting → ℕ → Quoting
quoting_past Outside b = if b == 39 || b == 34 then Inside b else Outside
quoting_past (Inside q) b = if b == q then Outside else if b == 92 then Escaped q else Inside q
quoting_past (Escaped q) b = Inside q

-- a `#` (35) begins a comment outside of quotes, at the start or after a blank
abbrev pub begins_comment : Quoting → Bool → ℕ → Bool
begins_comment Outside after_blank b = after_blank && b == 35
begins_comment _ after_blank b = false

-- how many bytes stand before the comment, or in all if there is none
abbrev pub comment_start : Quoting → Bool → List ℕ → ℕ
comment_start quoting after_blank [] = 0
comment_start quoting after_blank (b ∷ bs) = if begins_comment quoting after_blank b then 0
    else comment_start (quoting_past quoting b) (is_ascii_whitespace b) bs + 1

-- a text without the blanks at either end
abbrev pub trimmed : List ℕ → List ℕ
trimmed text =
    let rest = drop (prefix_len is_ascii_whitespace text) text in
    take (length rest - suffix_len is_ascii_whitespace rest) rest

-- the path in a line: what stands before its comment, without blanks at either end
abbrev pub path_in_line : List ℕ → List ℕ
path_in_line line = trimmed (take (comment_start Outside true line) line)

-- The path in each line of a text; line feeds (10) end lines.
abbrev pub path_lines : List ℕ → List (List ℕ)
path_lines text = map path_in_line (slice_split (λ b. b == 10) text)
