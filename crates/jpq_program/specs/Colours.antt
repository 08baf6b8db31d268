-- The colours of lines: the usual ones, or those that the environment names.
use Rattle.std.specs.Borrow.{Bor}
use Rattle.std.specs.Char.{is_ascii_digit}
use Rattle.std.specs.List.{list_all, slice_split}
use Rattle.std.specs.Prelude.{◌==◌, ◌||◌, ◌&&◌, not, ℕ, Bool, List, [], ◌∷◌, Option, None, Some, codes, if◌then◌else◌, is_some, slice_get, unwrap_or}
use Rattle.jsonpath_lines.specs.Coloured.{usual}
use Rattle.jpq_program.specs.declared.colours.Colours.{Colours}

-- the fields of a text, which has a colon between each two
abbrev pub fields_in : List ℕ → List (List ℕ)
fields_in text = slice_split (λ b. b == 58) text

-- a byte of such a text, where its fields are parameters of sequences: a digit, a semicolon, or the colon
abbrev pub is_in_fields : ℕ → Bool
is_in_fields b = is_ascii_digit b || ((b == 59) || (b == 58))

-- the text names colours: it has such bytes alone, and not ten fields
abbrev pub names_colours : List ℕ → Bool
names_colours text = list_all is_in_fields text && not (is_some (slice_get (fields_in text) 9))

-- the field at an index, or else these parameters
abbrev pub field_at : List ℕ → ℕ → List ℕ → List ℕ
field_at text index other = unwrap_or (slice_get (fields_in text) index) other

-- the parameters of null, false, true, numbers, strings, members' names and locations, where the environment has this text; the fields of
-- arrays and objects, which have no colour, are passed over
abbrev pub parameters_in : List ℕ → List (List ℕ)
parameters_in text = if names_colours text then field_at text 0 (codes "33") ∷ field_at text 1 (codes "33") ∷ field_at text 2 (codes "33")
    ∷ field_at text 3 (codes "36") ∷ field_at text 4 (codes "32") ∷ field_at text 7 (codes "32") ∷ field_at text 8 (codes "35") ∷ []
    else usual

-- the same where it may have none
abbrev pub parameters_or : Option (Bor (List ℕ)) → List (List ℕ)
parameters_or None = usual
parameters_or (Some text) = parameters_in text.now

-- the same by what the environment says
abbrev pub colours_for : Colours → List (List ℕ)
colours_for colours = parameters_or colours.palette
