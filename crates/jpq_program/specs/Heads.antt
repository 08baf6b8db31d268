-- What lines, and the members of objects, begin with.
use Rattle.std.specs.Prelude.{ℕ, Bool, List, [], ◌++◌, codes, if◌then◌else◌}
use Rattle.std.specs.Fmt.{decimal}
use Rattle.std.specs.Str.{bytes_eq}
use Rattle.serde_json.specs.Data.{string}
use Rattle.serde_json.specs.Written.{compact_text}
use Rattle.jsonpath_lines.specs.declared.forms.Layout.{Layout}
use Rattle.jsonpath_lines.specs.declared.forms.Layout.TheVariants.{Compact, Pretty}

-- an input's name, as it is shown: `-` is standard input
abbrev pub shown_name : List ℕ → List ℕ
shown_name name = if bytes_eq name (codes "-") then codes "standard input" else name

-- a text and a tab, where it is asked for
abbrev pub tabbed : Bool → List ℕ → List ℕ
tabbed is text = if is then text ++ codes "\t" else []

-- the input's name, the number of the document's line in it, and the path's number, each where it is asked for and with a tab after it
abbrev pub head_text : Bool → Bool → Bool → List ℕ → ℕ → ℕ → List ℕ
head_text has_name has_line has_number name line number = tabbed has_name (shown_name name)
    ++ (tabbed has_line (decimal line) ++ tabbed has_number (decimal number))

-- ---- members

-- what stands after a member's name, and after a member that is not the last
abbrev pub colon_text : Layout → List ℕ
colon_text Compact = codes ":"
colon_text Pretty = codes ": "

abbrev pub comma_text : Layout → List ℕ
comma_text Compact = codes ","
comma_text Pretty = codes ",\n    "

-- a member of an object, by the JSON of its value, with what stands after it
abbrev pub member_text : Layout → List ℕ → List ℕ → List ℕ
member_text layout name json = codes "\"" ++ (name ++ (codes "\"" ++ (colon_text layout ++ (json ++ comma_text layout))))

-- such a member, where it is asked for
abbrev pub member_if : Bool → Layout → List ℕ → List ℕ → List ℕ
member_if is layout name json = if is then member_text layout name json else []

-- the same as `head_text`, as the first members of an object
abbrev pub members_text : Layout → Bool → Bool → Bool → List ℕ → ℕ → ℕ → List ℕ
members_text layout has_name has_line has_number name line number =
    member_if has_name layout (codes "file") (compact_text (string (shown_name name)))
    ++ (member_if has_line layout (codes "line") (decimal line) ++ member_if has_number layout (codes "number") (decimal number))

-- what a node begins with in an array, or else in a line
abbrev pub head_in : Bool → Layout → Bool → Bool → Bool → List ℕ → ℕ → ℕ → List ℕ
head_in array layout has_name has_line has_number name line number =
    if array then members_text layout has_name has_line has_number name line number
    else head_text has_name has_line has_number name line number
