-- How a node looks, in a line or in an array: indented by a unit, escaped, and in colours.
use Rattle.std.specs.Char.{encode_utf8, is_ascii}
use Rattle.std.specs.Char.Escape.{encode_utf16}
use Rattle.std.specs.Fmt.{digit_glyph}
use Rattle.std.specs.List.{flat_map}
use Rattle.std.specs.Prelude.{◌≡◌, ◌==◌, ◌&&◌, ◌/◌, ◌%◌, ℕ, Bool, true, false, List, [], ◌∷◌, ◌++◌, MatchBool, Option, None, Some, codes, if◌then◌else◌}
use Rattle.std.specs.Str.{chars}
use Rattle.serde_json.specs.Data.{Data, string}
use Rattle.serde_json.specs.Written.{compact_text}
use Rattle.serde_json_path_nodes.specs.Location.{Located}
use Rattle.serde_json_path_nodes.specs.Text.{normal}
use Rattle.jpq_program.specs.Heads.{colon_text, member_text}
use Rattle.jsonpath_lines.specs.Coloured.{IsColoured}
use Rattle.jsonpath_lines.specs.Output.{IsJsonIn, IsLine}
use Rattle.jsonpath_lines.specs.declared.forms.Form.{Form}
use Rattle.jsonpath_lines.specs.declared.forms.Form.TheVariants.{Json, Pointer, Raw}
use Rattle.jsonpath_lines.specs.declared.forms.Layout.{Layout}
use Rattle.jsonpath_lines.specs.declared.forms.Layout.TheVariants.{Compact, Pretty}
use Rattle.jsonpath_lines.specs.declared.forms.Output.{Output}

-- what is shown of nodes, and how: how many of all documents, whether counts are summed up, by what a level is indented where that is
-- not two spaces, whether characters above U+007F are escaped, and the parameters of the sequences of colours, where lines have these
pub record Look : Type 0 where
  pub output : Output
  pub most_of_all : Option ℕ
  pub summed : Bool
  pub unit : Option (List ℕ)
  pub ascii : Bool
  pub colours : Option (List (List ℕ))

-- ---- indentation

-- some characters, which may stand at the start of a line, with this unit in place of each two spaces there
abbrev pub led_by : List ℕ → Bool → List ℕ → List ℕ
led_by unit starts [] = []
led_by unit starts (one ∷ []) = encode_utf8 one
led_by unit starts (one ∷ other ∷ cs) =
    if starts && ((one == 32) && (other == 32)) then unit ++ led_by unit true cs
    else encode_utf8 one ++ led_by unit (one == 10) (other ∷ cs)

-- a text with this unit, where there is one, in place of each two spaces at the start of a line
abbrev pub indented : Option (List ℕ) → List ℕ → List ℕ
indented None text = text
indented (Some unit) text = led_by unit true (chars text)

-- ---- escapes

-- the escape of a code unit of UTF-16, by its four digits
abbrev pub unit_escape : ℕ → List ℕ
unit_escape unit = codes "\\u" ++ (digit_glyph false (unit / 4096) ∷ digit_glyph false (unit / 256 % 16)
    ∷ digit_glyph false (unit / 16 % 16) ∷ digit_glyph false (unit % 16) ∷ [])

-- a character, or above U+007F the escapes of its code units (RFC 8259, section 7)
abbrev pub in_ascii : ℕ → List ℕ
in_ascii c = if is_ascii c then encode_utf8 c else flat_map unit_escape (encode_utf16 c)

-- a text, with such escapes where they are asked for
abbrev pub escaped : Bool → List ℕ → List ℕ
escaped ascii text = if ascii then flat_map in_ascii (chars text) else text

-- ---- a node's line

-- a node is shown as JSON or as a normalised path, which have escapes; a string's own text and a pointer have none
abbrev pub has_escapes : Form → Data → Bool
has_escapes Pointer d = false
has_escapes Raw (string own) = false
has_escapes form d = true

-- a node's line, indented and escaped
abbrev pub dressed : Look → Data → List ℕ → List ℕ
dressed look d line = if has_escapes look.output.form d then escaped look.ascii (indented look.unit line) else line

-- what is seen is the line, or the line with sequences of these parameters before, between and after its bytes
abbrev pub IsSeenIn : Option (List (List ℕ)) → List ℕ → List ℕ → Type 0
IsSeenIn None line text = text ≡ line
IsSeenIn (Some parameters) line text = IsColoured parameters line text

-- a node's line after a head, in this look
abbrev pub IsLook : Look → List ℕ → Located → List ℕ → Type 0
IsLook look head n text = (line seen : List ℕ) × IsLine look.output [] n line
    × IsSeenIn look.colours (dressed look n.value line) seen × (text ≡ head ++ seen)

-- ---- a node in an array

-- all nodes of a document are shown in one array
abbrev pub is_array : Form → Bool
is_array Json = true
is_array _ = false

-- a character of JSON whose lines after the first are four spaces further in
abbrev pub further_in : ℕ → List ℕ
further_in c = if c == 10 then codes "\n    " else encode_utf8 c

-- the JSON of a value as a member of an object in an array
abbrev pub member_json : Layout → List ℕ → List ℕ
member_json Compact json = json
member_json Pretty json = flat_map further_in (chars json)

-- what an object in an array begins and ends with
abbrev pub object_opening : Layout → List ℕ
object_opening Compact = codes "{"
object_opening Pretty = codes "\n  {\n    "

abbrev pub object_closing : Layout → List ℕ
object_closing Compact = codes "}"
object_closing Pretty = codes "\n  }"

-- the last member of such an object, by its JSON, and the end
abbrev pub value_text : Layout → List ℕ → List ℕ
value_text layout json = codes "\"value\"" ++ (colon_text layout ++ (json ++ object_closing layout))

-- a node as an object, by the JSON strings of its path and its value, after other members; and after a comma, where it is later
-- than the first in its array
abbrev pub object_text : Layout → Bool → List ℕ → List ℕ → List ℕ → List ℕ
object_text layout later members path json = (if later then codes "," else []) ++ (object_opening layout ++ (members
    ++ (member_text layout (codes "path") path ++ value_text layout json)))

-- a node's object in this look
abbrev pub IsObject : Look → Bool → List ℕ → Located → List ℕ → Type 0
IsObject look later members n text = (json : List ℕ) × IsJsonIn look.output.layout n.value json
    × IsSeenIn look.colours (escaped look.ascii (indented look.unit (object_text look.output.layout later members
    (compact_text (string (normal n.location))) (member_json look.output.layout json)))) text

-- ---- some nodes

-- a node, after a head, in this look: in an array its object, which may be later than the first, or else its line
abbrev pub IsPiece : Look → Bool → List ℕ → Located → List ℕ → Type 0
IsPiece look later head n text = MatchBool (is_array look.output.form) (IsObject look later head n text) (IsLook look head n text)

-- each of some nodes, in order, joined
abbrev pub ArePieces : Look → Bool → List ℕ → List Located → List ℕ → Type 0
ArePieces look later head [] text = text ≡ []
ArePieces look later head (n ∷ ns) text =
    (own rest : List ℕ) × IsPiece look later head n own × ArePieces look true head ns rest × (text ≡ own ++ rest)
