-- What is shown of the nodes of a result, in each form.
use Rattle.std.specs.Prelude.{◌≡◌, ◌≤◌, ◌↔◌, ℕ, false, true, List, [], ◌∷◌, ◌++◌, length, take, Option, Some, None, if◌then◌else◌, codes}
use Rattle.std.specs.Fmt.{decimal}
use Rattle.json.specs.Lex.{tokens}
use Rattle.json.specs.Layout.{pretty}
use Rattle.json.specs.Print.{print}
use Rattle.serde_json.specs.Data.{Data, string, array, object, Items, no_items, item, no_members, member, depth}
use Rattle.serde_json.specs.Read.{read, max_depth}
use Rattle.serde_json.specs.Written.{IsInOrder, compact_text, has_float}
use Rattle.serde_json_path_nodes.specs.Location.{Located}
use Rattle.serde_json_path_nodes.specs.Lists.{first_places}
use Rattle.serde_json_path_nodes.specs.Text.{normal, pointer}
use Rattle.jsonpath_lines.specs.declared.forms.Form.{Form}
use Rattle.jsonpath_lines.specs.declared.forms.Form.TheVariants.{LocationAndValue, Value, Raw, Location, Pointer, Json, Count, Nothing}
use Rattle.jsonpath_lines.specs.declared.forms.Layout.{Layout}
use Rattle.jsonpath_lines.specs.declared.forms.Layout.TheVariants.{Compact, Pretty}
use Rattle.jsonpath_lines.specs.declared.forms.LineEnd.{LineEnd}
use Rattle.jsonpath_lines.specs.declared.forms.LineEnd.TheVariants.{LineFeed, Nul}
use Rattle.jsonpath_lines.specs.declared.forms.Output.{Output}

-- ---- compact lines

-- a compact line in a form for each node, ended by a line feed: what `jsonpath` shows
abbrev pub compact_lines : Form → Output
compact_lines form = record { form = form; layout = Compact; end = LineFeed; unique = false; most = None }

-- ---- which nodes

-- the first of a list, up to so many, or all
abbrev pub up_to : Option ℕ → List Located → List Located
up_to None nodes = nodes
up_to (Some most) nodes = take most nodes

-- the nodes that are shown: each location once where that is asked for, and of these the first
abbrev pub chosen : Output → List Located → List Located
chosen output nodes = up_to output.most (if output.unique then first_places nodes else nodes)

-- ---- a node's text

-- a value's compact JSON: what it is, is said where every number in the value is held as an integer, and else that it is compact
-- and in the value's order; that it reads back as the value, where the value nests no deeper than `serde_json` reads
abbrev pub IsJsonOf : Data → List ℕ → Type 0
IsJsonOf d json =
    (has_float d ≡ false → json ≡ compact_text d) × (depth d ≤ max_depth → read json ≡ Some d)
    × (has_float d ≡ true → (json ≡ print (tokens json)) × IsInOrder json d)

-- a value's indented JSON: its layout, each item and member once and in order, and what it reads back as
abbrev pub IsPrettyOf : Data → List ℕ → Type 0
IsPrettyOf d json = (json ≡ pretty (tokens json)) × IsInOrder json d × (depth d ≤ max_depth → read json ≡ Some d)

-- a value's JSON in a layout
abbrev pub IsJsonIn : Layout → Data → List ℕ → Type 0
IsJsonIn Compact d json = IsJsonOf d json
IsJsonIn Pretty d json = IsPrettyOf d json

-- a string's own text, and of any other value its JSON
abbrev pub IsRaw : Layout → Data → List ℕ → Type 0
IsRaw layout (string own) text = text ≡ own
IsRaw layout d text = IsJsonIn layout d text

-- the text of a node in a line of its own, by form and layout
abbrev pub IsText : Form → Layout → Located → List ℕ → Type 0
IsText LocationAndValue layout n text =
    (json : List ℕ) × IsJsonIn layout n.value json × (text ≡ normal n.location ++ (codes "\t" ++ json))
IsText Value layout n text = IsJsonIn layout n.value text
IsText Raw layout n text = IsRaw layout n.value text
IsText Location layout n text = text ≡ normal n.location
IsText Pointer layout n text = text ≡ pointer n.location
IsText Json layout n text = text ≡ []
IsText Count layout n text = text ≡ []
IsText Nothing layout n text = text ≡ []

-- ---- the lines of nodes

-- what ends a line
abbrev pub end_text : LineEnd → List ℕ
end_text LineFeed = codes "\n"
end_text Nul = 0 ∷ []

-- a node's line: the head, its text, and the end
abbrev pub IsLine : Output → List ℕ → Located → List ℕ → Type 0
IsLine output head n line =
    (text : List ℕ) × IsText output.form output.layout n text × (line ≡ head ++ (text ++ end_text output.end))

-- a line for each node, in order, joined
abbrev pub IsLineOfEach : Output → List ℕ → List Located → List ℕ → Type 0
IsLineOfEach output head [] shown = shown ≡ []
IsLineOfEach output head (n ∷ ns) shown =
    (line rest : List ℕ) × IsLine output head n line × IsLineOfEach output head ns rest × (shown ≡ line ++ rest)

-- a node as an object with its path and its value
abbrev pub object_of : Located → Data
object_of n = object (member (codes "path") (string (normal n.location)) (member (codes "value") n.value no_members))

abbrev pub items_of : List Located → Items
items_of [] = no_items
items_of (n ∷ ns) = item (object_of n) (items_of ns)

-- the array of all nodes as such objects
abbrev pub array_of : List Located → Data
array_of ns = array (items_of ns)

-- what is shown of nodes in a form
abbrev pub AreLinesIn : Form → Output → List ℕ → List Located → List ℕ → Type 0
AreLinesIn Json output head ns shown = (json : List ℕ) × IsJsonIn output.layout (array_of ns) json × (shown ≡ head ++ (json ++ end_text output.end))
AreLinesIn Count output head ns shown = shown ≡ head ++ (decimal (length ns) ++ end_text output.end)
AreLinesIn Nothing output head ns shown = shown ≡ []
AreLinesIn form output head ns shown = IsLineOfEach output head ns shown

-- what is shown of the nodes of a result
abbrev pub AreLines : Output → List ℕ → List Located → List ℕ → Type 0
AreLines output head nodes shown = AreLinesIn output.form output head (chosen output nodes) shown

-- how many nodes are chosen; where nothing is shown, only whether there is one
abbrev pub IsCountIn : Form → List Located → ℕ → Type 0
IsCountIn Nothing ns count = (count ≤ 1) × ((count ≡ 0) ↔ (ns ≡ []))
IsCountIn form ns count = count ≡ length ns

abbrev pub IsCount : Output → List Located → ℕ → Type 0
IsCount output nodes count = IsCountIn output.form (chosen output nodes) count
