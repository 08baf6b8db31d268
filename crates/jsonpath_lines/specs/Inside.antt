-- What contracts of private functions cite alone.
use Rattle.std.specs.Prelude.{◌≡◌, ◌≤◌, ℕ, min, Bool, true, false, List, [], ◌∷◌, ◌++◌, length, map, Option, Some, None, IfSome, string_bytes, unwrap_or, nat_le, if◌then◌else◌, codes}
use Rattle.serde_json_path_nodes.specs.Words.{decimal, Located, first_places, normal, located}
use Rattle.json.specs.Lex.{tokens}
use Rattle.json.specs.Layout.{pretty}
use Rattle.json.specs.Print.{print}
use Rattle.serde_json.specs.Data.{Data, string, depth}
use Rattle.serde_json.specs.Read.{read, max_depth}
use Rattle.serde_json.specs.Written.{IsInOrder, comma_if, compact_text}
use Rattle.jsonpath_lines.specs.Output.{IsJsonIn, IsLine, end_text, up_to}
use Rattle.jsonpath_lines.specs.Distinct.{AreEnough, most_held}
use Rattle.jsonpath_lines.specs.Coloured.{IsColoured}
use Rattle.jsonpath_lines.specs.declared.forms.Form.{Form}
use Rattle.jsonpath_lines.specs.declared.forms.Form.TheVariants.{Json, Count, Nothing}
use Rattle.jsonpath_lines.specs.declared.forms.Layout.{Layout}
use Rattle.jsonpath_lines.specs.declared.forms.Layout.TheVariants.{Compact, Pretty}
use Rattle.jsonpath_lines.specs.declared.forms.Output.{Output}
use Rattle.jsonpath_lines.specs.declared.distinct.DistinctNodes.{DistinctNodes}
use Rattle.jsonpath_lines.specs.declared.nodes.Lines.{Lines}

-- what is appended to a text
abbrev pub Appends : (List ℕ → Type 0) → List ℕ → List ℕ → Type 0
Appends Is old new = (more : List ℕ) × Is more × (new ≡ old ++ more)

-- a value's JSON in one line, whether it has floats or not
abbrev pub IsPrintedOf : Data → List ℕ → Type 0
IsPrintedOf d json = (json ≡ print (tokens json)) × IsInOrder json d × (depth d ≤ max_depth → read json ≡ Some d)

-- a value's JSON in a layout, with what it is in one line
abbrev pub IsLaid : Layout → Data → List ℕ → Type 0
IsLaid layout d json = IsJsonIn layout d json × (layout ≡ Compact → IsPrintedOf d json)

-- a node's normalised path as a JSON string
abbrev pub path_string : Located → List ℕ
path_string n = compact_text (string (normal n.location))

-- a node as an item of an array in one line
abbrev pub IsItem : Located → List ℕ → Type 0
IsItem n text =
    (json : List ℕ) × IsPrintedOf n.value json × (text ≡ codes "{\"path\":" ++ (path_string n ++ (codes ",\"value\":" ++ (json ++ codes "}"))))

-- the same JSON in the indented layout
abbrev pub IsIndented : List ℕ → List ℕ → Type 0
IsIndented json text = (tokens text ≡ tokens json) × (text ≡ pretty (tokens text))

-- the same JSON in a layout, of JSON in one line
abbrev pub IsLaidOut : Layout → List ℕ → List ℕ → Type 0
IsLaidOut Compact json text = text ≡ json
IsLaidOut Pretty json text = IsIndented json text

-- how many nodes a walk is asked for at most: one is enough to know that there is one
abbrev pub limit_in : Form → Option ℕ → Option ℕ
limit_in Nothing most = Some (min (unwrap_or most 1) 1)
limit_in form most = most

-- whether repeated locations are left out: they tell nothing of whether there is a node
abbrev pub leaves_out_in : Form → Bool → Bool
leaves_out_in Nothing unique = false
leaves_out_in form unique = unique

-- the nodes, or where repeated locations are left out, those whose location comes first
abbrev pub once : Bool → List Located → List Located
once leaves_out nodes = if leaves_out then first_places nodes else nodes

-- the nodes of a walk from which the shown ones are taken
abbrev pub asked : Output → List Located → List Located
asked output nodes = once (leaves_out_in output.form output.unique) nodes

-- whether a limit, if there is one, is reached
abbrev pub is_reached : Option ℕ → ℕ → Bool
is_reached None count = false
is_reached (Some most) count = nat_le most count

-- what is shown of a node in a form, before the end of all; it may be later than the first
abbrev pub IsPieceIn : Form → Output → List ℕ → Bool → Located → List ℕ → Type 0
IsPieceIn Json output head later n piece = (item : List ℕ) × IsItem n item × (piece ≡ comma_if later ++ item)
IsPieceIn Count output head later n piece = piece ≡ []
IsPieceIn Nothing output head later n piece = piece ≡ []
IsPieceIn form output head later n piece = IsLine output head n piece

abbrev pub IsPiece : Output → List ℕ → Bool → Located → List ℕ → Type 0
IsPiece output head later n piece = IsPieceIn output.form output head later n piece

-- what is shown of nodes in a form, before the end of all
abbrev pub ArePiecesIn : Form → Output → List ℕ → Bool → List Located → List ℕ → Type 0
ArePiecesIn form output head later [] pieces = pieces ≡ []
ArePiecesIn form output head later (n ∷ ns) pieces =
    (piece rest : List ℕ) × IsPieceIn form output head later n piece × ArePiecesIn form output head true ns rest × (pieces ≡ piece ++ rest)

abbrev pub ArePieces : Output → List ℕ → List Located → List ℕ → Type 0
ArePieces output head ns pieces = ArePiecesIn output.form output head false ns pieces

-- what is shown of nodes, up to the limit, is appended, and they are so many
abbrev pub Pushes : Output → List ℕ → List Located → List ℕ → List ℕ → ℕ → Type 0
Pushes output head nodes old new count =
    let shown = up_to (limit_in output.form output.most) nodes in
    Appends (ArePieces output head shown) old new × (count ≡ length shown)

-- ---- sinks

-- what was written of these nodes, all below the limit, where there was none before
pub record TookLines (before : Lines) (nodes : List Located) (now : Lines) : Type 0 where
  pub writer : now.writer ≡ before.writer
  pub limit : now.limit ≡ before.limit
  pub text : Appends (ArePieces before.writer.output before.writer.head.now nodes) (string_bytes before.text) (string_bytes now.text)
  pub count : now.count ≡ length nodes
  pub more : is_reached now.limit now.count ≡ false

-- what was written of these nodes up to the limit, which is reached
abbrev pub FilledLines : Lines → List Located → Lines → Type 0
FilledLines before nodes now =
    let shown = up_to before.limit nodes in
    Appends (ArePieces before.writer.output before.writer.head.now shown) (string_bytes before.text) (string_bytes now.text) × (now.count ≡ length shown)

-- the nodes that differ in their locations are those of these nodes, where there was none before, and no more are held than
-- may be
pub record TookDistinct (before : DistinctNodes) (nodes : List Located) (now : DistinctNodes) : Type 0 where
  pub limit : now.limit ≡ before.limit
  pub met : first_places (map located now.nodes.items) ≡ first_places nodes
  pub held : length now.nodes.items ≤ now.room
  pub room : now.room ≤ most_held (length (first_places nodes))
  pub few : IfSome before.limit (λ most. now.room ≤ most_held most)

-- what differs is enough to have as many as are wanted, and no more nodes are held than may be
abbrev pub FilledDistinct : DistinctNodes → List Located → DistinctNodes → Type 0
FilledDistinct before nodes now = AreEnough before.limit (first_places nodes) (map located now.nodes.items)
    × IfSome before.limit (λ most. length now.nodes.items ≤ most_held most)

-- ---- the whole text

-- what is written before all nodes
abbrev pub opening : Form → List ℕ
opening Json = codes "["
opening form = []

-- the line of an array of which all but the end is written
abbrev pub IsArrayLine : Output → List ℕ → List ℕ → List ℕ → Type 0
IsArrayLine output head written shown =
    (json : List ℕ) × IsLaidOut output.layout (written ++ codes "]") json × (shown ≡ head ++ (json ++ end_text output.end))

-- what is shown in a form of so many nodes, of what is written for them
abbrev pub IsClosedIn : Form → Output → List ℕ → ℕ → List ℕ → List ℕ → Type 0
IsClosedIn Json output head count written shown = IsArrayLine output head written shown
IsClosedIn Count output head count written shown = shown ≡ head ++ (decimal count ++ end_text output.end)
IsClosedIn form output head count written shown = shown ≡ written

-- sequences with these parameters, or none: a text that they stand before shows the same line
pub record IsUnseen (parameters : List (List ℕ)) (change : List ℕ) : Type 0 where
  pub shows : (line text : List ℕ) → IsColoured parameters line text → IsColoured parameters line (change ++ text)
