-- Rows of tables: of each document one, with the first node of each path in a cell.
use Rattle.std.specs.Char.{encode_utf8}
use Rattle.std.specs.Fmt.{decimal}
use Rattle.std.specs.List.{flat_map, join_by}
use Rattle.std.specs.Prelude.{◌≡◌, ◌==◌, ◌⊎◌, ◌+◌, ℕ, Bool, List, [], ◌∷◌, ◌++◌, codes, if◌then◌else◌}
use Rattle.std.specs.Str.{chars}
use Rattle.serde_json.specs.Data.{Data}
use Rattle.serde_json_path_nodes.specs.Location.{Located}
use Rattle.serde_json_path_functions.specs.Functions.{FunctionSet}
use Rattle.serde_json_path_core.specs.Selects.{Selects}
use Rattle.serde_json_path.specs.Paths.{path_tree, with_rule_of}
use Rattle.serde_json_path.specs.declared.path.JsonPath.{JsonPath}
use Rattle.jsonpath_document.specs.Document.{ReadsAs}
use Rattle.jsonpath_lines.specs.Output.{IsText, end_text}
use Rattle.jsonpath_lines.specs.declared.forms.Form.TheVariants.{Raw}
use Rattle.jsonpath_lines.specs.declared.forms.Layout.TheVariants.{Compact}
use Rattle.jsonpath_lines.specs.declared.forms.LineEnd.{LineEnd}
use Rattle.csv.specs.Writing as csv
use Rattle.csv.specs.Writing.{default_writer}
use Rattle.csv.specs.declared.parser.Terminator.TheVariants.{Any}
use Rattle.csv.specs.declared.writer.WriterBuilder.{WriterBuilder}
use Rattle.jsonpath_lines.specs.declared.forms.LineEnd.TheVariants.{LineFeed, Nul}
use Rattle.jpq_options.specs.declared.options.Shown.{Shown}
use Rattle.jpq_options.specs.declared.options.Shown.TheVariants.{Csv}
use Rattle.jpq_program.specs.Heads.{shown_name}

-- ---- texts

-- a character in a cell of a row whose cells are parted by tabs
abbrev pub in_cell : ℕ → List ℕ
in_cell c = if c == 9 then codes "\\t" else if c == 10 then codes "\\n" else if c == 13 then codes "\\r"
    else if c == 92 then codes "\\\\" else encode_utf8 c

abbrev pub cell_text : List ℕ → List ℕ
cell_text cell = flat_map in_cell (chars cell)

-- cells, with a tab between
abbrev pub row_text : List (List ℕ) → List ℕ
row_text cells = join_by cell_text (codes "\t") cells

-- what ends a row, as a byte
abbrev pub end_byte : LineEnd → ℕ
end_byte LineFeed = 10
end_byte Nul = 0

-- how rows are written whose cells have commas between: a cell with a comma, a quote or a line's end in it has quotes around it, and
-- each of its own twice (RFC 4180, section 2)
abbrev pub comma_rows : LineEnd → WriterBuilder
comma_rows end = record default_writer { terminator = Any (end_byte end) }

-- the line of a row: with commas, or else with tabs
abbrev pub row_line : Shown → LineEnd → List (List ℕ) → List ℕ
row_line Csv end cells = csv.row_text (comma_rows end) cells
row_line _ end cells = row_text cells ++ end_text end

-- the cells before those of the paths: the input's name and the number of the document's line, each where it is asked for
abbrev pub first_cells : Bool → Bool → List ℕ → ℕ → List (List ℕ)
first_cells has_name has_line name line =
    (if has_name then shown_name name ∷ [] else []) ++ (if has_line then decimal line ∷ [] else [])

-- the cells of the first row of a table, where it has one: `file` and `line` for those before the paths', and the texts of the paths
abbrev pub header_cells : Bool → Bool → List (List ℕ) → List (List ℕ)
header_cells has_name has_line texts =
    ((if has_name then codes "file" ∷ [] else []) ++ (if has_line then codes "line" ∷ [] else [])) ++ texts

-- ---- cells

-- the cell of some nodes: the text of the first, of a string its own and of any other value its JSON, or nothing; and how many nodes it
-- shows
abbrev pub IsCellOf : List Located → List ℕ → ℕ → Type 0
IsCellOf [] cell count = (cell ≡ []) × (count ≡ 0)
IsCellOf (n ∷ ns) cell count = IsText Raw Compact n cell × (count ≡ 1)

-- the cell of a path's result on a document
abbrev pub IsCell : FunctionSet → JsonPath → Data → List ℕ → ℕ → Type 0
IsCell F path d cell count = (nodes : List Located) × Selects (with_rule_of path F) (path_tree path) d nodes × IsCellOf nodes cell count

-- the same of the document that the bytes are
abbrev pub IsCellOn : FunctionSet → List ℕ → JsonPath → List ℕ → ℕ → Type 0
IsCellOn F bytes path cell count = (d : Data) × ReadsAs bytes d × IsCell F path d cell count

-- the same where the query may be refused: then it is empty
abbrev pub IsCellInPart : FunctionSet → List ℕ → JsonPath → List ℕ → ℕ → Type 0
IsCellInPart F bytes path cell count = ((cell ≡ []) × (count ≡ 0)) ⊎ IsCellOn F bytes path cell count

-- the cells of paths, in order, and how many nodes they show
abbrev pub AreCells : (JsonPath → List ℕ → ℕ → Type 0) → List JsonPath → List (List ℕ) → ℕ → Type 0
AreCells Is [] cells count = (cells ≡ []) × (count ≡ 0)
AreCells Is (path ∷ paths) cells count = (cell : List ℕ) × (rest : List (List ℕ)) × (one others : ℕ)
    × Is path cell one × AreCells Is paths rest others × (cells ≡ cell ∷ rest) × (count ≡ one + others)

-- ---- rows

-- a document's row, after first cells, in this line
abbrev pub IsRow : (JsonPath → List ℕ → ℕ → Type 0) → List JsonPath → (List (List ℕ) → List ℕ) → List (List ℕ) → List ℕ → ℕ → Type 0
IsRow Is paths line firsts text count =
    (cells : List (List ℕ)) × AreCells Is paths cells count × (text ≡ line (firsts ++ cells))

-- the same of the document that the bytes are
abbrev pub IsRowOn : FunctionSet → List JsonPath → (List (List ℕ) → List ℕ) → List (List ℕ) → List ℕ → List ℕ → ℕ → Type 0
IsRowOn F paths line firsts bytes text count = IsRow (IsCellOn F bytes) paths line firsts text count

-- the same where the document may be refused, which has no row then, or the query of a path
abbrev pub IsRowInPart : FunctionSet → List JsonPath → (List (List ℕ) → List ℕ) → List (List ℕ) → List ℕ → List ℕ → ℕ → Type 0
IsRowInPart F paths line firsts bytes text count =
    ((text ≡ []) × (count ≡ 0)) ⊎ IsRow (IsCellInPart F bytes) paths line firsts text count
