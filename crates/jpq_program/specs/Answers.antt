-- What is shown of a document for paths.
use Rattle.std.specs.Prelude.{◌≡◌, ◌≤◌, ◌⊎◌, ◌+◌, ◌-◌, min, nat_lt, ℕ, Bool, true, false, List, [], ◌∷◌, ◌++◌, codes, IfSome, MatchBool, Option, None, Some, option_map}
use Rattle.serde_json.specs.Data.{Data}
use Rattle.serde_json_path_nodes.specs.Location.{Located}
use Rattle.serde_json_path_functions.specs.Functions.{FunctionSet}
use Rattle.serde_json_path_core.specs.Selects.{Selects}
use Rattle.serde_json_path.specs.Paths.{path_tree, with_rule_of}
use Rattle.serde_json_path.specs.declared.path.JsonPath.{JsonPath}
use Rattle.jsonpath_document.specs.Document.{ReadsAs}
use Rattle.jsonpath_lines.specs.Output.{AreLines, IsCount, chosen, end_text}
use Rattle.jsonpath_lines.specs.declared.forms.Form.{Form}
use Rattle.jsonpath_lines.specs.declared.forms.Form.TheVariants.{Count, Nothing}
use Rattle.jsonpath_lines.specs.declared.forms.Layout.{Layout}
use Rattle.jsonpath_lines.specs.declared.forms.Layout.TheVariants.{Compact, Pretty}
use Rattle.jsonpath_lines.specs.declared.forms.Output.{Output}
use Rattle.jpq_program.specs.Looks.{ArePieces, Look, is_array}

-- each node is shown, in a line or an object of its own
abbrev pub has_nodes : Form → Bool
has_nodes Count = false
has_nodes Nothing = false
has_nodes _ = true

-- what is shown of the nodes of a result, after a head: each in this look, later than others in the same array or not; or what the
-- form shows of them all, unless that is summed up
abbrev pub AreShown : Look → Bool → List ℕ → List Located → List ℕ → Type 0
AreShown look later head nodes text = MatchBool (has_nodes look.output.form) (ArePieces look later head (chosen look.output nodes) text)
    (MatchBool look.summed (text ≡ []) (AreLines look.output head nodes text))

-- the same look, where so many nodes are wanted
abbrev pub with_most : Look → Option ℕ → Look
with_most look most = record look { output = record look.output { most = most } }

-- of two limits the lower
abbrev pub lower : Option ℕ → Option ℕ → Option ℕ
lower None other = other
lower (Some one) None = Some one
lower (Some one) (Some other) = Some (min one other)

-- the same look after so many nodes: no more are wanted than are left of those of all documents
abbrev pub look_after : Look → ℕ → Look
look_after look before = with_most look (lower look.output.most (option_map (λ most. most - before) look.most_of_all))

-- what is shown of the path's result on a document, after a head, and how many nodes are
abbrev pub IsAnswer : FunctionSet → JsonPath → Look → Bool → List ℕ → Data → List ℕ → ℕ → Type 0
IsAnswer F path look later head d text count = (nodes : List Located) × Selects (with_rule_of path F) (path_tree path) d nodes
    × AreShown look later head nodes text × IsCount look.output nodes count

-- the same of the document that the bytes are
abbrev pub IsAnswerOn : FunctionSet → JsonPath → Look → Bool → List ℕ → List ℕ → List ℕ → ℕ → Type 0
IsAnswerOn F path look later head bytes text count = (d : Data) × ReadsAs bytes d × IsAnswer F path look later head d text count

-- what is shown of a path whose query may be refused: nothing, or all, or where each node is shown the first, not more than are wanted
abbrev pub IsAnswerInPart : FunctionSet → JsonPath → Look → Bool → List ℕ → List ℕ → List ℕ → ℕ → Type 0
IsAnswerInPart F path look later head bytes text count = ((text ≡ []) × (count ≡ 0)) ⊎ (IsAnswerOn F path look later head bytes text count
    ⊎ ((has_nodes look.output.form ≡ true) × (first : ℕ) × IfSome look.output.most (λ most. first ≤ most)
    × IsAnswerOn F path (with_most look (Some first)) later head bytes text count))

-- what is shown of each of some items, in order, and how many nodes are; of each by its number, which is this one for the first, and by
-- how many nodes were shown before it
abbrev pub AreEach : {A : Type 0} → (ℕ → ℕ → A → List ℕ → ℕ → Type 0) → ℕ → ℕ → List A → List ℕ → ℕ → Type 0
AreEach Is number before [] text count = (text ≡ []) × (count ≡ 0)
AreEach Is number before (item ∷ items) text count =
    (own rest : List ℕ) × (one others : ℕ) × Is number before item own one × AreEach Is (number + 1) (before + one) items rest others
    × (text ≡ own ++ rest) × (count ≡ one + others)

-- the same of several paths of a document, before which so many nodes were shown, each after the head of its number
abbrev pub AreAnswersOn : FunctionSet → List JsonPath → Look → (ℕ → List ℕ) → List ℕ → ℕ → List ℕ → ℕ → Type 0
AreAnswersOn F paths look head bytes before text count =
    AreEach (λ number so_far path. IsAnswerOn F path (look_after look so_far) (nat_lt before so_far) (head number) bytes) 1 before paths text count

-- the same where queries may be refused, all of them where the document is
abbrev pub AreAnswersInPart : FunctionSet → List JsonPath → Look → (ℕ → List ℕ) → List ℕ → ℕ → List ℕ → ℕ → Type 0
AreAnswersInPart F paths look head bytes before text count =
    AreEach (λ number so_far path. IsAnswerInPart F path (look_after look so_far) (nat_lt before so_far) (head number) bytes) 1 before paths text count

-- ---- arrays

-- the end of an array, which may hold something
abbrev pub array_end : Layout → Bool → List ℕ
array_end Pretty true = codes "\n]"
array_end Pretty false = codes "]"
array_end Compact any = codes "]"

-- the line of an array, by its objects
abbrev pub array_text : Output → Bool → List ℕ → List ℕ
array_text output any objects = codes "[" ++ (objects ++ (array_end output.layout any ++ end_text output.end))

-- the text is such a line
abbrev pub IsArrayOf : Output → (List ℕ → ℕ → Type 0) → List ℕ → ℕ → Type 0
IsArrayOf output Are text count = (objects : List ℕ) × Are objects count × (text ≡ array_text output (nat_lt 0 count) objects)

-- the same where the document may be refused, which has none then
abbrev pub IsArrayInPart : Output → (List ℕ → ℕ → Type 0) → List ℕ → ℕ → Type 0
IsArrayInPart output Are text count = ((text ≡ []) × (count ≡ 0)) ⊎ IsArrayOf output Are text count

-- what is shown of a document for paths, after so many nodes: one array, or what is shown for each
abbrev pub IsShownOn : FunctionSet → List JsonPath → Look → (ℕ → List ℕ) → List ℕ → ℕ → List ℕ → ℕ → Type 0
IsShownOn F paths look head bytes before text count = MatchBool (is_array look.output.form)
    (IsArrayOf look.output (AreAnswersOn F paths look head bytes before) text count) (AreAnswersOn F paths look head bytes before text count)

-- the same where the document may be refused, or the query of a path
abbrev pub IsShownInPart : FunctionSet → List JsonPath → Look → (ℕ → List ℕ) → List ℕ → ℕ → List ℕ → ℕ → Type 0
IsShownInPart F paths look head bytes before text count = MatchBool (is_array look.output.form)
    (IsArrayInPart look.output (AreAnswersInPart F paths look head bytes before) text count)
    (AreAnswersInPart F paths look head bytes before text count)
