-- What is shown of lists of two, and of a document by a normalised path.
use Rattle.std.specs.Prelude.{◌≡◌, ◌+◌, ◌++◌, ℕ, Bool, false, List, [], ◌∷◌, None, Some, codes, length}
use Rattle.std.proofs.Common.{ap, arith, subst, sym, ◌∙◌}
use Rattle.serde_json.specs.Data.{Data}
use Rattle.serde_json.specs.Read.{read}
use Rattle.serde_json.specs.Written.{compact_text, has_float}
use Rattle.serde_json_path_nodes.specs.Location.{Located, Step, at}
use Rattle.serde_json_path_nodes.specs.Text.{normal}
use Rattle.serde_json_path_functions.specs.Functions.{FunctionSet}
use Rattle.serde_json_path_functions.specs.Patterns.{builtin_functions}
use Rattle.serde_json_path_parser.specs.Parse.{ParsedQuery}
use Rattle.serde_json_path_syntax.proofs.Bound.{same_bound}
use Rattle.serde_json_path_syntax.specs.Bound.{value_in}
use Rattle.serde_json_path_syntax.specs.Tree.{Query}
use Rattle.serde_json_path_core.specs.Meaning.{IsResult}
use Rattle.serde_json_path.specs.Laws.{IsNormal, tree_to}
use Rattle.serde_json_path.specs.Paths.{path_tree, with_rule_of}
use Rattle.serde_json_path.specs.declared.path.JsonPath.{JsonPath}
use Rattle.jsonpath_lines.specs.Output.{compact_lines}
use Rattle.jsonpath_lines.specs.declared.forms.Form.TheVariants.{LocationAndValue}
use Rattle.jpq_program.specs.Answers.{AreEach, IsAnswerOn}
use Rattle.jpq_program.specs.Looks.{ArePieces, Look}
use Rattle.jpq_program.specs.Run.{IsBound, IsPathOf, Reading}
use Rattle.jsonpath_lines.proofs.Words.{append-nil}

-- a result is the only one
abbrev pub ResultIsUnique : Type 0
ResultIsUnique = (F : FunctionSet) (top : Data) (q : Query) (node : Data) (some other : List Located) → IsResult F top q node some → IsResult F top q node other → some ≡ other

-- what is shown of two items, where it is known of each
pub two_each : {A : Type 0} (Is : ℕ → ℕ → A → List ℕ → ℕ → Type 0) (number before : ℕ) (one other : A) (first second text : List ℕ) (is also count : ℕ)
    → ((b : ℕ) (t : List ℕ) (n : ℕ) → Is number b one t n → (t ≡ first) × (n ≡ is)) → ((b : ℕ) (t : List ℕ) (n : ℕ) → Is (number + 1) b other t n → (t ≡ second) × (n ≡ also))
    → AreEach Is number before (one ∷ other ∷ []) text count → (text ≡ first ++ second) × (count ≡ is + also)
two_each Is number before one other first second text is also count front back are =
    let here = front before are.0 are.2 are.4 in
    let rest = are.5 in
    let there = back (before + are.2) rest.0 rest.2 rest.4 in (
      are.6 ∙ ap (λ t. t ++ are.1) here.0 ∙ ap (λ t. first ++ t) (rest.6 ∙ ap (λ t. t ++ rest.1) there.0 ∙ ap (λ t. second ++ t) rest.5.0 ∙ append-nil second),
      are.7 ∙ ap (λ n. n + are.3) here.1 ∙ ap (λ n. is + n) (rest.7 ∙ ap (λ n. n + rest.3) there.1 ∙ ap (λ n. also + n) rest.5.1 ∙ plus_zero also),
    )
  where
    plus_zero : (n : ℕ) → n + 0 ≡ n
    plus_zero n = grind arith

-- lines with location and value, as they are made
abbrev pub plain : Look
plain = record { output = compact_lines LocationAndValue; most_of_all = None; summed = false; unit = None; ascii = false; colours = None }

-- the line of a node by a path to it, after a head
abbrev pub line_to : List ℕ → List Step → Data → List ℕ
line_to head location v = head ++ ((normal location ++ (codes "\t" ++ compact_text v)) ++ codes "\n")

same_document : (d e : Data) → Some d ≡ Some e → d ≡ e
same_document d e same = cc

-- a path without values in it has the tree that was read
plain_tree : (reading : Reading) (plain path : JsonPath) → reading.bindings ≡ [] → IsBound reading.bindings plain path → path_tree path ≡ path_tree plain
plain_tree reading plain path none is =
    ap (λ (view : ParsedQuery). view.tree) is
    ∙ same_bound (value_in reading.bindings) (λ t. ap (λ (bindings : List (List ℕ × List ℕ)). value_in bindings t) none) (path_tree plain)

-- what is shown of a document by the normalised path of a node without doubles
pub answer_is : (location : List Step) (reading : Reading) (F : FunctionSet) (path : JsonPath) (later : Bool) (head bytes text : List ℕ) (count : ℕ) (d v : Data) → IsNormal location → ResultIsUnique → reading.bindings ≡ [] → IsPathOf reading (normal location) path
    → read bytes ≡ Some d → at d location ≡ Some v → has_float v ≡ false → IsAnswerOn F path plain later head bytes text count → (text ≡ line_to head location v) × (count ≡ 1)
answer_is location reading F path later head bytes text count d v law unique none parsed reads there whole shown =
    let is = shown.2 in
    let tree : tree_to location ≡ path_tree path = parsed.1.only (tree_to location) (law.accepted reading.numbers builtin_functions.signature) ∙ sym (plain_tree reading parsed.0 path none parsed.2) in
    let same : shown.0 ≡ d = same_document shown.0 d (sym shown.1.1 ∙ reads) in
    let node : Located = record { location = location; value = v } in
    let result : IsResult (with_rule_of path F) d (path_tree path) d (node ∷ []) = subst (λ q. IsResult (with_rule_of path F) d q d (node ∷ [])) tree (law.selects (with_rule_of path F) d v there) in
    let found : IsResult (with_rule_of path F) d (path_tree path) d is.0 = subst (λ own. IsResult (with_rule_of path F) own (path_tree path) own is.0) same is.1 in
    let only : is.0 ≡ node ∷ [] = unique (with_rule_of path F) d (path_tree path) d is.0 (node ∷ []) found result in
    let line : ArePieces plain later head (node ∷ []) text = subst (λ ns. ArePieces plain later head ns text) only is.2 in (
      line_is node text whole line,
      is.3 ∙ ap (λ (ns : List Located). length ns) only,
    )
  where
    line_is : (node : Located) (text : List ℕ) → has_float node.value ≡ false → ArePieces plain later head (node ∷ []) text → text ≡ line_to head node.location node.value
    line_is node text whole h =
        let own = h.2 in
        h.4 ∙ ap (λ rest. h.0 ++ rest) h.3 ∙ append-nil h.0 ∙ own.4 ∙ ap (λ seen. head ++ seen) (own.3 ∙ own.2.2)
        ∙ ap (λ t. head ++ (t ++ codes "\n")) (own.2.1.2 ∙ ap (λ json. normal node.location ++ (codes "\t" ++ json)) (own.2.1.1.0 whole))
