-- What handles hold, and what calls answer of it.
use Rattle.std.specs.Prelude.{◌≡◌, ◌≢◌, ◌==◌, ◌≤◌, ◌<◌, ◌+◌, ◌++◌, ◌⊎◌, ◌↔◌, if◌then◌else◌, ℕ, pos, Bool, true, false, List, [], ◌∷◌, Option, None, length, map, slice_get}
use Rattle.jsonpath_c.specs.Words.{document_of, query_of, rest, set_of, float_zero, sum_by, MatchOption, chars, Data, IsUtf8, ReadsAs, is_too_deep_at, view, path_rule, path_tree, with_rule_of, CallsByPattern, Selects, FunctionSet, builtin_functions, first_places, Located, Step, by_name, by_position, at, normal, pointer, KeptNode, kept, location_of, NodeInfo, Null, False, True, Integer, Unsigned, Double, String, Array, Object, IsAccepted, IsLine, IsLineOfEach, compact_lines, Form, LocationAndValue, Location, Value}
use Rattle.jsonpath_c.specs.Exports.{IsPut, FindsNoRoom, rule_of}
use Rattle.jsonpath_c.specs.declared.compiled.Compiled.{Compiled}
use Rattle.jsonpath_c.specs.declared.handle.document.Document.{Document}
use Rattle.jsonpath_c.specs.declared.handle.nodes.Nodes.{Nodes}
use Rattle.jsonpath_c.specs.declared.handle.walk.HeldWalk.{HeldWalk}
use Rattle.jsonpath_c.specs.declared.limits.Limits.{Limits}
use Rattle.jsonpath_c.specs.declared.node.Node.{Node}
use Rattle.jsonpath_c.specs.declared.node_texts.LocationForm.{LocationForm}
use Rattle.jsonpath_c.specs.declared.node_texts.LocationForm.TheVariants.{Path, Pointer}

-- ---- what calls are lent

-- two handles hold two things of which this holds
abbrev pub BothHold : {A B : Type 0} → Option A → Option B → (A → B → Type 0) → Type 0
BothHold a b Says = MatchOption a ⊥ (λ x. MatchOption b ⊥ (λ y. Says x y))

-- a call that is lent a handle answers 7 exactly if it is empty
abbrev pub TellsEmpty : {A : Type 0} → Option A → ℕ → Type 0
TellsEmpty handle status = (status ≡ 7) ↔ (handle ≡ None)

-- a call that is lent two handles answers 7 exactly if one is empty
abbrev pub TellsEitherEmpty : {A B : Type 0} → Option A → Option B → ℕ → Type 0
TellsEitherEmpty handle other status = (status ≡ 7) ↔ ((handle ≡ None) ⊎ (other ≡ None))

-- ---- paths

-- the functions under which a compiled path runs
abbrev pub functions_of : Compiled → FunctionSet
functions_of c = with_rule_of c.path.value builtin_functions

-- a path's handle holds the path that a text is, by the rule that a number names
abbrev pub HoldsPathOf : List ℕ → ℕ → Option Compiled → Type 0
HoldsPathOf text numbers handle = MatchOption handle ⊥ (λ c.
    IsAccepted (rule_of numbers) builtin_functions.signature (chars text) (path_tree c.path.value)
    × (path_rule c.path.value ≡ rule_of numbers))

-- ---- paths and documents

-- the path selects these nodes from the document, in order
abbrev pub SelectsFrom : Compiled → Data → List Located → Type 0
SelectsFrom c d nodes = Selects (functions_of c) (path_tree c.path.value) d nodes

-- some call of the path goes by a pattern that `regex` reads, on the document
abbrev pub CallsByPatternFrom : Compiled → Data → Type 0
CallsByPatternFrom c d = CallsByPattern (functions_of c) d (path_tree c.path.value)

-- whether there are nodes, as 1 or 0
abbrev pub TellsSome : ℕ → List Located → Type 0
TellsSome some nodes = ((some ≡ 1) × (nodes ≢ [])) ⊎ ((some ≡ 0) × (nodes ≡ []))

-- two handles hold a path and a document, from which the path selects nodes of which this holds
abbrev pub SelectThose : Option Compiled → Option Document → (List Located → Type 0) → Type 0
SelectThose path document Says = BothHold path document (λ c d. (nodes : List Located) × SelectsFrom c (view d.json.value) nodes × Says nodes)

-- A path is asked of a document: 7 tells that a handle is empty, and with 3 a call goes by a pattern.
pub record IsAsked (path : Option Compiled) (document : Option Document) (status : ℕ) : Type 0 where
  pub empty : TellsEitherEmpty path document status
  pub pattern_refused : status ≡ 3 → BothHold path document (λ c d. CallsByPatternFrom c (view d.json.value))

-- ---- paths and bytes

-- a handle holds a path, and bytes read as a document, of which this holds
abbrev pub HoldOf : Option Compiled → List ℕ → (Compiled → Data → Type 0) → Type 0
HoldOf path bytes Says = MatchOption path ⊥ (λ c. (d : Data) × ReadsAs bytes d × Says c d)

-- What is told of bytes by a status, with `position` before and after: with 2 and 9 they are no document, and where that shows;
-- with 9 an array or an object begins there within 127 others.
pub record TellsFault (bytes : List ℕ) (old_position new_position status : ℕ) : Type 0 where
  pub refused : (status ≡ 2) ⊎ (status ≡ 9) → (d : Data) → ReadsAs bytes d → ⊥
  pub too_deep : status ≡ 9 → is_too_deep_at bytes new_position ≡ true
  pub not_too_deep : status ≡ 2 → IsUtf8 bytes → is_too_deep_at bytes new_position ≡ false
  pub position : (status ≡ 2) ⊎ (status ≡ 9) → (1 ≤ new_position) × (new_position ≤ length bytes + 1)
  pub kept_position : status ≢ 2 → status ≢ 9 → new_position ≡ old_position

-- A path is asked of bytes: 7 tells that its handle is empty, of bytes that are no document the fault is told, and with 3 a call
-- goes by a pattern on the document that they are.
pub record IsAskedOf (path : Option Compiled) (bytes : List ℕ) (old_position new_position status : ℕ) : Type 0 where
  pub empty : TellsEmpty path status
  pub fault : TellsFault bytes old_position new_position status
  pub pattern_refused : status ≡ 3 → HoldOf path bytes CallsByPatternFrom

-- with these statuses nothing is answered of the document that bytes are: they are none, memory was refused, or the path's
-- handle is empty
abbrev pub IsNoAnswer : ℕ → Type 0
IsNoAnswer status = (status ≡ 2) ⊎ (status ≡ 4) ⊎ (status ≡ 7) ⊎ (status ≡ 9)

-- ---- lists of nodes

-- the nodes that a call asks for: each location once, where a number other than 0 says so
abbrev pub asked_of : ℕ → List Located → List Located
asked_of unique nodes = if unique == 0 then nodes else first_places nodes

-- how many bytes the name of a step has; an index has no name
abbrev pub name_length : Step → ℕ
name_length (by_name name) = length name
name_length (by_position index) = 0

-- how many bytes the names of a location have together
abbrev pub name_bytes : List Step → ℕ
name_bytes location = sum_by name_length location

-- the same of the locations of some nodes
abbrev pub all_name_bytes : List Located → ℕ
all_name_bytes nodes = sum_by (λ node. name_bytes node.location) nodes

-- one node more would go beyond the limits: there are as many as there may be, or its names would be too long beside theirs
abbrev pub IsNodeBeyond : Limits → List Located → Located → Type 0
IsNodeBeyond limits shown next =
    (limits.nodes ≤ length shown) ⊎ (limits.bytes < all_name_bytes shown + name_bytes next.location)

-- What is kept is the first of some nodes, as many as the limits allow: of all, or of those before one that would go beyond.
pub record AreFirstNodes (limits : Limits) (nodes : List Located) (list : List KeptNode) (all : Bool) : Type 0 where
  pub shown : List Located
  pub more : List Located
  pub first : nodes ≡ shown ++ more
  pub kept : list ≡ map kept shown
  pub few : length shown ≤ limits.nodes
  pub short : all_name_bytes shown ≤ limits.bytes
  pub complete : all ≡ true → more ≡ []
  pub cut : all ≡ false → (next : Located) × (later : List Located) × (more ≡ next ∷ later) × IsNodeBeyond limits shown next

-- ---- walks

-- a handle holds a walk over the nodes that a path selects from a document, all of which remain
abbrev pub GoesOver : Option HeldWalk → Compiled → Document → Type 0
GoesOver walk c d = MatchOption walk ⊥ (λ w. SelectsFrom c (view d.json.value) (rest w.walk)
    × (set_of w.walk ≡ functions_of c) × (query_of w.walk ≡ path_tree c.path.value) × (document_of w.walk ≡ view d.json.value))

-- two walks ask the same query of the same document
abbrev pub AskTheSame : HeldWalk → HeldWalk → Type 0
AskTheSame w x = (set_of x.walk ≡ set_of w.walk) × (query_of x.walk ≡ query_of w.walk) × (document_of x.walk ≡ document_of w.walk)

-- a walk gives its next nodes, at most so many, whose list a handle holds, and the rest remains; where it gives fewer, none does
abbrev pub GivesNext : ℕ → Option Nodes → HeldWalk → HeldWalk → Type 0
GivesNext most list w after = (found : List Located) × (rest w.walk ≡ found ++ rest after.walk)
    × (length found ≤ most) × (length found < most → rest after.walk ≡ [])
    × MatchOption list ⊥ (λ nodes. nodes.nodes ≡ map kept found) × AskTheSame w after

-- some call of a walk's query goes by a pattern that `regex` reads, on its document
abbrev pub MayRefusePattern : HeldWalk → Type 0
MayRefusePattern w = CallsByPattern (set_of w.walk) (document_of w.walk) (query_of w.walk)

-- ---- single nodes

-- What C is told of a node: its kind, and the number or the length that its kind has. What it does not have is 0.
abbrev pub told_of_kind : ℕ → Node
told_of_kind kind = record { kind = kind; length = 0; integer = pos 0; unsigned = 0; number = float_zero }

abbrev pub told_of : NodeInfo → Node
told_of Null = told_of_kind 0
told_of False = told_of_kind 1
told_of True = told_of_kind 2
told_of (Integer n) = record (told_of_kind 3) { integer = n }
told_of (Unsigned n) = record (told_of_kind 4) { unsigned = n }
told_of (Double x) = record (told_of_kind 5) { number = x }
told_of (String bytes) = record (told_of_kind 6) { length = bytes }
told_of (Array items) = record (told_of_kind 7) { length = items }
told_of (Object members) = record (told_of_kind 8) { length = members }

-- a list's handle holds a node at an index, from 0, of which this holds
abbrev pub HasNode : Option Nodes → ℕ → (KeptNode → Type 0) → Type 0
HasNode handle index Says = MatchOption handle ⊥ (λ list. MatchOption (slice_get list.nodes index) ⊥ Says)

-- the text is this of the location of a list's node at an index
abbrev pub IsOfNode : (List Step → List ℕ) → Option Nodes → ℕ → List ℕ → Type 0
IsOfNode text_of handle index text = HasNode handle index (λ node. text ≡ text_of (location_of node))

-- an index is past the last node of a list
abbrev pub IsPast : Option Nodes → ℕ → Type 0
IsPast handle index = MatchOption handle ⊥ (λ list. slice_get list.nodes index ≡ None)

-- a handle holds the first of some nodes, as many as the limits allow
abbrev pub HoldsFirst : Option Nodes → Limits → List Located → Bool → Type 0
HoldsFirst handle limits nodes all = MatchOption handle ⊥ (λ list. AreFirstNodes limits nodes list.nodes all)

-- a value of which this holds stands in a document where a list's node at an index was
abbrev pub HasValueAt : Nodes → ℕ → Document → (Data → Type 0) → Type 0
HasValueAt list index d Says = MatchOption (slice_get list.nodes index) ⊥ (λ node.
    MatchOption (at (view d.json.value) (location_of node)) ⊥ Says)

-- the same of two handles
abbrev pub StandsAt : Option Nodes → ℕ → Option Document → (Data → Type 0) → Type 0
StandsAt list index document Says = BothHold list document (λ list d. HasValueAt list index d Says)

-- how a location is written
abbrev pub location_text : LocationForm → List Step → List ℕ
location_text Path location = normal location
location_text Pointer location = pointer location

-- ---- lines

-- the form of lines that a number names: 1 is values alone, 2 locations alone
abbrev pub form_of : ℕ → Form
form_of number = if number == 1 then Value else if number == 2 then Location else LocationAndValue

-- one line more would go beyond the limits: there are as many nodes as there may be, or the text would be too long
abbrev pub IsBeyond : Form → Limits → List Located → List ℕ → Located → Type 0
IsBeyond form limits shown text next =
    (limits.nodes ≤ length shown) ⊎ ((line : List ℕ) × IsLine (compact_lines form) [] next line × (limits.bytes < length text + length line))

-- The text is the lines of the first of some nodes, as many as the limits allow: of all, or of those before one that would go
-- beyond.
pub record AreFirstLines (form : Form) (limits : Limits) (nodes : List Located) (text : List ℕ) (all : Bool) : Type 0 where
  pub shown : List Located
  pub more : List Located
  pub first : nodes ≡ shown ++ more
  pub lines : IsLineOfEach (compact_lines form) [] shown text
  pub few : length shown ≤ limits.nodes
  pub short : length text ≤ limits.bytes
  pub complete : all ≡ true → more ≡ []
  pub cut : all ≡ false → (next : Located) × (later : List Located) × (more ≡ next ∷ later) × IsBeyond form limits shown text next

-- What a call for lines answers of a path and a document, with what it was lent before and after: `out` and `size`.
pub record AnswersLinesOf (form : Form) (limits : Limits) (c : Compiled) (d : Data) (old_out new_out : List ℕ) (old_size new_size status : ℕ) : Type 0 where
  pub statuses : (status ≡ 0) ⊎ (status ≡ 3) ⊎ (status ≡ 4) ⊎ (status ≡ 5) ⊎ (status ≡ 8)
  pub done : status ≡ 0 → (nodes : List Located) × (text : List ℕ) × SelectsFrom c d nodes × AreFirstLines form limits nodes text true × IsPut text old_out new_out new_size
  pub cut : status ≡ 8 → (nodes : List Located) × (text : List ℕ) × SelectsFrom c d nodes × AreFirstLines form limits nodes text false × IsPut text old_out new_out new_size
  pub no_room : status ≡ 5 → (nodes : List Located) × (text : List ℕ) × (all : Bool) × SelectsFrom c d nodes × AreFirstLines form limits nodes text all × FindsNoRoom text old_out new_size
  pub pattern_refused : status ≡ 3 → CallsByPatternFrom c d
  pub kept_out : status ≢ 0 → status ≢ 8 → new_out ≡ old_out
  pub kept_size : status ≢ 0 → status ≢ 5 → status ≢ 8 → new_size ≡ old_size
