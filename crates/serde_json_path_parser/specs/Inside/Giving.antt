-- The words of contracts of private functions: a reader of a text, what is read at a level, and
-- that what a function of the parser returned is what reading gives.
use Rattle.std.specs.Prelude.{ℕ, true, false, List, codes, bytes_eq, Option, Some, None, if◌then◌else◌, ◌≡◌, ◌+◌, ◌≤◌, max, drop, length, ◌-◌, ◌++◌, Result, Ok, Err}
use Rattle.serde_json_path_parser.specs.Imports.{Numbers, Literal, truth, null, Selector, query, root, SegmentKind, Segments, Segment, Call, Arguments, Argument, Operand, called, operand, chars, Signature, FunctionSet, Fits, names_of, calls_in_segments, calls_in_selectors, calls_from, calls_in_arguments, calls_in_argument, calls_in_operand, parts_in, Branch, a_segment, argument_branch, calls_in_branch, IsPart, ArePartsOf, AreSelectorsOf, AreArgumentsOf, KeepsTrees, calls_in, rule_of, signatures_of, tree_of, result_kind, AreCalled, AreDeclared, names_in, result_of_call, result_of_operand, Part, Parts, SyntaxBuilder, Checked}
use Rattle.serde_json_path_functions.specs.Terms.{numbers_view}
use Rattle.serde_json_path_parser.specs.Source.{Observed}
use Rattle.serde_json_path_parser.specs.Inside.Looking.{up_to_second}
use Rattle.serde_json_path_parser.specs.declared.source.PathSource.{Ghosts}
use Rattle.serde_json_path_parser.specs.declared.parser.reader.Reader.{Reader}
use Rattle.serde_json_path_parser.specs.declared.parser.Parser.{Parser}
use Rattle.serde_json_path_parser.specs.Parsed.{Parsed, past_blanks, byte_count}
use Rattle.serde_json_path_parser.specs.Filters as filters
use Rattle.serde_json_path_parser.specs.Filters.{Deeper}
use Rattle.serde_json_path_syntax.specs.Branch as branch
use Rattle.serde_json_path_parser.specs.declared.error.Refusal.{Refusal}
use Rattle.serde_json_path_parser.specs.declared.error.Failure.{Failure}
use Rattle.serde_json_path_parser.specs.declared.error.Failure.TheVariants as failures
use Rattle.serde_json_path_parser.specs.Errors.{is_seen_at_next, no_memory}
use Rattle.serde_json_path_parser.specs.declared.error.ParseError.{ParseError}
use Rattle.serde_json_path_parser.specs.Parsing.{selector_list, segment_list}

-- ---- words

-- the literal of this word
abbrev pub literal_word : List ℕ → Option Literal
literal_word text =
    if bytes_eq text (codes "true") then Some (truth true)
    else if bytes_eq text (codes "false") then Some (truth false)
    else if bytes_eq text (codes "null") then Some null
    else None

-- ---- a reader of a text

module _ {S : Type 0} {g : Ghosts S} where
  -- what the reader's source tells
  abbrev pub observed : Reader S g → Observed
  observed r = g.observed r.source.now

  -- the characters that are left
  abbrev pub left : Reader S g → List ℕ
  left r = chars (drop r.index (observed r).text)

  -- how many bytes were seen: up to the next one, or up to the second one where it was looked at
  abbrev pub seen : Reader S g → ℕ
  seen r = up_to_second r.index r.next r.second

  -- The text stays, what was read stays read, there were no more looks than bytes that were seen,
  -- and none beyond them.
  pub record Moves (old new : Reader S g) : Type 0 where
    pub same_source : new.source.ghost_name ≡ old.source.ghost_name
    pub same_text : (observed new).text ≡ (observed old).text
    pub looks : (observed new).looks + seen old ≤ (observed old).looks + seen new
    pub farthest : (observed new).farthest ≤ max (observed old).farthest (seen new)
    pub on : seen old ≤ seen new

-- ---- what is read at a level

module _ {F : Type 0} (set : F → FunctionSet) where
  -- the signatures of the functions that are called
  abbrev pub signatures : Parser F → List ℕ → Option Signature
  signatures l = (set l.functions.now).signature

  -- how the text one filter, parenthesis or call deeper is read
  abbrev pub deeper : Parser F → Deeper
  deeper l = filters.level (numbers_view l.numbers) (signatures l) l.depth

  -- a branch as it is read at a level
  abbrev pub at_level : {A : Type 0} → Parser F
      → (Numbers → (List ℕ → Option Signature) → Deeper → A) → A
  at_level l read = read (numbers_view l.numbers) (signatures l) (deeper l)

  -- how a filter is read
  abbrev pub read_filter : Parser F → List ℕ → Parsed Selector
  read_filter l = at_level l filters.read_filter

-- ---- what a function of the parser gives

-- it stops with what reading refuses, unless memory was refused
abbrev pub Fails : {Y : Type 0} → Failure → Result Y Refusal → Type 0
Fails failures.Memory read = Unit {0}
Fails (failures.Refused r) read = read ≡ Err r

-- The result, seen by view, is what reading gives, and the reader stands after it.
abbrev pub IsAsRead : {X Y S : Type 0} {g : Ghosts S} → (X → Y) → Result X Failure → Reader S g
    → Parsed Y → Type 0
IsAsRead view (Ok x) reader read = read ≡ Ok (view x, left reader)
IsAsRead view (Err e) reader read = Fails e read

-- The builder has grown by parts that make these calls: each earlier part stays good, with its
-- tree, and the calls that were made since are these, each with the signature that its name has.
pub record Grows (signature : List ℕ → Option Signature) (old new : SyntaxBuilder) (calls : List Call) : Type 0 where
  pub trees : KeepsTrees old new
  pub names : names_in (calls_in new) ≡ names_in (calls_in old) ++ names_of calls
  pub declared : AreDeclared signature (calls_in old) → AreDeclared signature (calls_in new)

-- What was made is, as Is says, what reading gives, and Grown says of it how the builder has grown.
abbrev pub MakesSo : {X A S : Type 0} {g : Ghosts S} → (X → A → Type 0) → (A → Type 0)
    → Result X Failure → Reader S g → Parsed A → Type 0
MakesSo {A = A} Is Grown (Ok x) reader read =
    (a : A) × Is x a × (read ≡ Ok (a, left reader)) × Grown a
MakesSo Is Grown (Err e) reader read = Fails e read

-- The part that was made stands, as such a branch, for what reading gives.
abbrev pub Makes : {A S : Type 0} {g : Ghosts S} → (List ℕ → Option Signature) → (A → Branch)
    → SyntaxBuilder → SyntaxBuilder → Result Part Failure → Reader S g → Parsed A → Type 0
Makes signature branch old new =
    MakesSo (λ part x. IsPart new part (branch x))
    (λ x. Grows signature old new (calls_in_branch (branch x)))

-- What was built since some earlier time made the first calls before the builder grew, and makes
-- the others now.
abbrev pub GrowsFrom : (List ℕ → Option Signature) → SyntaxBuilder → SyntaxBuilder → List Call
    → List Call → Type 0
GrowsFrom signature old new first calls =
    (before : SyntaxBuilder) → Grows signature before old first → Grows signature before new calls

-- The same, out of a part that makes these calls.
abbrev pub MakesFrom : {A S : Type 0} {g : Ghosts S} → (List ℕ → Option Signature) → List Call
    → (A → Branch) → SyntaxBuilder → SyntaxBuilder → Result Part Failure → Reader S g → Parsed A
    → Type 0
MakesFrom signature first branch old new =
    MakesSo (λ part x. IsPart new part (branch x))
    (λ x. GrowsFrom signature old new first (calls_in_branch (branch x)))

-- a segment's branch
abbrev pub segment_branch : SegmentKind × Segment → Branch
segment_branch s = a_segment s.0 s.1

-- The tree is that of the segments that reading gives, the signatures are those of the names that
-- it calls, and comparisons take numbers by the rule.
abbrev pub IsQueryAsRead : Numbers → FunctionSet → Result Checked Failure → Result Segments Refusal
    → Type 0
IsQueryAsRead rule F (Ok checked) read =
    (segs : Segments) × (tree_of checked ≡ query root segs) × (read ≡ Ok segs)
    × AreCalled (signatures_of checked) (query root segs) × Fits F (signatures_of checked)
    × (rule_of checked ≡ rule)
IsQueryAsRead rule F (Err e) read = Fails e read

-- a call that stands as an argument keeps the type of result that its name has
abbrev pub KeepsResult : (List ℕ → Option Signature) → SyntaxBuilder → Part → Argument → Type 0
KeepsResult signature builder part (operand (called c)) =
    result_of_operand builder part ≡ result_kind signature c
KeepsResult signature builder part x = Unit {0}

-- The part stands for the argument that reading gives.
abbrev pub IsArgumentOf : (List ℕ → Option Signature) → SyntaxBuilder → Part → Argument → Type 0
IsArgumentOf signature builder part x =
    IsPart builder part (argument_branch x) × KeepsResult signature builder part x

module _ {S : Type 0} {g : Ghosts S} (signature : List ℕ → Option Signature) (old new : SyntaxBuilder) where
  -- The parts that were made stand for the selectors that reading gives.
  abbrev pub MakesSelectors : Result Parts Failure → Reader S g → Parsed (List Selector) → Type 0
  MakesSelectors =
      MakesSo (λ parts ss. AreSelectorsOf new (parts_in parts) (selector_list ss))
      (λ ss. Grows signature old new (calls_in_selectors (selector_list ss)))

  -- The parts that were made stand for the segments that reading gives. So many bytes are left
  -- after the last one, and the reader stands after the blanks there.
  abbrev pub MakesSegments : Result (Parts × ℕ) Failure → Reader S g
      → Parsed (List (SegmentKind × Segment)) → Type 0
  MakesSegments (Ok parts) reader read =
      (ss : List (SegmentKind × Segment)) × (rest : List ℕ)
      × ArePartsOf new (parts_in parts.0) (segment_list ss) × (parts.1 ≡ byte_count rest)
      × (left reader ≡ past_blanks rest) × (read ≡ Ok (ss, rest))
      × Grows signature old new (calls_in_segments (segment_list ss))
  MakesSegments (Err e) reader read = Fails e read

  abbrev pub MakesOperand : Result Part Failure → Reader S g → Parsed Operand → Type 0
  MakesOperand =
      MakesSo (λ part x. IsArgumentOf signature new part (operand x))
      (λ x. Grows signature old new (calls_in_operand x))

  -- The call is the one that reading gives, and it keeps the type of result that its name has.
  abbrev pub MakesCall : Result Part Failure → Reader S g → Parsed Call → Type 0
  MakesCall =
      MakesSo (λ call c. IsPart new call (branch.a_call c)
      × (result_of_call new call ≡ result_kind signature c))
      (λ c. Grows signature old new (calls_from c))

  abbrev pub MakesArgument : Result Part Failure → Reader S g → Parsed Argument → Type 0
  MakesArgument =
      MakesSo (IsArgumentOf signature new) (λ x. Grows signature old new (calls_in_argument x))

  -- The parts that were put after others stand for the arguments that reading gives.
  abbrev pub MakesArguments : List Part → List Part → Result Unit Failure → Reader S g
      → Parsed Arguments → Type 0
  MakesArguments before after =
      MakesSo (λ u args. (parts : List Part) × (after ≡ before ++ parts)
      × AreArgumentsOf new parts args)
      (λ args. Grows signature old new (calls_in_arguments args))

-- a refusal, and not want of memory
abbrev pub IsRefused : Failure → Type 0
IsRefused failures.Memory = ⊥
IsRefused (failures.Refused r) = Unit {0}

-- Where a refusal of some kinds is reported at the byte that is next, no byte was seen beyond the
-- one after its place.
abbrev pub StopsNear : {S : Type 0} {g : Ghosts S} → Failure → Reader S g → Type 0
StopsNear failures.Memory reader = Unit {0}
StopsNear (failures.Refused r) reader =
    is_seen_at_next r.kind ≡ true → seen reader + r.left ≤ length (observed reader).text + 2

abbrev pub IsNear : {X S : Type 0} {g : Ghosts S} → Result X Failure → Reader S g → Type 0
IsNear (Ok x) reader = Unit {0}
IsNear (Err e) reader = StopsNear e reader

-- The reader moved on, and where it stopped with such a refusal no byte was seen beyond the one
-- after its place.
pub record MovesTo {X S : Type 0} {g : Ghosts S} (result : Result X Failure) (old new : Reader S g) : Type 0 where
  pub moves : Moves old new
  pub near : IsNear result new

-- a refusal stands within a text of so many bytes
abbrev pub IsWithin : Failure → ℕ → Type 0
IsWithin failures.Memory total = Unit {0}
IsWithin (failures.Refused r) total = r.left ≤ total

-- the public error of a failure, in a text of so many bytes
abbrev pub error_of : Failure → ℕ → ParseError
error_of failures.Memory total = no_memory
error_of (failures.Refused r) total = record {
  kind = r.kind;
  context = r.context;
  position = total - r.left + 1;
}
