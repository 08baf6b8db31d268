-- Steps of the code: rows of items that a loop reads, how the builder grows by them, arguments, and what stands in filters.
use Rattle.serde_json_path_parser.proofs.Words.{rules, ◌||◌, begins_test, read_number, read_operand, with_front, Numbers, ◌↔◌, append-nil, map-append, name_of, names_of, calls_in_segments, calls_from, calls_in_arguments, KeepsParts, KeepsTrees, calls_in, AreDeclared, MayFinish, deepest, names_in, IsTyped, depth, Part, query, root, Segments, Call, call, Arguments, SyntaxBuilder, Signature, Grows, Parsed, Failure, Reader, Ghosts, SegmentKind, Segment, ArePartsOf, segment_list, length-append, Branch, IsPart, ArePartsFor, parts_for_kept, Fails, GrowsFrom, ◌>>=◌, many, Selector, LogicalOr, LogicalAnd, Basic, Deeper, a_selector, an_and, a_basic, segment_branch, segment_branches, selector_branches, or_branches, and_branches, calls_in_selectors, calls_in_or, calls_in_and, selector_list, or_list, and_list, past_blanks, is_at, are_at, begins, opens, opens_next, level, read_segment, read_selector, read_and, read_basic, argument, Argument, Kind, ExpectedClosingParenthesis, calls_in_argument, MakesArguments, refusal, ends_argument, read_argument, read_some_arguments, Literal, Operand, literal, of_value, kind_view, is_result, ◌==◌, filter, byte_count, read_or, read_call, IsTrue, is_singular, Query, IsSingular, result_kind, called, ◌≡◌, ◌≤◌, ℕ, List, [], ◌∷◌, ◌++◌, inl, inr, Some, Option, Result, Ok, Err, refl, sym, ap, subst, ◌∙◌, append_assoc, ◌<◌, Bool, true, false, length, arith, drop, ◌-◌, Context, read_filter, LongHand, MakesSo, calls_in_branch, same_from_decides, IsComparable, argument_branch, read_comparable, read_negated_test, read_test, IsArgumentOf, IsSeenAs, result_of_operand, IsTested, null, operand, logical_argument, test}
use Rattle.serde_json_path_syntax.proofs.Names.Finishing.{may_finish}
use Rattle.serde_json_path_syntax.proofs.Lists.{in_append}
use Rattle.serde_json_path_parser.proofs.Grammar.Calls.{level_laws}
use Rattle.serde_json_path_parser.proofs.Grammar.LogicalExpressions.{next_basic_consumes, next_and_consumes}
use Rattle.serde_json_path_parser.proofs.Grammar.Segments as segments
use Rattle.serde_json_path_parser.proofs.Reading.{first_fails, begins_differs, Consumes, many_end, many_err, many_more, ok_is}
use Rattle.serde_json_path_syntax.specs.declared.argument_ref.ArgumentRef.{ArgumentRef}
use Rattle.serde_json_path_syntax.specs.declared.argument_ref.ArgumentRef.TheVariants as forms
use denote.Enum.Bare.{sameb}
use Rattle.serde_json_path_functions.specs.contracts.types.FunctionArgType.{the_type}
use Rattle.serde_json_path_functions.specs.declared.types.FunctionArgType.{FunctionArgType}
use Rattle.serde_json_path_functions.specs.declared.types.FunctionArgType.TheVariants as results
use Rattle.serde_json_path_parser.proofs.Grammar.LogicalForms.{query_singular, singular_query}

-- ---- how the builder grows, and by which calls; and which parts stand for no segment

module _ {signature : List ℕ → Option Signature} where
  -- it has not grown
  pub grows_none : (builder : SyntaxBuilder) → Grows signature builder builder []
  grows_none builder = record { trees = λ part branch h. h; names = sym (append-nil (names_in (calls_in builder))); declared = λ h. h }

  -- it has grown by what makes no call
  pub grows_kept : {old mid new : SyntaxBuilder} {calls : List Call} → Grows signature old mid calls → KeepsParts mid new → Grows signature old new calls
  grows_kept grown keeps = record {
    trees = λ part branch h. keeps.trees part branch (grown.trees part branch h);
    names = ap names_in keeps.calls ∙ grown.names;
    declared = λ h. subst (AreDeclared signature) (sym keeps.calls) (grown.declared h);
  }

  pub grows_leaf : {old new : SyntaxBuilder} → KeepsParts old new → Grows signature old new []
  grows_leaf {old} keeps = grows_kept (grows_none old) keeps

  pub grows_same : {old new : SyntaxBuilder} {calls others : List Call} → calls ≡ others → Grows signature old new calls
      → Grows signature old new others
  grows_same {old} {new} e grown = subst (Grows signature old new) e grown

  pub grows_then : {old mid new : SyntaxBuilder} {calls more : List Call} → Grows signature old mid calls → Grows signature mid new more
      → Grows signature old new (calls ++ more)
  grows_then {old} {calls = calls} {more = more} grown further = record {
    trees = λ part branch h. further.trees part branch (grown.trees part branch h);
    names = further.names ∙ ap (λ ns. ns ++ names_of more) grown.names ∙ append_assoc (names_in (calls_in old)) (names_of calls) (names_of more)
        ∙ ap (λ ns. names_in (calls_in old) ++ ns) (sym (map-append name_of calls more));
    declared = λ h. further.declared (grown.declared h);
  }

  -- by a call, after its arguments
  pub grows_call : {old mid new : SyntaxBuilder} (name : List ℕ) (s : Signature) (args : Arguments) → signature name ≡ Some s → Grows signature old mid (calls_in_arguments args)
      → KeepsTrees mid new → calls_in new ≡ calls_in mid ++ (name, s) ∷ [] → Grows signature old new (calls_from (call name args))
  grows_call {mid = mid} name s args is grown keeps last = grows_then grown (record {
    trees = keeps;
    names = ap names_in last ∙ map-append (λ (u : List ℕ × Signature). u.0) (calls_in mid) ((name, s) ∷ []);
    declared = λ h. subst (AreDeclared signature) (sym last) (λ u i. elim ((in_append u (calls_in mid) ((name, s) ∷ [])).0 i) [
      | inl k ↦ h u k
      | inr k ↦ elim k [ inl e ↦ ap (λ (v : List ℕ × Signature). signature v.0) e ∙ is ∙ ap (λ (v : List ℕ × Signature). Some v.1) (sym e) | inr none ↦ absurd none ]
    ]);
  })

-- ---- the whole query

module _ (signature : List ℕ → Option Signature) (begun grown whole : SyntaxBuilder) (segs : Segments) (silent : calls_in begun ≡ [])
    (grows : Grows signature begun grown (calls_in_segments segs)) (keeps : KeepsParts grown whole) where
  -- each call of the builder has the signature that its name has
  pub all_declared : AreDeclared signature (calls_in whole)
  all_declared = (grows_kept grows keeps).declared (subst (AreDeclared signature) (sym silent) (λ u i. absurd i))

  -- a query of these segments may be finished, where it is well-typed and not too deep
  pub finishes : IsTyped signature (query root segs) → depth (query root segs) ≤ deepest → MayFinish (calls_in whole) (query root segs)
  finishes typed within_depth =
      may_finish signature (calls_in whole) (query root segs) refl typed within_depth
      ((grows_kept grows keeps).names ∙ ap (λ us. names_in us ++ names_of (calls_in_segments segs)) silent) all_declared

-- no part stands for no segment, and for nothing else
pub none_for_none : (builder : SyntaxBuilder) (parts : List Part) (ss : List (SegmentKind × Segment)) → ArePartsOf builder parts (segment_list ss) → parts ≡ [] ↔ ss ≡ []
none_for_none builder [] [] h = ((λ none. refl), (λ none. refl))
none_for_none builder (part ∷ parts) (s ∷ ss) h = ((λ none. absurd cc), (λ none. absurd cc))
none_for_none builder _ _ h = absurd h

-- ---- what was made, where more is known of how the builder grew

pub grown_so : {X A S : Type 0} {g : Ghosts S} (Is : X → A → Type 0) (Grown More : A → Type 0) (reader : Reader S g) (read : Parsed A) (result : Result X Failure)
    → MakesSo Is Grown result reader read → ((a : A) → Grown a → More a) → MakesSo Is More result reader read
grown_so Is Grown More reader read result h1 h2 = grind (arith)

-- the same, as what another reading gives
pub made_as : {X A B S : Type 0} {g : Ghosts S} (Is : X → A → Type 0) (As : X → B → Type 0) (Grown : A → Type 0) (More : B → Type 0) (of : A → B) (reader : Reader S g) (read : Parsed A) (whole : Parsed B) (result : Result X Failure)
    → MakesSo Is Grown result reader read → whole ≡ (read >>= λ x. Ok (of x.0, x.1)) → ((x : X) (a : A) → Is x a → As x (of a)) → ((a : A) → Grown a → More (of a)) → MakesSo As More result reader whole
made_as Is As Grown More of reader read whole result h1 h2 h3 h4 = grind (arith, first_fails)

-- ---- items in a row, which a loop reads one after another and whose parts it lists

-- the list of all is that of each, one after another
pub record Joins {A C : Type 0} (each : A → List C) (all : List A → List C) : Type 0 where
  pub none : all [] ≡ []
  pub some : (x : A) (xs : List A) → all (x ∷ xs) ≡ each x ++ all xs

-- one more
joined : {A C : Type 0} {each : A → List C} {all : List A → List C} → Joins each all → (xs : List A) (x : A) → all xs ++ each x ≡ all (xs ++ x ∷ [])
joined {each = each} law [] x = ap (λ l. l ++ each x) law.none ∙ sym (law.some x [] ∙ ap (λ l. each x ++ l) law.none ∙ append-nil (each x))
joined {each = each} {all = all} law (y ∷ xs) x =
    ap (λ l. l ++ each x) (law.some y xs) ∙ append_assoc (each y) (all xs) (each x) ∙ ap (λ l. each y ++ l) (joined law xs x) ∙ sym (law.some y (xs ++ x ∷ []))

-- one more part
pushed_part : (builder : SyntaxBuilder) (parts : List Part) (branches : List Branch) (part : Part) (branch : Branch) → ArePartsFor builder parts branches → IsPart builder part branch
    → ArePartsFor builder (parts ++ part ∷ []) (branches ++ branch ∷ [])
pushed_part builder [] [] part branch h p = (p, tt)
pushed_part builder (q ∷ parts) (x ∷ branches) part branch h p = (h.0, pushed_part builder parts branches part branch h.1 p)
pushed_part builder _ _ part branch h p = absurd h

-- How items stand in a row: each is read after what is before it, all have these branches and calls, and they make up a whole.
pub record Row (A B : Type 0) : Type 0 where
  pub more : List ℕ → Bool
  pub before : List ℕ → List ℕ
  pub item : List ℕ → Parsed A
  pub branch : A → Branch
  pub branches : List A → List Branch
  pub calls : List A → List Call
  pub whole : List A → B
  -- how many there are at least
  pub least : ℕ

module _ {A B : Type 0} (row : Row A B) where
  abbrev pub next : List ℕ → Parsed A
  next cs = row.item (row.before cs)

  -- what is read in all, after these items
  abbrev pub after : List A → Parsed (List A) → Parsed B
  after items read = read >>= λ xs. Ok (row.whole (items ++ xs.0), xs.1)

  pub record IsRow : Type 0 where
    pub consumes : Consumes row.more next
    pub branches : Joins (λ x. row.branch x ∷ []) row.branches
    pub calls : Joins (λ x. calls_in_branch (row.branch x)) row.calls

  -- What a loop has made of what is read in all, out of what made the first calls: the parts of some items, up to cs.
  pub record SoFar (signature : List ℕ → Option Signature) (old builder : SyntaxBuilder) (first : List Call) (parts : List Part) (cs : List ℕ) (read : Parsed B) : Type 0 where
    pub items : List A
    pub are : ArePartsFor builder parts (row.branches items)
    pub some : row.least ≤ length parts
    pub reads : after items (many row.more next cs) ≡ read
    pub grown : GrowsFrom signature old builder first (row.calls items)

module _ {A B : Type 0} {row : Row A B} (law : IsRow row) where
  regrouped : (items : List A) (x : A) (read : Parsed (List A)) → after row items (with_front (x ∷ []) read) ≡ after row (items ++ x ∷ []) read
  regrouped items x read = grind (arith, append_assoc)

  -- the first one, of a row that has one at least
  pub begins_row : {signature : List ℕ → Option Signature} {old builder : SyntaxBuilder} {first : List Call} {empty parts : List Part} {part : Part} {cs : List ℕ} {read : Parsed B} (x : A)
      → row.least ≤ 1 → empty ≡ [] → parts ≡ empty ++ part ∷ [] → IsPart builder part (row.branch x) → GrowsFrom signature old builder first (calls_in_branch (row.branch x))
      → after row (x ∷ []) (many row.more (next row) cs) ≡ read → SoFar row signature old builder first parts cs read
  begins_row {builder = builder} {part = part} x least none pushed is grown reads = record {
    items = x ∷ [];
    are = rw (pushed, none, ← joined law.branches [] x, law.branches.none) (is, tt);
    some = rw (pushed, none) least;
    reads = reads;
    grown = λ before h. grows_same (rw (← joined law.calls [] x, law.calls.none) refl) (grown before h);
  }

  module _ {cs ds : List ℕ} (there : row.more cs ≡ true) (past : ds ≡ row.before cs) where
    -- an item is refused
    pub row_fails : {signature : List ℕ → Option Signature} {old builder : SyntaxBuilder} {first : List Call} {parts : List Part} {read : Parsed B} → SoFar row signature old builder first parts cs read
        → (s : Failure) → Fails s (row.item ds) → Fails s read
    row_fails h1 s h2 = grind (arith, many_err)

    -- an item is made
    module _ {signature : List ℕ → Option Signature} {builder new : SyntaxBuilder} {part : Part} {rest : List ℕ}
        (one : (x : A) × IsPart new part (row.branch x) × (row.item ds ≡ Ok (x, rest)) × Grows signature builder new (calls_in_branch (row.branch x))) where
      reads_next : next row cs ≡ Ok (one.0, rest)
      reads_next = ap row.item (sym past) ∙ one.2

      pub row_shorter : length rest < length cs
      row_shorter = law.consumes.shorter cs rest one.0 there reads_next

      pub row_goes_on : {old : SyntaxBuilder} {first : List Call} {parts pushed : List Part} {read : Parsed B} → SoFar row signature old builder first parts cs read
          → pushed ≡ parts ++ part ∷ [] → SoFar row signature old new first pushed rest read
      row_goes_on {parts = parts} so_far e = record {
        items = so_far.items ++ one.0 ∷ [];
        are = rw (e, ← joined law.branches so_far.items one.0) (pushed_part new parts (row.branches so_far.items) part (row.branch one.0) (parts_for_kept builder new one.3.trees parts (row.branches so_far.items) so_far.are) one.1);
        some = rw (e, length-append parts (part ∷ [])) (let some = so_far.some in omega arith);
        reads = sym (regrouped so_far.items one.0 (many row.more (next row) rest)) ∙ ap (after row so_far.items) (sym (many_more row.more (next row) law.consumes cs rest one.0 there reads_next)) ∙ so_far.reads;
        grown = λ before h. grows_same (joined law.calls so_far.items one.0) (grows_then (so_far.grown before h) one.3);
      }

  -- no further item begins
  pub row_done : {signature : List ℕ → Option Signature} {old builder : SyntaxBuilder} {first : List Call} {parts : List Part} {cs rest : List ℕ} {read : Parsed B}
      → (so_far : SoFar row signature old builder first parts cs read) → row.more cs ≡ false → rest ≡ cs → read ≡ Ok (row.whole so_far.items, rest)
  row_done so_far h1 h2 = grind (arith, append-nil, many_end)

-- ---- the rows that are read at a level: segments, selectors, and what `||` and `&&` join

module _ (rule : Numbers) (signature : List ℕ → Option Signature) (deeper : Deeper) where
  abbrev pub segment_row : Context → Row (SegmentKind × Segment) (List (SegmentKind × Segment))
  segment_row here = record {
    more = opens_next;
    before = past_blanks;
    item = read_segment (read_filter rule signature deeper) here;
    branch = segment_branch;
    branches = λ ss. segment_branches (segment_list ss);
    calls = λ ss. calls_in_segments (segment_list ss);
    whole = λ ss. ss;
    least = 0;
  }

  abbrev pub selector_row : Row Selector (List Selector)
  selector_row = record {
    more = is_at ",";
    before = λ cs. past_blanks (drop 1 cs);
    item = read_selector (read_filter rule signature deeper);
    branch = a_selector;
    branches = λ ss. selector_branches (selector_list ss);
    calls = λ ss. calls_in_selectors (selector_list ss);
    whole = λ ss. ss;
    least = 1;
  }

  abbrev pub or_row : Row LogicalAnd LogicalOr
  or_row = record {
    more = are_at "||";
    before = λ cs. past_blanks (drop 2 cs);
    item = read_and rule signature deeper;
    branch = an_and;
    branches = λ xs. or_branches (or_list xs);
    calls = λ xs. calls_in_or (or_list xs);
    whole = or_list;
    least = 1;
  }

  abbrev pub and_row : Row Basic LogicalAnd
  and_row = record {
    more = are_at "&&";
    before = λ cs. past_blanks (drop 2 cs);
    item = read_basic rule signature deeper;
    branch = a_basic;
    branches = λ bs. and_branches (and_list bs);
    calls = λ bs. calls_in_and (and_list bs);
    whole = and_list;
    least = 1;
  }

module _ (rule : Numbers) (signature : List ℕ → Option Signature) (n : ℕ) where
  abbrev here : Deeper
  here = level rule signature n

  pub segments_stand : (at : Context) → IsRow (segment_row rule signature here at)
  segments_stand at = search (rules, segments.next_segment_consumes rule signature n here (level_laws rule signature n) at)

  pub segment_shorter : (at : Context) (cs rest : List ℕ) (x : SegmentKind × Segment) → begins opens cs ≡ true → read_segment (read_filter rule signature here) at cs ≡ Ok (x, rest) → length rest < length cs
  segment_shorter at = segments.segment_shorter rule signature n here (level_laws rule signature n) at

  pub selectors_stand : IsRow (selector_row rule signature here)
  selectors_stand = search (rules, segments.next_selector_consumes rule signature n here (level_laws rule signature n))

  pub ors_stand : IsRow (or_row rule signature here)
  ors_stand = search (rules, next_and_consumes rule signature n here (level_laws rule signature n))

  pub ands_stand : IsRow (and_row rule signature here)
  ands_stand = search (rules, next_basic_consumes rule signature n here (level_laws rule signature n))

-- where there is one part at least
pub some_parts : (builder : SyntaxBuilder) (Are : List Part → Type 0) (parts : List Part) (branches : List Branch) → 1 ≤ length parts
    → ((part : Part) (others : List Part) → ArePartsFor builder (part ∷ others) branches → Are (part ∷ others)) → ArePartsFor builder parts branches → Are parts
some_parts builder Are [] branches some are h = absurd (omega (arith, some))
some_parts builder Are (part ∷ parts) branches some are h = are part parts h

-- ---- parts of arguments

-- One is put after others, and those that are read after it.
one_made : {S : Type 0} {g : Ghosts S} {signature : List ℕ → Option Signature} {old builder : SyntaxBuilder} {mid : List Part} {part : Part}
    (a : Argument) (new : SyntaxBuilder) (before after : List Part) (reader : Reader S g) (result : Result Unit Failure) (read whole : Parsed Arguments) → mid ≡ before ++ part ∷ [] → IsPart builder part (argument_branch a) → Grows signature old builder (calls_in_argument a)
    → whole ≡ (read >>= λ more. Ok (argument a more.0, more.1))
    → MakesArguments signature builder new mid after result reader read → MakesArguments signature old new before after result reader whole
one_made {part = part} a new before after reader (Ok u) read whole pushed is grown e h = (
  argument a h.0,
  (part ∷ h.1.0, h.1.1 ∙ ap (λ (ps : List Part). ps ++ h.1.0) pushed ∙ append_assoc before (part ∷ []) h.1.0, (h.3.trees part (argument_branch a) is, h.1.2)),
  e ∙ ap (λ (y : Parsed Arguments). y >>= λ more. Ok (argument a more.0, more.1)) h.2,
  grows_then grown h.3,
)
one_made a new before after reader (Err s) read whole pushed is grown e h = rw e (first_fails s read _ h)

-- What a loop has made so far: with what is made of the arguments that are left, the parts make up the whole.
pub record LeadsTo {S : Type 0} (g : Ghosts S) (signature : List ℕ → Option Signature) (old builder : SyntaxBuilder) (before parts : List Part) (others whole : Parsed Arguments) : Type 0 where
  pub made : (new : SyntaxBuilder) (after : List Part) (reader : Reader S g) (result : Result Unit Failure)
      → MakesArguments signature builder new parts after result reader others → MakesArguments signature old new before after result reader whole

-- one more is put after them
pub one_more : {S : Type 0} {g : Ghosts S} {signature : List ℕ → Option Signature} {old builder new : SyntaxBuilder} {before parts pushed : List Part} {part : Part} {read others whole : Parsed Arguments}
    (a : Argument) → LeadsTo g signature old builder before parts read whole → pushed ≡ parts ++ part ∷ [] → IsPart new part (argument_branch a) → Grows signature builder new (calls_in_argument a)
    → read ≡ (others >>= λ more. Ok (argument a more.0, more.1)) → LeadsTo g signature old new before pushed others whole
one_more a h1 h2 h3 h4 h5 = grind (arith, one_made)

-- ---- where the first of them is refused, or does not end

module _ (rule : Numbers) (signature : List ℕ → Option Signature) (deeper : Deeper) (start : ℕ) where
  pub first_refused : (kinds : List Kind) (cs : List ℕ) (s : Failure) → Fails s (read_argument rule signature deeper cs) → Fails s (read_some_arguments rule signature deeper start kinds cs)
  first_refused [] cs s h = first_fails s _ _ h
  first_refused (kind ∷ kinds) cs s h = first_fails s _ _ h

  pub first_open : (kinds : List Kind) (cs : List ℕ) (a : Argument × List ℕ) → read_argument rule signature deeper cs ≡ Ok a → begins ends_argument a.1 ≡ false
      → read_some_arguments rule signature deeper start kinds cs ≡ Err (refusal ExpectedClosingParenthesis LongHand a.1)
  first_open [] cs a read no_end = rw (read, no_end) refl
  first_open (kind ∷ kinds) cs a read no_end = rw (read, no_end) refl

-- ---- which literal a word is

-- where no other operand begins, a number is read
pub number_reads : (rule : Numbers) (signature : List ℕ → Option Signature) (deeper : Deeper) (cs : List ℕ) (l : Literal) (rest : List ℕ) → begins (λ c. c == 39 || c == 34 || begins_test c) cs ≡ false
    → read_number rule cs ≡ Ok (l, rest) → read_operand rule signature deeper cs ≡ Ok (literal l, past_blanks rest)
number_reads rule signature deeper cs l rest h1 h2 = grind (arith)

-- ---- the steps of the code within a filter

-- how what stands in a filter, a parenthesis or a call is read one level deeper
pub level_down : (rule : Numbers) (signature : List ℕ → Option Signature) (n m : ℕ) → 0 < n → m ≡ n - 1 → level rule signature n ≡ record {
  expression = λ start cs. read_or rule signature (level rule signature m) cs;
  call_of = λ start f cs. read_call rule signature (level rule signature m) start f (signature f) cs;
}
unfolding level
level_down rule signature n m h1 h2 = grind (arith)

module _ (rule : Numbers) (signature : List ℕ → Option Signature) (deeper : Deeper) where
  -- a selector that begins with `?` is a filter
  pub at_mark : (cs : List ℕ) → is_at "?" cs ≡ true → read_selector (read_filter rule signature deeper) cs ≡ (deeper.expression (byte_count cs) (past_blanks (drop 1 cs)) >>= λ e. Ok (filter e.0, e.1))
  at_mark cs mark = grind (arith, begins_differs)

-- whether a result is a value
pub value_kind : (kind : FunctionArgType) → is_result of_value (Some (kind_view kind)) ≡ sameb the_type kind results.Value
value_kind kind = grind (arith)

-- ---- the steps of the code at operands, and at what an argument's type is

-- the operand of an argument that is one
abbrev pub operand_of : Argument → Operand
operand_of (operand o) = o
operand_of (logical_argument e) = literal null

module _ (rule : Numbers) (signature : List ℕ → Option Signature) (builder : SyntaxBuilder) (part : Part) where
  -- the type of a call's result, which its part keeps
  pub kept_result : (a : Argument) (c : Call) (kind : Option Kind) → IsArgumentOf signature builder part a → a ≡ operand (called c) → result_of_operand builder part ≡ kind → result_kind signature c ≡ kind
  kept_result a c kind is same keeps = sym (subst (IsArgumentOf signature builder part) same is).1 ∙ keeps

  module _ (deeper : Deeper) (start : ℕ) (x : Operand) (rest : List ℕ) where
    -- what is no literal is read as a test after `!`
    pub no_literal : (form : ArgumentRef) → ((l : _) → form ≡ forms.Literal l → ⊥) → IsSeenAs builder part form (operand x)
        → read_negated_test rule signature deeper start x rest ≡ read_test rule signature deeper true start x rest
    no_literal form h1 h2 = grind (arith)

    -- what is neither a query nor a call may be compared
    pub plain_read : (form : ArgumentRef) → ((q : _) → form ≡ forms.Query q → ⊥) → ((kind : _) → form ≡ forms.Call kind → ⊥) → IsSeenAs builder part form (operand x)
        → read_comparable rule signature deeper start x rest ≡ Ok (x, rest)
    plain_read form h1 h2 h3 = grind (arith)

    -- what is neither a literal nor a call may be tested
    pub plain_test : (negated : Bool) (form : ArgumentRef) → ((l : _) → form ≡ forms.Literal l → ⊥) → ((kind : _) → form ≡ forms.Call kind → ⊥) → IsSeenAs builder part form (operand x)
        → IsTested x × (read_test rule signature deeper negated start x rest ≡ Ok (test negated x, rest))
    plain_test negated form h1 h2 h3 = grind (arith)

-- what is read as a side of a comparison may be one
pub comparable_read : (rule : Numbers) (signature : List ℕ → Option Signature) (deeper : Deeper) (start : ℕ) (o a : Operand) (cs rest : List ℕ) → read_comparable rule signature deeper start o cs ≡ Ok (a, rest) → IsComparable a
comparable_read rule signature deeper start o a cs rest h1 = grind (arith, ok_is, singular_query)

-- a test that says whether a query is a singular one
pub singular_by : (b : Bool) (q : Query) → IsTrue b ↔ IsSingular q → is_singular q ≡ b
singular_by b q h = grind (arith, query_singular, same_from_decides, singular_query)
