-- What a query selects, computed.
use Rattle.std.specs.Prelude.{ℕ, ◌+◌, ◌-◌, nat_lt, ℤ, pos, negsuc, Option, Some, None, option_map, option_and_then, if◌then◌else◌, zero, suc, ◌/◌, ◌+ℤ◌, ◌-ℤ◌, int_lt, nat_abs, List, [], ◌∷◌, ◌++◌, map, flat_map, filter as keep, Bool, true, false, not, ◌&&◌, ◌||◌, option_to_list, bytes_eq}
use Rattle.serde_json_path_core.specs.Imports.{Num, Data, array, null_data, boolean, number, string, object, Items, no_items, item, Members, no_members, member, put, items_len, Step, by_position, child_at, by_name, Located, eq, lt, document_number, beq, option_map_or, nat_cmp, int_eq, is_lt, insert_entry, slice_cmp, chars, get_item, as_integer, Query, query, Segments, no_segments, segment, SegmentKind, child, descendant, Segment, dot_name, dot_wildcard, long_hand, Selectors, no_selectors, selector, Selector, name, wildcard, index, slice, filter, Slice, LogicalOr, no_or, or, LogicalAnd, no_and, and, Basic, paren, relation, test, Operator, equal, not_equal, less, less_or_equal, greater, greater_or_equal, Operand, literal, queried, called, Call, call, Arguments, no_arguments, argument, Argument, operand, logical_argument, Kind, of_value, of_nodes, of_logical, Term, nodes, FunctionSet, Numbers, whole_numbers, all_numbers, logical, whole_amount}
use Rattle.serde_json_path_core.specs.Slices.{step_of, bound_of}
use Rattle.serde_json_path_functions.specs.Functions as functions
use Rattle.serde_json_path_core.specs.Compared.{Compared, nothing, value, billionths, amount_of, exact_of, literal_compared, value_compared}
use Rattle.serde_json_path_core.specs.Derivation.{start_of, beneath}
use Rattle.serde_json_path_core.specs.Meaning.{literal_value, first_value, params_of}

-- ---- the one child that a name or an index selects, computed

-- the child at that step, with the step
abbrev pub child_by : Data → Step → Option (Step × Data)
child_by v s = option_map (λ c. (s, c)) (child_at v s)

-- the position that an index means in an array of that length
abbrev pub position_in : ℤ → ℕ → Option ℕ
position_in (pos p) len = Some p
position_in (negsuc k) len = if nat_lt k len then Some (len - (k + 1)) else None

abbrev pub item_at : Data → ℤ → Option (Step × Data)
item_at (array items) i = option_and_then (λ p. child_by (array items) (by_position p)) (position_in i (items_len items))
item_at _ i = None

-- ---- children and descendants

-- an array's items with their positions, the first at that position (section 1.1)
abbrev pub items_from : ℕ → Items → List (Step × Data)
items_from position no_items = []
items_from position (item d more) = (by_position position, d) ∷ items_from (position + 1) more

-- an object's members with their names, as they stand (section 1.1)
abbrev pub members_all : Members → List (Step × Data)
members_all no_members = []
members_all (member k d more) = (by_name k, d) ∷ members_all more

-- an object's members in order (section 1.1)
abbrev pub in_order : Members → Members
in_order no_members = no_members
in_order (member k d more) = put k d (in_order more)

-- the children of a value in document order (sections 1.1 and 2.3.2.2)
abbrev pub children : Data → List (Step × Data)
children (array items) = items_from 0 items
children (object members) = members_all (in_order members)
children _ = []

-- a value with the empty location, as a query begins there (section 2.1.2)
abbrev pub itself : Data → Located
itself v = record { location = []; value = v }

-- a member and all below it, as located from the object (section 2.5.2.2)
abbrev pub below_member : List ℕ × List Located → List Located
below_member block = map (beneath (by_name block.0 ∷ [])) block.1

-- a value and all below it, in document order (section 2.5.2.2)
abbrev mutual
  pub descents : Data → List Located
  descents (array items) = itself (array items) ∷ items_descents 0 items
  descents (object members) = itself (object members) ∷ flat_map below_member (members_descents members)
  descents null_data = itself null_data ∷ []
  descents (boolean b) = itself (boolean b) ∷ []
  descents (number n) = itself (number n) ∷ []
  descents (string text) = itself (string text) ∷ []

  -- an array's items and all below each, the first at that position
  pub items_descents : ℕ → Items → List Located
  items_descents position no_items = []
  items_descents position (item d more) = map (beneath (by_position position ∷ [])) (descents d) ++ items_descents (position + 1) more

  -- each name with its member and all below it, in order
  pub members_descents : Members → List (List ℕ × List Located)
  members_descents no_members = []
  members_descents (member k d more) = insert_entry (slice_cmp nat_cmp) (members_descents more) k (descents d)

-- the nodes at which a segment's selectors are applied: the node alone, or it and all below it (sections 2.5.1.2 and 2.5.2.2)
abbrev pub reached : SegmentKind → Located → List Located
reached child n = n ∷ []
reached descendant n = map (beneath n.location) (descents n.value)

-- a child as a node, below the location of its parent (section 2.7)
abbrev pub placed : List Step → Step × Data → Located
placed above c = record { location = above ++ c.0 ∷ []; value = c.1 }

-- ---- slices (section 2.3.4.2)

-- evenly spaced positions, rising or falling
pub record SlicePositions : Type 0 where
  pub upwards : Bool
  pub first : ℕ
  pub stride : ℕ
  pub count : ℕ

-- how many of 0, the stride, twice the stride and so on are below the width
abbrev pub count_within : ℕ → ℕ → ℕ
count_within zero stride = 0
count_within (suc width) stride = suc (width / stride)

-- a slice's positions with a step above 0: from the start up to the end
abbrev pub rising : Slice → ℕ → ℕ → SlicePositions
rising s len stride =
    let start = nat_abs (bound_of (pos len) s.start (pos 0) (pos 0) (pos len)) in
    let end = nat_abs (bound_of (pos len) s.end (pos len) (pos 0) (pos len)) in
    record { upwards = true; first = start; stride = stride; count = count_within (end - start) stride }

-- a slice's positions with a step below 0: from the start down to the end, each of which may lie just before position 0
abbrev pub falling : Slice → ℕ → ℕ → SlicePositions
falling s len stride =
    let last = pos len -ℤ pos 1 in
    let start = nat_abs (bound_of (pos len) s.start last (pos 0 -ℤ pos 1) last +ℤ pos 1) in
    let end = nat_abs (bound_of (pos len) s.end ((pos 0 -ℤ pos len) -ℤ pos 1) (pos 0 -ℤ pos 1) last +ℤ pos 1) in
    record { upwards = false; first = start - 1; stride = stride; count = count_within (start - end) stride }

-- the positions of a slice with that step; step 0 has no positions
abbrev pub positions_by : ℤ → Slice → ℕ → SlicePositions
positions_by (pos zero) s len = record { upwards = true; first = 0; stride = 0; count = 0 }
positions_by (pos (suc k)) s len = rising s len (suc k)
positions_by (negsuc k) s len = falling s len (suc k)

-- the position after this one
abbrev pub next_position : Bool → ℕ → ℕ → ℕ
next_position true position stride = position + stride
next_position false position stride = position - stride

-- the items at so many positions from this one on, as far as there are items
abbrev pub strided : ℕ → Bool → ℕ → ℕ → Items → List (Step × Data)
strided zero upwards position stride items = []
strided (suc count) upwards position stride items =
    option_map_or (λ d. (by_position position, d) ∷ strided count upwards (next_position upwards position stride) stride items) (get_item position items) []

-- the items at some positions
abbrev pub at_positions : SlicePositions → Items → List (Step × Data)
at_positions c items = strided c.count c.upwards c.first c.stride items

-- the children that a slice selects, in its order
abbrev pub sliced : Slice → Data → List (Step × Data)
sliced s (array items) = at_positions (positions_by (step_of s) s (items_len items)) items
sliced s _ = []

-- ---- comparisons (section 2.3.5.2.2)

-- both are there, and the test holds of them
abbrev pub of_both : {A : Type 0} → (A → A → Bool) → Option A → Option A → Bool
of_both holds (Some a) (Some b) = holds a b
of_both _ _ _ = false

-- two numbers of documents are equal
abbrev pub same_number : Numbers → Num → Num → Bool
same_number whole_numbers a b = of_both int_eq (as_integer a) (as_integer b)
same_number all_numbers a b = eq (document_number a) (document_number b)

-- the billionths of a side that is a whole number
abbrev pub whole_of : Compared → Option ℤ
whole_of (billionths amount) = whole_amount amount
whole_of side = amount_of side

-- two sides are numbers, one at least of a literal, and equal
abbrev pub same_sides : Numbers → Compared → Compared → Bool
same_sides whole_numbers a b = of_both int_eq (amount_of a) (amount_of b)
same_sides all_numbers a b = of_both eq (exact_of a) (exact_of b)

-- two sides are numbers, and the first is less
abbrev pub rising_sides : Numbers → Compared → Compared → Bool
rising_sides whole_numbers a b = of_both int_lt (amount_of a) (amount_of b)
rising_sides all_numbers a b = of_both lt (exact_of a) (exact_of b)

module _ (numbers : Numbers) where
  abbrev mutual
    -- whether two values are equal
    pub same_data : Data → Data → Bool
    same_data null_data null_data = true
    same_data (boolean a) (boolean b) = beq a b
    same_data (number a) (number b) = same_number numbers a b
    same_data (string a) (string b) = bytes_eq a b
    same_data (array xs) (array ys) = same_items xs ys
    same_data (object xs) (object ys) = same_members xs ys
    same_data _ _ = false

    -- whether two arrays are equal, item by item
    pub same_items : Items → Items → Bool
    same_items no_items no_items = true
    same_items (item a xs) (item b ys) = same_data a b && same_items xs ys
    same_items _ _ = false

    -- whether two objects are equal, by their names and values in order
    pub same_members : Members → Members → Bool
    same_members no_members no_members = true
    same_members (member k a xs) (member l b ys) = bytes_eq k l && (same_data a b && same_members xs ys)
    same_members _ _ = false

  -- `==`
  abbrev pub is_same : Compared → Compared → Bool
  is_same nothing nothing = true
  is_same (value a) (value b) = same_data a b
  is_same (value a) (billionths b) = same_sides numbers (value a) (billionths b)
  is_same (billionths a) b = same_sides numbers (billionths a) b
  is_same _ _ = false

  -- `<`
  abbrev pub comes_before : Compared → Compared → Bool
  comes_before (value (string a)) (value (string b)) = is_lt (slice_cmp nat_cmp (chars a) (chars b))
  comes_before a b = rising_sides numbers a b

  -- a comparison of what its sides stand for
  abbrev pub compare : Operator → Compared → Compared → Bool
  compare equal a b = is_same a b
  compare not_equal a b = not (is_same a b)
  compare less a b = comes_before a b
  compare less_or_equal a b = comes_before a b || is_same a b
  compare greater a b = comes_before b a
  compare greater_or_equal a b = comes_before b a || is_same b a

  -- the same, where a side may stand for nothing that is compared: then it is false
  abbrev pub compare_sides : Operator → Option Compared → Option Compared → Bool
  compare_sides op (Some a) (Some b) = compare op a b
  compare_sides op _ _ = false

-- ---- answers of calls (section 2.4)

-- the list has a member, as a test of a query asks (section 2.3.5.2.1)
abbrev pub is_nonempty : {A : Type 0} → List A → Bool
is_nonempty [] = false
is_nonempty (x ∷ xs) = true

-- an answer as a test (section 2.4.2)
abbrev pub answer_holds : Term → Bool
answer_holds (functions.value v) = false
answer_holds (nodes ds) = is_nonempty ds
answer_holds (logical b) = b

-- what was found, or its opposite where it is negated
abbrev pub not_if : Bool → Bool → Bool
not_if true b = not b
not_if false b = b

-- an answer as a side of a comparison: a value or Nothing; an answer of another type stands for nothing that is compared
abbrev pub answer_compared : Term → Option Compared
answer_compared (functions.value v) = Some (value_compared v)
answer_compared (nodes ds) = None
answer_compared (logical b) = None

-- an answer as an argument of that type (section 2.4.2)
abbrev pub answer_as : Kind → Term → Term
answer_as of_value t = t
answer_as of_nodes t = t
answer_as of_logical t = logical (answer_holds t)

-- a query's result as an argument of that type (section 2.4.3)
abbrev pub result_as : Kind → List Located → Term
result_as of_value ns = functions.value (first_value ns)
result_as of_nodes ns = nodes (map (λ n. n.value) ns)
result_as of_logical ns = logical (is_nonempty ns)

module _ (F : FunctionSet) where
  abbrev mutual
    -- the call has an answer: there is a parameter for each of its arguments, as for those of the calls among them
    pub is_answered : Call → Bool
    is_answered (call f args) = are_taken args (params_of (F.signature f))

    pub are_taken : Arguments → List Kind → Bool
    are_taken no_arguments kinds = true
    are_taken (argument a more) [] = false
    are_taken (argument a more) (kind ∷ kinds) = is_taken a && are_taken more kinds

    pub is_taken : Argument → Bool
    is_taken (operand o) = is_given o
    is_taken (logical_argument e) = true

    pub is_given : Operand → Bool
    is_given (called c) = is_answered c
    is_given _ = true

module _ (F : FunctionSet) (top : Data) where
  -- ---- queries (sections 2.1 to 2.5)

  abbrev mutual
    -- the nodes of a query's result where `@` is v (section 2.1.2)
    pub results : Query → Data → List Located
    results (query kind segs) v = results_from segs (itself (start_of kind top v))

    -- the nodes that the segments select from a node, one segment after the other (section 2.5)
    pub results_from : Segments → Located → List Located
    results_from no_segments n = n ∷ []
    results_from (segment kind seg more) n =
        flat_map (λ m. flat_map (results_from more) (map (placed m.location) (chosen seg m.value))) (reached kind n)

    -- the children that a segment's selectors select (section 2.5.1.2)
    pub chosen : Segment → Data → List (Step × Data)
    chosen (dot_name k) v = option_to_list (child_by v (by_name k))
    chosen dot_wildcard v = children v
    chosen (long_hand sels) v = chosen_by sels v

    -- the same of the selectors in brackets, one after the other
    pub chosen_by : Selectors → Data → List (Step × Data)
    chosen_by no_selectors v = []
    chosen_by (selector sel more) v = selected sel v ++ chosen_by more v

    -- the children that a selector selects, in its order (section 2.3)
    pub selected : Selector → Data → List (Step × Data)
    selected (name k) v = option_to_list (child_by v (by_name k))
    selected wildcard v = children v
    selected (index i) v = option_to_list (item_at v i)
    selected (slice s) v = sliced s v
    selected (filter e) v = keep (λ c. is_true e c.1) (children v)

    -- whether a logical expression holds where `@` is v (section 2.3.5)
    pub is_true : LogicalOr → Data → Bool
    is_true no_or v = false
    is_true (or a more) v = all_true a v || is_true more v

    -- whether all parts joined by `&&` hold
    pub all_true : LogicalAnd → Data → Bool
    all_true no_and v = true
    all_true (and b more) v = basic_true b v && all_true more v

    -- whether a parenthesis, a comparison or a test holds (sections 2.3.5.2.1 and 2.3.5.2.2)
    pub basic_true : Basic → Data → Bool
    basic_true (paren negated e) v = not_if negated (is_true e v)
    basic_true (relation a op b) v = compare_sides F.numbers op (compared a v) (compared b v)
    basic_true (test negated o) v = not_if negated (test_true o v)

    -- whether a query selects a node, or a call's answer holds
    pub test_true : Operand → Data → Bool
    test_true (literal l) v = false
    test_true (queried q) v = is_nonempty (results q v)
    test_true (called c) v = answer_holds (answer c v)

    -- what a side of a comparison stands for (section 2.3.5.2.2), if its answer is a value
    pub compared : Operand → Data → Option Compared
    compared (literal l) v = Some (literal_compared l)
    compared (queried q) v = Some (value_compared (first_value (results q v)))
    compared (called c) v = answer_compared (answer c v)

    -- the answer of a call: the set's meaning of its name and arguments (section 2.4); without one, what holds as no test and is
    -- compared with nothing
    pub answer : Call → Data → Term
    answer (call f args) v =
        if are_taken F args (params_of (F.signature f)) then F.meaning f (arguments args (params_of (F.signature f)) v) else logical false

    -- the arguments as parameters of those types take them (section 2.4.3)
    pub arguments : Arguments → List Kind → Data → List Term
    arguments no_arguments kinds v = []
    arguments (argument a more) [] v = []
    arguments (argument a more) (kind ∷ kinds) v = argument_as a kind v ∷ arguments more kinds v

    -- an argument as a parameter of that type takes it
    pub argument_as : Argument → Kind → Data → Term
    argument_as (operand o) kind v = operand_as o kind v
    argument_as (logical_argument e) kind v = logical (is_true e v)

    -- an operand as a parameter of that type takes it
    pub operand_as : Operand → Kind → Data → Term
    operand_as (literal l) kind v = functions.value (Some (literal_value l))
    operand_as (queried q) kind v = result_as kind (results q v)
    operand_as (called c) kind v = answer_as kind (answer c v)
