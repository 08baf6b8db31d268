-- What the code looks up: names of a map in order, operands, and known cases.
use Rattle.serde_json_path_core.proofs.Words.{nat_tests, common_steps, ◌≡◌, Option, Some, None, MatchOption, Result, Ok, Err, IfErr, subst, List, ◌∷◌, Bool, true, false, ap, [], String, Global, Less, string_cmp, string_bytes, ◌<◌, ◌≤◌, length, slice_index_or, ◌&&◌, ◌||◌, refl, ◌∙◌, arith, ℕ, get_or, ℤ, option_and_then, option_map, Equal, nat_cmp, is_eq, sym, AllByRecursion, keys_of, members_view, Entry, in_order, Data, FunctionSet, LogicalAnd, LogicalOr, all_true, drop, take, take_all, ◌-◌, and_parts, each_is, is_basic, parts_bound, no_or, or, no_and, and, relation, Operand, Operator, and_in, ands_in, basic_in, ors_in, branch_in, branches_named, Branch, Part, compare_sides, compared, is_true, slice_cmp, is_at, lookup, is_eq-slice_cmp, bytes_eq-Decides, object, array, view, items_view, Value, view-lookup, get_item_within, get_item_past, items_len-items_view, Step, by_name, by_position, child_by, item_at, position_in, IsStrictlySortedBy, view-Array}
use Rattle.serde_json_path_core.proofs.Meaning.ChildSteps.{IsBelow, AreRising, in_order-rising}

-- ---- what is so of an option whose case is known

pub found-none : {A : Type 0} (P : Type 0) (Q : A → Type 0) (o : Option A) → o ≡ None → MatchOption o P Q → P
found-none P Q o e h = subst (λ found. MatchOption found P Q) e h

pub found-some : {A : Type 0} (P : Type 0) (Q : A → Type 0) (o : Option A) (x : A) → o ≡ Some x → MatchOption o P Q → Q x
found-some P Q o x e h = subst (λ found. MatchOption found P Q) e h

pub if-err : {A E : Type 0} (P : Type 0) (r : Result A E) → P → IfErr r (λ e. P)
if-err P r h = grind (arith, nat_tests, common_steps)

-- ---- the members of a map stand in order already, as its keys rise

below_keys : (key : String Global) (entries : List Entry) → AllByRecursion (λ k. string_cmp key k ≡ Less) (keys_of entries) → IsBelow (string_bytes key) (members_view entries)
below_keys key [] below = tt
below_keys key (e ∷ entries) below = (below.0, below_keys key entries below.1)

rising_keys : (entries : List Entry) → IsStrictlySortedBy string_cmp (keys_of entries) → AreRising (members_view entries)
unfolding IsStrictlySortedBy
rising_keys [] sorted = tt
rising_keys (e ∷ entries) sorted = (below_keys e.0 entries sorted.0, rising_keys entries sorted.1)

-- entries whose keys rise stay as they are
pub in_order-members_view : (entries : List Entry) → IsStrictlySortedBy string_cmp (keys_of entries) → in_order (members_view entries) ≡ members_view entries
in_order-members_view entries sorted = in_order-rising (members_view entries) (rising_keys entries sorted)

-- ---- logical expressions that begin with a comparison, and have no `||`

-- the parts after the first, as a slice has them
abbrev pub rest_of_parts : List Part → List Part
rest_of_parts parts = take (length parts - 1) (drop 1 parts)

all_but_first : (parts : List Part) → rest_of_parts parts ≡ drop 1 parts
all_but_first [] = refl
all_but_first (part ∷ more) = take_all (length (part ∷ more) - 1) more (omega arith)

pub leading-comparison : (ps : List Branch) (e : LogicalOr) (ors ands : List Part) (d : Part) (x : Operand) (op : Operator) (y : Operand)
    → 1 ≤ length ors → length ors < 2 → 1 ≤ length ands
    → e ≡ ors_in (branches_named ps ors) → and_in (branch_in ps (slice_index_or ors 0 d).number) ≡ ands_in (branches_named ps ands)
    → basic_in (branch_in ps (slice_index_or ands 0 d).number) ≡ relation x op y → e ≡ or (and (relation x op y) (ands_in (branches_named ps (rest_of_parts ands)))) no_or
leading-comparison ps e ors ands d x op y some_or one_or some_and is_or is_and is_basic = grind (arith, nat_tests, common_steps, all_but_first)

-- the operands of `&&` after it are some of its operands
pub after-first : (ps : List Branch) (parts : List Part) → each_is is_basic (branches_named ps parts) ≡ true
    → (each_is is_basic (branches_named ps (rest_of_parts parts)) ≡ true) × (parts_bound (rest_of_parts parts) ≤ parts_bound parts)
after-first ps [] kind = (kind, omega arith)
after-first ps (part ∷ more) kind = rw (all_but_first (part ∷ more)) ((and_parts (is_basic (branch_in ps part.number)) (each_is is_basic (branches_named ps more)) kind).1, omega arith)

alone : (b : Bool) → (b || false) ≡ b
alone b = grind (arith, nat_tests, common_steps)

-- it holds where the comparison and all others do
pub led-by-comparison : (F : FunctionSet) (top : Data) (e : LogicalOr) (x : Operand) (op : Operator) (y : Operand) (more : LogicalAnd)
    → e ≡ or (and (relation x op y) more) no_or → (v : Data) → is_true F top e v ≡ (compare_sides F.numbers op (compared F top x v) (compared F top y v) && all_true F top more v)
led-by-comparison F top e x op y more is v = ap (λ e. is_true F top e v) is ∙ alone (compare_sides F.numbers op (compared F top x v) (compared F top y v) && all_true F top more v)

-- ---- a look-up in a map or a vector finds what the same look-up in their data finds

same_name : (xs ys : List ℕ) → slice_cmp nat_cmp xs ys ≡ Equal → xs ≡ ys
same_name xs ys e = (bytes_eq-Decides xs ys).0 (sym (is_eq-slice_cmp xs ys) ∙ ap is_eq e)

reached : List Value → ℕ → Option (Step × Data)
reached vs p = child_by (array (items_view vs)) (by_position p)

item_at-is : (vs : List Value) (z : ℤ) (o : Option ℕ) → o ≡ position_in z (length vs) → option_and_then (reached vs) o ≡ item_at (array (items_view vs)) z
unfolding reached
item_at-is vs z o e = ap (option_and_then (reached vs)) e ∙ sym (ap (λ n. option_and_then (reached vs) (position_in z n)) (items_len-items_view vs))

pub item_none : (vs : List Value) (z : ℤ) (o : Option ℕ) → o ≡ None → o ≡ position_in z (length vs) → None ≡ item_at (array (items_view vs)) z
unfolding reached
item_none vs z o n e = sym (ap (option_and_then (reached vs)) n) ∙ item_at-is vs z o e

pub item_found : (vs : List Value) (z : ℤ) (o : Option ℕ) (p : ℕ) (v : Value) → o ≡ Some p → o ≡ position_in z (length vs) → p < length vs → v ≡ get_or vs p v → Some (by_position p, view v) ≡ item_at (array (items_view vs)) z
unfolding reached
item_found vs z o p v s e less is =
    ap (λ w. Some (by_position p, view w)) is ∙ ap (option_map (λ d. (by_position p, d))) (get_item_within vs p v less)
    ∙ sym (ap (option_and_then (reached vs)) s) ∙ item_at-is vs z o e

pub item_past : (vs : List Value) (z : ℤ) (o : Option ℕ) (p : ℕ) → o ≡ Some p → o ≡ position_in z (length vs) → length vs ≤ p → None ≡ item_at (array (items_view vs)) z
unfolding reached
item_past vs z o p s e less = grind (arith, nat_tests, common_steps, get_item_past, reached, item_at-is)

pub member_found : (name key : List ℕ) (es : List Entry) (v : Value) → slice_cmp nat_cmp name key ≡ Equal
    → Some v ≡ lookup (is_at (λ k. slice_cmp nat_cmp name (string_bytes k))) es → Some (by_name key, view v) ≡ child_by (object (members_view es)) (by_name name)
member_found name key es v e f =
    ap (λ k. Some (by_name k, view v)) (sym (same_name name key e))
    ∙ ap (option_map (λ d. (by_name name, d))) (ap (option_map view) f ∙ view-lookup name es)

pub member_missing : (name : List ℕ) (es : List Entry) → None ≡ lookup (is_at (λ k. slice_cmp nat_cmp name (string_bytes k))) es
    → None ≡ child_by (object (members_view es)) (by_name name)
member_missing name es f = ap (option_map (λ d. (by_name name, d))) (ap (option_map view) f ∙ view-lookup name es)

-- what a cursor is over
pub ruleset of_cursors = (nat_tests, common_steps, in_order-members_view, view-Array, items_len-items_view)
