-- The computed ends are those of the derivations, and the computed tests hold where the defined ones do.
use Rattle.serde_json_path_core.proofs.Words.{arith, nat_tests, common_steps, ◌≡◌, ℕ, zero, suc, List, [], ◌∷◌, ◌++◌, map, ◌↔◌, inl, inr, Bool, true, false, ◌&&◌, Option, Some, None, option_and_then, refl, sym, ap, subst, ◌∙◌, true≢false, Numbers, value, always, never, Decides, AllZip, Decides-and, Decides-or, Decides-not, same_from_decides, same_Some, none-some, Data, Step, by_name, child_at, at, Located, QueryKind, Query, query, SegmentKind, child, descendant, Segments, no_segments, segment, Segment, dot_name, dot_wildcard, long_hand, Selectors, no_selectors, selector, Selector, name, wildcard, index, slice, filter, LogicalOr, no_or, or, LogicalAnd, no_and, and, Basic, paren, relation, test, Operator, Operand, literal, queried, called, Call, call, Arguments, no_arguments, argument, Argument, operand, logical_argument, Kind, of_value, of_nodes, of_logical, Term, nodes, FunctionSet, Compared, Compares, literal_compared, value_compared, Triple, location_of, start_of, BelongsTo, Before, IsIn, MayDescend, Derives, AdmitsIn, AdmitsBy, Admits, Holds, HoldsAll, HoldsBasic, HoldsTest, NotIf, Exists, IsResult, IsComparedAs, Answers, AreArguments, IsArgument, AnswersYes, IsTruthOf, first_value, params_of, itself, children, results, selected, is_true, all_true, basic_true, test_true, not_if, compare_sides, compared, answer, arguments, argument_as, are_taken, is_answered, is_taken, is_given, operand_as, IsTakenAs, answer_holds, answer_compared, is_nonempty, in_append, in_map, map_in, in_flat_map, in_keep, in_order-map, logical}
use Rattle.serde_json_path_core.proofs.Meaning.ChildSteps.{in_children, in_child_by, in_item_at}
use Rattle.serde_json_path_core.proofs.Meaning.Comparisons.{Decides-compare}
use Rattle.serde_json_path_core.proofs.Meaning.Descents.{in_descents}
use Rattle.serde_json_path_core.proofs.Meaning.DerivationEnds.{End, triple_at, later, after, levels, picks_by, picks, through, ends, ends_ordered, node_at, results-ends}
use Rattle.serde_json_path_core.proofs.Meaning.Order.{result_once}
use Rattle.serde_json_path_core.proofs.Meaning.SlicePositions.{in_sliced}

-- ---- locations

pub at-append : (v : Data) (ls ms : List Step) → at v (ls ++ ms) ≡ option_and_then (λ d. at d ms) (at v ls)
at-append v [] ms = refl
at-append v (s ∷ ls) ms =
    elim (child_at v s) as (λ o. option_and_then (λ c. at c (ls ++ ms)) o ≡ option_and_then (λ d. at d ms) (option_and_then (λ c. at c ls) o)) [
      | None ↦ refl
      | Some c ↦ at-append c ls ms
    ]

-- what stands below a child of a value below v
at_below : (v : Data) (down : List Step) (d : Data) (s : Step) (c : Data) (rest : List Step)
    → at v down ≡ Some d → child_at d s ≡ Some c → at v ((down ++ s ∷ []) ++ rest) ≡ at c rest
at_below v down d s c rest p q = grind (arith, nat_tests, common_steps, at-append)

-- the values at which selectors are applied are those that the segment may descend to
in_levels : (kind : SegmentKind) (v : Data) (m : Located) → IsIn m (levels kind v) ↔ (MayDescend kind m.location × (at v m.location ≡ Some m.value))
in_levels kind v m = grind (arith, nat_tests, common_steps, same_Some, in_descents)

-- the triples of children
in_triples : (down : List Step) (cs : List (Step × Data)) (t : Triple × Data)
    → IsIn t (map (triple_at down) cs) ↔ ((t.0.descent ≡ down) × (t.0.number ≡ 0) × IsIn {A = Step × Data} (t.0.step, t.1) cs)
in_triples down cs t = (
  λ h. let c = (in_map (triple_at down) t cs).0 h in
      (ap (λ (u : Triple × Data). u.0.descent) c.2, ap (λ (u : Triple × Data). u.0.number) c.2, subst (λ (u : Triple × Data). IsIn {A = Step × Data} (u.0.step, u.1) cs) (sym c.2) c.1),
  λ h. (in_map (triple_at down) t cs).1 ((t.0.step, t.1), h.2, λ i. (record { descent = h.0 i; number = h.1 i; step = t.0.step }, t.1)),
)

-- ---- tests and answers

yes_decides : (t : Term) → Decides (answer_holds t) (AnswersYes t)
yes_decides t = grind (arith, nat_tests, common_steps)

truth_of : (P : Type 0) (b : Bool) (t : Term) → Decides b P → IsTruthOf P t ↔ (t ≡ logical b)
truth_of P b t d = (λ h. h.1 ∙ ap logical (same_from_decides h.0 b h.2 d), λ e. (b, e, d))

-- a relation of what the sides stand for
relation_right : (numbers : Numbers) (op : Operator) (o p : Option Compared) (A B : Compared → Type 0) → ((x : Compared) → A x ↔ (o ≡ Some x)) → ((y : Compared) → B y ↔ (p ≡ Some y))
    → Decides (compare_sides numbers op o p) ((x y : Compared) × A x × B y × Compares numbers op x y)
relation_right numbers op (Some a) (Some b) A B f g = grind (arith, nat_tests, common_steps, same_Some, Decides-compare)
relation_right numbers op None p A B f g = (λ e. absurd (true≢false (sym e)), λ h. absurd (none-some h.0 ((f h.0).0 h.2)))
relation_right numbers op (Some a) None A B f g = (λ e. absurd (true≢false (sym e)), λ h. absurd (none-some h.1 ((g h.1).0 h.3)))

-- a call with an answer answers that alone; one without answers nothing, and `logical false` stands for its answer
abbrev IsAnswer : Bool → Term → (Term → Type 0) → Type 0
IsAnswer there a A = (there ≡ false → a ≡ logical false) × ((t : Term) → A t ↔ ((there ≡ true) × (t ≡ a)))

-- an answer as a side of a comparison
answer_side : (there : Bool) (a : Term) (A : Term → Type 0) → IsAnswer there a A → (x : Compared) → ((o : Option Data) × A (value o) × (x ≡ value_compared o)) ↔ (answer_compared a ≡ Some x)
answer_side there a A f x = grind (arith, nat_tests, common_steps, same_Some, none-some)

-- an answer as a test
answer_test : (there : Bool) (a : Term) (A : Term → Type 0) → IsAnswer there a A → Decides (answer_holds a) ((t : Term) × A t × AnswersYes t)
answer_test there a A f = grind (arith, nat_tests, common_steps, yes_decides)

-- an answer as an argument of type Logical
answer_logical : (there : Bool) (a : Term) (A : Term → Type 0) → IsAnswer there a A → (t : Term)
    → ((u : Term) × A u × IsTruthOf (AnswersYes u) t) ↔ ((there ≡ true) × (t ≡ logical (answer_holds a)))
answer_logical there a A f t = grind (arith, nat_tests, common_steps, yes_decides, truth_of)

-- an argument that is no call
plainly : {P Q : Type 0} → P ↔ Q → P ↔ ((true ≡ true) × Q)
plainly f = (λ p. (refl, f.0 p), λ h. f.1 h.1)

-- one argument and those after it
one_more : (first others : Bool) (P Q : Type 0) (t a : Term) (ts more : List Term) → P ↔ ((first ≡ true) × (t ≡ a)) → Q ↔ ((others ≡ true) × (ts ≡ more))
    → (P × Q) ↔ (((first && others) ≡ true) × ((t ∷ ts) ≡ (a ∷ more)))
one_more first others P Q t a ts more f g = grind (arith, nat_tests, common_steps)

module _ (F : FunctionSet) (top : Data) where
  -- ---- what the computed lists and tests of a tree are to be

  -- the segments' ends are their derivations, each with the value that it leads to
  abbrev AreEnds : Segments → Type 0
  AreEnds segs =
      (v : Data) → ((e : End) → IsIn e (ends F top segs v) → Derives F top segs v e.0 × (at v (location_of e.0) ≡ Some e.1))
      × ((xs : List Triple) → Derives F top segs v xs → (d : Data) × IsIn {A = End} (xs, d) (ends F top segs v))

  -- the segment's triples at a node are those that it admits there
  abbrev ArePicks : Segment → Type 0
  ArePicks seg =
      (down : List Step) (v : Data) (t : Triple × Data)
      → IsIn t (picks F top seg down v) ↔ ((t.0.descent ≡ down) × AdmitsIn F top seg t.0.number v t.0.step × (child_at v t.0.step ≡ Some t.1))

  -- the selector's children are those that it admits
  abbrev AreSelected : Selector → Type 0
  AreSelected sel = (v : Data) (c : Step × Data) → IsIn c (selected F top sel v) ↔ (Admits F top sel v c.0 × (child_at v c.0 ≡ Some c.1))

  -- the query's computed list is its result
  abbrev IsQueryRight : Query → Type 0
  IsQueryRight q = (v : Data) → IsResult F top q v (results F top q v)

  -- ---- the steps of the induction

  ends_step : (kind : SegmentKind) (seg : Segment) (more : Segments) → ArePicks seg → AreEnds more → AreEnds (segment kind seg more)
  ends_step kind seg more are_picks are_ends v = (forth, back)
    where
      forth : (e : End) → IsIn e (ends F top (segment kind seg more) v) → Derives F top (segment kind seg more) v e.0 × (at v (location_of e.0) ≡ Some e.1)
      forth e h =
          let t = (in_flat_map (λ (u : Triple × Data). map (after u) (ends F top more u.1)) e (through F top kind seg v)).0 h in
          let m = (in_flat_map (λ (n : Located). picks F top seg n.location n.value) t.0 (levels kind v)).0 t.1 in
          let k = (in_map (after t.0) e (ends F top more t.0.1)).0 t.2 in
          let l = (in_levels kind v m.0).0 m.1 in
          let p = (are_picks m.0.location m.0.value t.0).0 m.2 in
          let i = (are_ends t.0.1).0 k.0 k.1 in
          let there = ap (at v) p.0 ∙ l.1 in
          rw k.2 (
            (rw p.0 l.0, (m.0.value, there, p.1, (t.0.1, p.2, i.0))),
            at_below v t.0.0.descent m.0.value t.0.0.step t.0.1 (location_of k.0.0) there p.2 ∙ i.1,
          )

      back : (xs : List Triple) → Derives F top (segment kind seg more) v xs → (d : Data) × IsIn {A = End} (xs, d) (ends F top (segment kind seg more) v)
      back [] h = absurd h
      back (x ∷ xs) (may, (w, there, admits, (c, leads, rest))) =
          let m : Located = record { location = x.descent; value = w } in
          let here : IsIn {A = Triple × Data} (x, c) (through F top kind seg v) =
          (in_flat_map _ (x, c) (levels kind v)).1 (m, (in_levels kind v m).1 (may, there), (are_picks x.descent w (x, c)).1 (refl, admits, leads)) in
          let later = (are_ends c).1 xs rest in
          (later.0, (in_flat_map _ (x ∷ xs, later.0) (through F top kind seg v)).1 ((x, c), here, map_in (after (x, c)) (xs, later.0) (ends F top more c) later.1))

  picks_by_step : (sel : Selector) (more : Selectors) → AreSelected sel → ArePicks (long_hand more) → ArePicks (long_hand (selector sel more))
  picks_by_step sel more are_selected are_picks down v t = (forth, λ h. back t.0.number refl h.0 h.1 h.2)
    where
      forth : IsIn t (picks_by F top (selector sel more) down v) → (t.0.descent ≡ down) × AdmitsBy F top (selector sel more) t.0.number v t.0.step × (child_at v t.0.step ≡ Some t.1)
      forth h =
          elim ((in_append t (map (triple_at down) (selected F top sel v)) (map later (picks_by F top more down v))).0 h) [
            | inl g ↦ let k = (in_triples down (selected F top sel v) t).0 g in let s = (are_selected v (t.0.step, t.1)).0 k.2 in
                (k.0, subst (λ n. AdmitsBy F top (selector sel more) n v t.0.step) (sym k.1) s.0, s.1)
            | inr g ↦ let k = (in_map later t (picks_by F top more down v)).0 g in rw k.2 ((are_picks down v k.0).0 k.1)
          ]

      back : (m : ℕ) → t.0.number ≡ m → t.0.descent ≡ down → AdmitsBy F top (selector sel more) m v t.0.step → child_at v t.0.step ≡ Some t.1
          → IsIn t (picks_by F top (selector sel more) down v)
      back zero e d a c = (in_append t _ _).1 (inl ((in_triples down (selected F top sel v) t).1 (d, e, (are_selected v (t.0.step, t.1)).1 (a, c))))
      back (suc m) e d a c =
          let u : Triple × Data = (record { descent = t.0.descent; number = m; step = t.0.step }, t.1) in
          (in_append t _ _).1
          (inr ((in_map later t (picks_by F top more down v)).1 (u, (are_picks down v u).1 (d, a, c), λ i. (record { descent = t.0.descent; number = e i; step = t.0.step }, t.1))))

  zipped : (start : Data) (es : List End) → ((e : End) → IsIn e es → at start (location_of e.0) ≡ Some e.1)
      → AllZip (BelongsTo start) (map (λ (e : End). e.0) es) (map (node_at (itself start)) es)
  zipped start [] f = tt
  zipped start (e ∷ es) f = ((refl, f e (inl refl)), zipped start es (λ x h. f x (inr h)))

  -- a result has a node exactly where the query has a derivation
  has_node : (q : Query) (v : Data) (ns : List Located) → IsResult F top q v ns → Decides (is_nonempty ns) (Exists F top q v)
  has_node (query kind segs) v [] ([], order, derive, zip) = (λ e. absurd (true≢false (sym e)), λ h. absurd ((derive h.0).1 h.1))
  has_node (query kind segs) v (n ∷ ns) (d ∷ ds, order, derive, zip) = (λ e. (d, (derive d).0 (inl refl)), λ h. refl)
  has_node (query kind segs) v _ (_, order, derive, zip) = absurd zip

  -- what a query's result gives
  result_gives : (q : Query) → IsQueryRight q → (v : Data) (A : Type 0) (f : List Located → A) (x : A)
      → ((ns : List Located) × IsResult F top q v ns × (x ≡ f ns)) ↔ (x ≡ f (results F top q v))
  result_gives q right v A f x = grind (arith, nat_tests, common_steps, result_once)

  -- what is negated is decided by the opposite
  Decides-not_if : {P : Type 0} (negated b : Bool) → Decides b P → Decides (not_if negated b) (NotIf negated P)
  Decides-not_if negated b decides = grind (arith, nat_tests, common_steps)

  -- ---- the whole language

  mutual
    -- the computed list of a query is its result
    pub computed_result : (q : Query) → IsQueryRight q
    computed_result (query kind segs) = λ v.
        let start = start_of kind top v in
        let es = ends F top segs start in
        let are = are_ends segs start in
        let derive : (xs : List Triple) → IsIn xs (map (λ (e : End). e.0) es) ↔ Derives F top segs start xs = λ xs. (
          λ h. let k = (in_map (λ (e : End). e.0) xs es).0 h in subst (Derives F top segs start) (sym k.2) (are.0 k.0 k.1).0,
          λ h. let d = are.1 xs h in map_in (λ (e : End). e.0) (xs, d.0) es d.1,
        ) in
        subst (IsResult F top (query kind segs) v) (sym (results-ends F top segs (itself start)))
        (map (λ (e : End). e.0) es, in_order-map (Before segs) (λ (e : End). e.0) es (ends_ordered F top segs start), derive, zipped start es (λ e h. (are.0 e h).1))

    -- the computed ends of segments are those of their derivations
    are_ends : (segs : Segments) → AreEnds segs
    are_ends no_segments = λ v. (
      λ e. elim [ inl p ↦ (ap (λ (x : End). x.0) p, subst (λ (x : End). at v (location_of x.0) ≡ Some x.1) (sym p) refl) | inr h ↦ absurd h ],
      λ xs h. (v, inl (λ i. (h i, v))),
    )
    are_ends (segment kind seg more) = ends_step kind seg more (are_picks seg) (are_ends more)

    are_picks : (seg : Segment) → ArePicks seg
    are_picks (dot_name k) = λ down v t. grind (arith, nat_tests, common_steps, in_child_by, in_triples)
    are_picks dot_wildcard = λ down v t.
        let i = in_triples down (children v) t in
        let c = in_children v (t.0.step, t.1) in
        (λ h. let j = i.0 h in (j.0, j.1, c.0 j.2), λ h. i.1 (h.0, h.1, c.1 h.2))
    are_picks (long_hand sels) = are_picks_by sels

    are_picks_by : (sels : Selectors) → ArePicks (long_hand sels)
    are_picks_by no_selectors = λ down v t. (λ h. absurd h, λ h. absurd h.1)
    are_picks_by (selector sel more) = picks_by_step sel more (are_selected sel) (are_picks_by more)

    are_selected : (sel : Selector) → AreSelected sel
    are_selected (name k) = λ v c. in_child_by v (by_name k) c
    are_selected wildcard = λ v c. let i = in_children v c in (λ h. (tt, i.0 h), λ h. i.1 h.1)
    are_selected (index i) = λ v c. in_item_at v i c
    are_selected (slice s) = λ v c. in_sliced s v c
    are_selected (filter e) = λ v c.
        let k = in_keep (λ (x : Step × Data). is_true F top e x.1) c (children v) in
        let i = in_children v c in (
          λ h. let j = k.0 h in ((c.1, i.0 j.0, (or_right e c.1).0 j.1), i.0 j.0),
          λ h. k.1 (i.1 h.1, (or_right e c.1).1 (subst (Holds F top e) (same_Some h.0.0 c.1 (sym h.0.1 ∙ h.1)) h.0.2)),
        )

    -- a logical expression holds exactly where it computes to true
    or_right : (e : LogicalOr) (v : Data) → Decides (is_true F top e v) (Holds F top e v)
    or_right no_or v = never
    or_right (or a more) v = Decides-or (all_true F top a v) (is_true F top more v) (and_right a v) (or_right more v)

    and_right : (a : LogicalAnd) (v : Data) → Decides (all_true F top a v) (HoldsAll F top a v)
    and_right no_and v = always
    and_right (and b more) v = Decides-and (basic_true F top b v) (all_true F top more v) (basic_right b v) (and_right more v)

    basic_right : (b : Basic) (v : Data) → Decides (basic_true F top b v) (HoldsBasic F top b v)
    basic_right (paren negated e) v = Decides-not_if negated (is_true F top e v) (or_right e v)
    basic_right (relation a op b) v = relation_right F.numbers op _ _ _ _ (compared_right a v) (compared_right b v)
    basic_right (test negated o) v = Decides-not_if negated (test_true F top o v) (test_right o v)

    test_right : (o : Operand) (v : Data) → Decides (test_true F top o v) (HoldsTest F top o v)
    test_right (literal l) v = never
    test_right (queried q) v = has_node q v (results F top q v) (computed_result q v)
    test_right (called c) v = answer_test _ _ _ (call_right c v)

    -- a side of a comparison stands for what is computed, and for nothing else
    pub compared_right : (a : Operand) (v : Data) (x : Compared) → IsComparedAs F top a v x ↔ (compared F top a v ≡ Some x)
    compared_right (literal l) v x = (λ e. ap Some (sym e), λ e. sym (same_Some (literal_compared l) x e))
    compared_right (queried q) v x =
        let g = result_gives q (computed_result q) v Compared (λ ns. value_compared (first_value ns)) x in
        (λ h. ap Some (sym (g.0 h)), λ e. g.1 (sym (same_Some (value_compared (first_value (results F top q v))) x e)))
    compared_right (called c) v x = answer_side _ _ _ (call_right c v) x

    -- a call answers what is computed, and nothing else
    call_right : (c : Call) (v : Data) → IsAnswer (is_answered F c) (answer F top c v) (Answers F top c v)
    call_right (call f args) v = (
      λ none. rw none refl,
      λ t.
          let g = arguments_right args (params_of (F.signature f)) v in (
            λ (ts, given, is). let (taken, are) = (g ts).0 given in (taken, is ∙ ap (F.meaning f) are ∙ rw taken refl),
            λ (taken, is). (arguments F top args (params_of (F.signature f)) v, (g _).1 (taken, refl), is ∙ rw taken refl),
          ),
    )

    pub arguments_right : (args : Arguments) (kinds : List Kind) (v : Data) (ts : List Term)
        → AreArguments F top args kinds v ts ↔ ((are_taken F args kinds ≡ true) × (ts ≡ arguments F top args kinds v))
    arguments_right no_arguments kinds v ts = plainly (λ e. e, λ e. e)
    arguments_right (argument a more) [] v ts = (λ h. absurd h, λ e. absurd (true≢false (sym e.0)))
    arguments_right (argument a more) (kind ∷ kinds) v [] = (λ h. absurd h, λ e. let no = e.1 in absurd cc)
    arguments_right (argument a more) (kind ∷ kinds) v (t ∷ ts) =
        one_more (is_taken F a) (are_taken F more kinds) _ _ _ _ _ _ (argument_right a kind v t) (arguments_right more kinds v ts)

    argument_right : (a : Argument) (kind : Kind) (v : Data) (t : Term) → IsArgument F top a kind v t ↔ ((is_taken F a ≡ true) × (t ≡ argument_as F top a kind v))
    argument_right (operand o) kind v t = operand_right o kind v t
    argument_right (logical_argument e) kind v t = plainly (truth_of (Holds F top e v) (is_true F top e v) t (or_right e v))

    operand_right : (o : Operand) (kind : Kind) (v : Data) (t : Term) → IsTakenAs F top o kind v t ↔ ((is_given F o ≡ true) × (t ≡ operand_as F top o kind v))
    operand_right (literal l) kind v t = plainly (λ e. e, λ e. e)
    operand_right (queried q) of_value v t = plainly (result_gives q (computed_result q) v Term (λ ns. value (first_value ns)) t)
    operand_right (queried q) of_nodes v t = plainly (result_gives q (computed_result q) v Term (λ ns. nodes (map (λ (n : Located). n.value) ns)) t)
    operand_right (queried q) of_logical v t = plainly (truth_of (Exists F top q v) (is_nonempty (results F top q v)) t (has_node q v (results F top q v) (computed_result q v)))
    operand_right (called c) of_logical v t = answer_logical _ _ _ (call_right c v) t
    operand_right (called c) _ v t = (call_right c v).1 t

  -- and no other list is
  pub computed_only : (q : Query) (v : Data) (ns : List Located) → IsResult F top q v ns → ns ≡ results F top q v
  computed_only q v ns h = result_once F top q v ns (results F top q v) h (computed_result q v)
