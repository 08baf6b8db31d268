-- Values, items and members are read one token after another.
use Rattle.serde_json_path_reach.proofs.Words.{AreItems, AreMembers, Data, IsRead, IsSome, Items, Json, List, Members, None, Num, Option, Parse, Some, Step, Token, after_end_array, ap, arith, array, boolean, child_at, item, items_end, items_more, leaf_of, length, members_end, members_more, no_items, no_members, none-some, null, number, object, option_map, parse_map, put, read_key, read_key-shorter, refl, same_Some, string, subst, value-begin_array, value-begin_object, value_is, ℕ, ◌-◌, ◌<◌, ◌∙◌, ◌∷◌, ◌≡◌, ◌≤◌}
use Rattle.json.specs.Json.{value}
use Rattle.serde_json.specs.Read.{number_of}
use Rattle.json.specs.Json as json

module _ (p : Parse Json) (n : ℕ) (ts : List Token) where
  pub no_more_items : (r : List Token) → length ts ≤ n → after_end_array ts ≡ Some r → AreItems p n ts r no_items
  no_more_items r enough e = (json.no_items, items_end p n ts r enough e, refl)

  pub one_more_item : (r rest : List Token) (d : Data) (ds : Items) → 0 < n → after_end_array ts ≡ None → IsRead p ts r d → AreItems p (n - 1) r rest ds → AreItems p n ts rest (item d ds)
  one_more_item r rest d ds some going (j, read, is) (js, later, are) = (json.item j js, items_more p n ts r j some going read ∙ ap (parse_map (json.item j)) later, rw (is, are) refl)

  pub no_more_members : (r : List Token) (old : Members) → length ts ≤ n → read_key ts ≡ Some (None, r) → AreMembers p n ts r old old
  no_more_members r old enough e = (json.no_members, members_end p n ts r enough e, refl)

  pub one_more_member : (k : List ℕ) (s r rest : List Token) (d : Data) (old ms : Members) → 0 < n → read_key ts ≡ Some (Some k, s) → IsRead p s r d
      → AreMembers p (n - 1) r rest (put k d old) ms → AreMembers p n ts rest old ms
  one_more_member k s r rest d old ms some named (j, read, is) (js, later, are) = (json.member k j js, members_more p n k ts s r j some named read ∙ ap (parse_map (json.member k j)) later, rw is are)

-- the items of both
abbrev pub joined : Items → Items → Items
joined no_items more = more
joined (item d ds) more = item d (joined ds more)

pub joined-nil : (ds : Items) → joined ds no_items ≡ ds
joined-nil no_items = refl
joined-nil (item d ds) = ap (item d) (joined-nil ds)

pub joined-joined : (a b c : Items) → joined (joined a b) c ≡ joined a (joined b c)
joined-joined no_items b c = refl
joined-joined (item d a) b c = ap (item d) (joined-joined a b c)

-- ---- loops over items and over members

module _ (p : Parse Json) (start : List Token) where
  -- the items that are done, and what then comes, are the items from the start
  pub record ItemsSoFar (now : List Token) (done : Items) : Type 0 where
    pub turns : ℕ
    pub enough : length now ≤ turns
    pub shorter : length now ≤ length start
    pub go_on : (rest : List Token) (ds : Items) → AreItems p turns now rest ds → AreItems p (length start) start rest (joined done ds)

  pub items_begun : ItemsSoFar start no_items
  items_begun = record { turns = length start; enough = omega arith; shorter = omega arith; go_on = λ rest ds h. h }

  pub items_on : (now r : List Token) (done : Items) (d : Data) → ItemsSoFar now done → after_end_array now ≡ None → IsRead p now r d → length r < length now
      → ItemsSoFar r (joined done (item d no_items))
  items_on now r done d i going read less = record {
    turns = i.turns - 1;
    enough = omega (arith, i.enough);
    shorter = omega (arith, i.shorter);
    go_on = λ rest ds h. rw (joined-joined done (item d no_items) ds) (i.go_on rest (item d ds) (one_more_item p i.turns now r rest d ds (omega (arith, i.enough)) going read h));
  }

  pub items_ended : (now r : List Token) (done : Items) → ItemsSoFar now done → after_end_array now ≡ Some r → AreItems p (length start) start r done
  items_ended now r done i e = subst (AreItems p (length start) start r) (joined-nil done) (i.go_on r no_items (no_more_items p i.turns now r i.enough e))

  -- the members after those that are done are the members from the start
  pub record MembersSoFar (now : List Token) (done : Members) : Type 0 where
    pub turns : ℕ
    pub enough : length now ≤ turns
    pub shorter : length now ≤ length start
    pub go_on : (rest : List Token) (ms : Members) → AreMembers p turns now rest done ms → AreMembers p (length start) start rest no_members ms

  pub members_begun : MembersSoFar start no_members
  members_begun = record { turns = length start; enough = omega arith; shorter = omega arith; go_on = λ rest ms h. h }

  pub members_on : (now s r : List Token) (k : List ℕ) (done : Members) (d : Data) → MembersSoFar now done → read_key now ≡ Some (Some k, s) → IsRead p s r d → length r < length s
      → MembersSoFar r (put k d done)
  members_on now s r k done d i named read less =
      let shorter = read_key-shorter now (Some k) s named in
      record {
        turns = i.turns - 1;
        enough = omega (arith, i.enough);
        shorter = omega (arith, i.shorter);
        go_on = λ rest ms h. i.go_on rest ms (one_more_member p i.turns now k s r rest d done ms (omega (arith, i.enough)) named read h);
      }

  pub members_ended : (now r : List Token) (done : Members) → MembersSoFar now done → read_key now ≡ Some (None, r) → AreMembers p (length start) start r no_members done
  members_ended now r done i e = i.go_on r done (no_more_members p i.turns now r done i.enough e)

module _ (depth : ℕ) (ts rest : List Token) (below : 0 < depth) where
  pub array_read : (ds : Items) → AreItems (value (depth - 1)) (length ts) ts rest ds → IsRead (value depth) (Token.begin_array ∷ ts) rest (array ds)
  array_read ds (js, read, are) = (json.array js, value-begin_array depth ts below ∙ ap (parse_map json.array) read, ap (option_map array) are)

  pub object_read : (ms : Members) → AreMembers (value (depth - 1)) (length ts) ts rest no_members ms → IsRead (value depth) (Token.begin_object ∷ ts) rest (object ms)
  object_read ms (js, read, are) = (json.object js, value-begin_object depth ts below ∙ ap (parse_map json.object) read, ap (option_map object) are)

-- ---- values that are no arrays and no objects

pub some_of : {A : Type 0} (o : Option A) → IsSome o → (a : A) × (o ≡ Some a)
some_of None h = absurd cc
some_of (Some a) h = (a, refl)

pub leaf_read : (depth : ℕ) (t : Token) (rest : List Token) (d : Data) → leaf_of t ≡ Some d → IsRead (value depth) (t ∷ rest) rest d
leaf_read depth (Token.string s) rest d e = (json.string s, value_is depth _, e)
leaf_read depth (Token.number s) rest d e = (json.number s, value_is depth _, e)
leaf_read depth (Token.boolean b) rest d e = (json.boolean b, value_is depth _, e)
leaf_read depth Token.null rest d e = (json.null, value_is depth _, e)
leaf_read depth _ rest d e = absurd (none-some d e)

number_has_none : (o : Option Num) (d : Data) (s : Step) → option_map number o ≡ Some d → child_at d s ≡ None
number_has_none None d s e = absurd (none-some d e)
number_has_none (Some n) d s e = subst (λ (x : Data). child_at x s ≡ None) (same_Some (number n) d e) refl

-- such a value has no children
pub leaf_has_none : (t : Token) (d : Data) (s : Step) → leaf_of t ≡ Some d → child_at d s ≡ None
leaf_has_none (Token.string x) d s e = subst (λ (y : Data). child_at y s ≡ None) (same_Some (string x) d e) refl
leaf_has_none (Token.number x) d s e = number_has_none (number_of x) d s e
leaf_has_none (Token.boolean b) d s e = subst (λ (y : Data). child_at y s ≡ None) (same_Some (boolean b) d e) refl
leaf_has_none Token.null d s e = subst (λ (y : Data). child_at y s ≡ None) (same_Some null d e) refl
leaf_has_none _ d s e = absurd (none-some d e)
