use Rattle.serde_json_path.proofs.Words.{◌≡◌, ℕ, zero, suc, List, [], ◌∷◌, Some, Ordering, Less, Equal, Greater, nat_cmp, refl, sym, subst, ap, ◌∙◌, match_ordering, String, string_bytes, slice_cmp, IsUtf8, Global, exact_bytes, none-some, option_and_then_some, same_Some, IsUtf8-string_bytes, Data, Members, get_item, get_member, view, view_step, items_view, members_view, Value, map-Value, out-Value, fold_out-Value, Value-F, Step, by_name, by_position, child_at, at, IsProper}
use Rattle.serde_json_path.proofs.laws.law_locations_are_proper.Goals as goal

-- the data is that of a value
abbrev IsOfValue : Data → Type 0
IsOfValue d = (v : Value) × (view v ≡ d)

-- the name of a member is a text, and the member is a value's
member_here : (e : String Global × Value) (ms : Members) (name : List ℕ) (d : Data) (o : Ordering) → slice_cmp nat_cmp name (string_bytes e.0) ≡ o
    → (get_member name ms ≡ Some d → IsUtf8 name × IsOfValue d)
    → match_ordering o (get_member name ms) (Some (view e.1)) (get_member name ms) ≡ Some d → IsUtf8 name × IsOfValue d
member_here e ms name d Less is later found = later found
member_here e ms name d Equal is later found = (subst IsUtf8 (sym (exact_bytes name (string_bytes e.0) is)) (IsUtf8-string_bytes e.0), (e.1, same_Some (view e.1) d found))
member_here e ms name d Greater is later found = later found

member_found : (es : List (String Global × Value)) (name : List ℕ) (d : Data) → get_member name (members_view es) ≡ Some d → IsUtf8 name × IsOfValue d
member_found [] name d h = absurd (none-some d h)
member_found (e ∷ es) name d h = member_here e (members_view es) name d (slice_cmp nat_cmp name (string_bytes e.0)) refl (member_found es name d) h

item_found : (vs : List Value) (n : ℕ) (d : Data) → get_item n (items_view vs) ≡ Some d → IsOfValue d
item_found [] n d h = absurd (none-some d h)
item_found (v ∷ vs) zero d h = (v, same_Some (view v) d h)
item_found (v ∷ vs) (suc n) d h = item_found vs n d h

-- a step to a child is proper, and the child is a value's
child_of : (layer : Value-F Value) (s : Step) (d : Data) → child_at (view_step (map-Value Value Data view layer)) s ≡ Some d → IsProper (s ∷ []) × IsOfValue d
child_of (Value-F.Object members) (by_name name) d h = let found = member_found members.entries name d h in ((found.0, tt), found.1)
child_of (Value-F.Array items) (by_position p) d h = (tt, item_found items.items p d h)
child_of _ s d h = absurd (none-some d h)

child_proper : (v : Value) (s : Step) (d : Data) → child_at (view v) s ≡ Some d → IsProper (s ∷ []) × IsOfValue d
child_proper v s d h = child_of (out-Value v) s d (sym (ap (λ top. child_at top s) (fold_out-Value Data view_step v)) ∙ h)

-- a proper step before proper steps
step_first : (s : Step) (steps : List Step) → IsProper (s ∷ []) → IsProper steps → IsProper (s ∷ steps)
step_first (by_name name) steps one rest = (one.0, rest)
step_first (by_position p) steps one rest = rest

proper : (location : List Step) (v : Value) (d : Data) → at (view v) location ≡ Some d → IsProper location
proper [] v d h = tt
proper (s ∷ steps) v d h = option_and_then_some (λ child. at child steps) (child_at (view v) s) d h (λ child is there.
    let (first, (w, same)) = child_proper v s child is in
    step_first s steps first (proper steps w d (ap (λ c. at c steps) same ∙ there)))

pub returns : goal.returns
returns c = λ document location v h. proper location document v h
