-- A value of which something is shown is read token by token as `serde_json` reads it.
use Rattle.serde_json_path_reach.proofs.Words.{None, Null, Some, [], after_end_array, ap, arith, array, common_steps, false, inl, inr, item, items_view, members_view, no_items, no_members, object, null, put, read_key, refl, replicate, suc, sym, token_of, view, view-Array, view-Object, ◌∙◌, ◌∷◌, ◌≡◌, ◌⊎◌}
use Rattle.serde_json_path_reach.proofs.Plans.{if_ok}
use Rattle.serde_json_path_reach.proofs.Reading.{array_dropped, array_shown, found_one, member_passed, member_put, member_unasked, next_place, no_members_shown, none_so_far, nulls, object_dropped, object_shown, passed_one}
use Rattle.serde_json_path_reach.proofs.Rows.{bare_shown, stead_shown}
use Rattle.serde_json_path_reach.proofs.Shows.{in_place, itself}
use Rattle.serde_json_path_reach.proofs.Tokens.{array_read, items_begun, items_ended, items_on, joined, leaf_has_none, leaf_read, members_begun, members_ended, members_on, object_read, some_of}
use Rattle.serde_json_path_reach.proofs.Values.{items_view-append, items_view-nulls, nil, no_member, pushed, view_null}
use Rattle.serde_json_path_reach.proofs.read.+read.Goals as goal

pub read-returns-then-is_bare-clause-ok : goal.read-returns-then-is_bare-clause-ok
read-returns-then-is_bare-clause-ok t c =
    let (d, read) = c.in_ok-pass.ensures.ok in
    let bare : (c.args.pending ≡ 0) ⊎ (c.args.pending ≡ 2) = c.is_bare.ensures c.if-is_bare.true in
    (d, read, λ right. rw c.place.ensures (bare_shown c.args.plan.now.rows.items c.args.pending d bare))

pub read-returns-then-not-is_whole-clause-ok : goal.read-returns-then-not-is_whole-clause-ok
read-returns-then-not-is_whole-clause-ok t c =
    let first : c.args.reader.now ≡ token_of c.in_ok-token.token ∷ c.next.new.self = grind arith in
    let (d, e) = some_of _ c.in_ok-pass_leaf-in_default.ensures in
    let unset : c.is_whole.result ≡ false = grind arith in (
      d,
      rw first (leaf_read c.args.depth (token_of c.in_ok-token.token) c.next.new.self d e),
      λ right. rw c.place-then-not-is_whole.ensures (stead_shown c.args.plan.now.rows.items c.args.pending d (sym c.is_whole.ensures ∙ unset) (λ s. rw (leaf_has_none (token_of c.in_ok-token.token) d s e) (itself _ None))),
    )

pub read-returns-in_ok-leaf-in_default-clause-ok : goal.read-returns-in_ok-leaf-in_default-clause-ok
read-returns-in_ok-leaf-in_default-clause-ok t c =
    let first : c.args.reader.now ≡ token_of c.in_ok-token.token ∷ c.next.new.self = grind arith in
    let d = view c.in_ok-leaf-in_default.field-0 in
    (d, rw first (leaf_read c.args.depth (token_of c.in_ok-token.token) c.next.new.self d c.in_ok-leaf-in_default.ensures), λ right. itself _ (Some d))

pub read-returns-else-depth-eq0-clause-ok : goal.read-returns-else-depth-eq0-clause-ok
read-returns-else-depth-eq0-clause-ok t c =
    let first : c.args.reader.now ≡ token_of c.in_ok-token.token ∷ c.next.new.self = grind arith in
    rw (first, c.in-BeginArray.is)
    (if_ok _ _ c.read_items.result (λ v (ds, read, k). (array ds, array_read c.args.depth c.next.new.self c.read_items.new.reader (omega arith) ds read, k)) c.read_items.ensures.ok)

pub read-returns-else-depth-eq0-2-clause-ok : goal.read-returns-else-depth-eq0-2-clause-ok
read-returns-else-depth-eq0-2-clause-ok t c =
    let first : c.args.reader.now ≡ token_of c.in_ok-token.token ∷ c.next.new.self = grind arith in
    rw (first, c.in-BeginObject.is)
    (if_ok _ _ c.read_members.result (λ v (ms, read, k). (object ms, object_read c.args.depth c.next.new.self c.read_members.new.reader (omega arith) ms read, k)) c.read_members.ensures.ok)

pub read_items-items-init : goal.read_items-items-init
read_items-items-init t c = record {
  done = no_items;
  tokens = items_begun _ _;
  so_far = rw c.new-found.ensures.items (none_so_far c.args.plan.now.rows.items c.args.pending);
  place = refl;
}

pub read_items-items-preserved-in-None : goal.read_items-items-preserved-in-None
read_items-items-preserved-in-None t c =
    let l = c.items in
    let i = l.invariant in
    let going : (after_end_array l.reader ≡ None) × (c.take_end_array.new.self ≡ l.reader) = grind arith in
    let (d, read, k) = c.in_ok-item.ensures.ok in
    let next : c.in_ok-position.position ≡ suc l.position = grind (arith, common_steps) in
    let more : c.in_ok-passed-in-None.passed ≡ suc l.passed = grind (arith, common_steps) in
    record {
      done = joined i.done (item d no_items);
      tokens = items_on _ _ l.reader c.read.new.reader i.done d i.tokens going.0 (rw (← going.1) read) (rw (← going.1) c.in_ok-item.ensures.shorter);
      so_far = rw more (passed_one c.args.plan.now.rows.items c.args.pending i.done (items_view l.found.items) l.passed c.after.result d i.so_far (rw i.place c.after.ensures) (λ right. rw c.in-None.is at (k right)));
      place = next_place i.done d ∙ ap suc i.place ∙ sym next;
    }

pub read_items-items-preserved : goal.read_items-items-preserved
read_items-items-preserved t c =
    let l = c.items in
    let i = l.invariant in
    let going : (after_end_array l.reader ≡ None) × (c.take_end_array.new.self ≡ l.reader) = grind arith in
    let (d, read, k) = c.in_ok-item.ensures.ok in
    let next : c.in_ok-position.position ≡ suc l.position = grind (arith, common_steps) in
    let items = pushed l.found.items c.push_nulls.new.found.items c.push.new.self.items l.passed c.in-Some.item c.in_ok-push_nulls-in-Some.ensures.ok c.in_ok-push-in-Some.ensures.items in
    record {
      done = joined i.done (item d no_items);
      tokens = items_on _ _ l.reader c.read.new.reader i.done d i.tokens going.0 (rw (← going.1) read) (rw (← going.1) c.in_ok-item.ensures.shorter);
      so_far = rw items (found_one c.args.plan.now.rows.items c.args.pending i.done (items_view l.found.items) l.passed c.after.result d (view c.in-Some.item) i.so_far (rw i.place c.after.ensures) (λ right. rw c.in-Some.is at (k right)));
      place = next_place i.done d ∙ ap suc i.place ∙ sym next;
    }

pub read_items-returns-then-not-is_whole-clause-ok : goal.read_items-returns-then-not-is_whole-clause-ok
read_items-returns-then-not-is_whole-clause-ok t c =
    let l = c.items in
    let i = l.invariant in
    let unset : c.is_whole.result ≡ false = grind arith in
    let empty : l.found.items ≡ [] = nil l.found.items (grind (arith, common_steps)) in (
      i.done,
      items_ended _ _ l.reader c.take_end_array.new.self i.done i.tokens (grind arith),
      λ right. rw c.place.ensures (array_dropped c.args.plan.now.rows.items c.args.pending i.done l.passed (rw empty at i.so_far) (sym c.is_whole.ensures ∙ unset) right),
    )

pub read_items-returns-clause-ok : goal.read_items-returns-clause-ok
read_items-returns-clause-ok t c =
    let l = c.items in
    let i = l.invariant in
    let all : items_view c.push_nulls-2.new.found.items ≡ joined (items_view l.found.items) (nulls l.passed) =
    ap items_view c.in_ok-push_nulls.ensures.ok ∙ items_view-append l.found.items (replicate l.passed Null) ∙ ap (joined (items_view l.found.items)) (items_view-nulls l.passed) in (
      i.done,
      items_ended _ _ l.reader c.take_end_array.new.self i.done i.tokens (grind arith),
      λ right. rw (view-Array c.push_nulls-2.new.found, all) (array_shown c.args.plan.now.rows.items c.args.pending i.done (items_view l.found.items) l.passed i.so_far right),
    )

pub read_members-members-init : goal.read_members-members-init
read_members-members-init t c = record { done = no_members; tokens = members_begun _ _; so_far = rw c.new-found.ensures.empty (no_members_shown c.args.plan.now.rows.items c.args.pending) }

pub read_members-members-preserved-then-after-eq0 : goal.read_members-members-preserved-then-after-eq0
read_members-members-preserved-then-after-eq0 t c =
    let l = c.members in
    let i = l.invariant in
    let named : read_key l.reader ≡ Some (Some c.in-Some.name.now, c.next_key.new.self) = grind arith in
    let (d, read) = c.in_ok-pass.ensures.ok in
    let none : c.after-after.result ≡ 0 = grind (arith, c.if-after-eq0.true) in
    record {
      done = put c.in-Some.name.now d i.done;
      tokens = members_on _ _ l.reader c.next_key.new.self c.pass.new.reader c.in-Some.name.now i.done d i.tokens named read c.in_ok-pass.ensures.shorter;
      so_far = member_unasked c.args.plan.now.rows.items c.args.pending i.done (members_view l.found.entries) c.in-Some.name.now c.after-after.result d i.so_far c.after-after.ensures none;
    }

pub read_members-members-preserved-in-Continue-branch-6 : goal.read_members-members-preserved-in-Continue-branch-6
read_members-members-preserved-in-Continue-branch-6 t c =
    let l = c.members in
    let i = l.invariant in
    let named : read_key l.reader ≡ Some (Some c.in-Some.name.now, c.next_key.new.self) = grind arith in
    let (d, read, k) = c.in_ok-member.ensures.ok in
    record {
      done = put c.in-Some.name.now d i.done;
      tokens = members_on _ _ l.reader c.next_key.new.self c.read.new.reader c.in-Some.name.now i.done d i.tokens named read c.in_ok-member.ensures.shorter;
      so_far = rw c.in_ok-put-in-Some-2.ensures (member_put c.args.plan.now.rows.items c.args.pending i.done (members_view l.found.entries) c.in-Some.name.now c.after-after.result d i.so_far c.after-after.ensures
          (view c.in-Some-2.member) (λ right. rw c.in-Some-2.is at (k right)));
    }

pub read_members-members-preserved-in-Continue-branch-7 : goal.read_members-members-preserved-in-Continue-branch-7
read_members-members-preserved-in-Continue-branch-7 t c =
    let l = c.members in
    let i = l.invariant in
    let named : read_key l.reader ≡ Some (Some c.in-Some.name.now, c.next_key.new.self) = grind arith in
    let (d, read, k) = c.in_ok-member.ensures.ok in
    record {
      done = put c.in-Some.name.now d i.done;
      tokens = members_on _ _ l.reader c.next_key.new.self c.read.new.reader c.in-Some.name.now i.done d i.tokens named read c.in_ok-member.ensures.shorter;
      so_far = rw (c.in_ok-put-in-None.ensures, view_null) (member_put c.args.plan.now.rows.items c.args.pending i.done (members_view l.found.entries) c.in-Some.name.now c.after-after.result d i.so_far c.after-after.ensures
          null (λ right. in_place _ d (rw c.in-None.is at (k right))));
    }

pub read_members-members-preserved : goal.read_members-members-preserved
read_members-members-preserved t c =
    let l = c.members in
    let i = l.invariant in
    let named : read_key l.reader ≡ Some (Some c.in-Some.name.now, c.next_key.new.self) = grind arith in
    let (d, read, k) = c.in_ok-member.ensures.ok in
    let none = no_member c.in-Some.name.now l.found.entries (sym c.contains_key.ensures ∙ c.if-contains_key.false) in
    record {
      done = put c.in-Some.name.now d i.done;
      tokens = members_on _ _ l.reader c.next_key.new.self c.read.new.reader c.in-Some.name.now i.done d i.tokens named read c.in_ok-member.ensures.shorter;
      so_far = member_passed c.args.plan.now.rows.items c.args.pending i.done (members_view l.found.entries) c.in-Some.name.now c.after-after.result d i.so_far c.after-after.ensures none (λ right. rw c.in-None.is at (k right));
    }

pub read_members-returns-then-not-is_whole-clause-ok : goal.read_members-returns-then-not-is_whole-clause-ok
read_members-returns-then-not-is_whole-clause-ok t c =
    let l = c.members in
    let i = l.invariant in
    let unset : c.is_whole.result ≡ false = grind arith in
    let empty : l.found.entries ≡ [] = nil l.found.entries (grind (arith, common_steps)) in (
      i.done,
      members_ended _ _ l.reader c.next_key.new.self i.done i.tokens (grind arith),
      λ right. rw c.place.ensures (object_dropped c.args.plan.now.rows.items c.args.pending i.done (rw empty at i.so_far) (sym c.is_whole.ensures ∙ unset) right),
    )

pub read_members-returns-clause-ok : goal.read_members-returns-clause-ok
read_members-returns-clause-ok t c =
    let l = c.members in
    let i = l.invariant in (
      i.done,
      members_ended _ _ l.reader c.next_key.new.self i.done i.tokens (grind arith),
      λ right. rw (view-Object l.found) (object_shown c.args.plan.now.rows.items c.args.pending i.done (members_view l.found.entries) i.so_far right),
    )
