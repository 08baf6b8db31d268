-- A value that is passed over is read token by token as `serde_json` reads it.
use Rattle.serde_json_path_reach.proofs.Words.{Err, None, Ok, OnOk, Result, Some, after_end_array, arith, array, no_items, no_members, object, read_key, token_of, ◌∷◌, ◌≡◌}
use Rattle.serde_json_path_reach.proofs.Tokens.{items_begun, items_on, items_ended, members_begun, members_on, members_ended, array_read, object_read, some_of, leaf_read}
use Rattle.serde_json_path_reach.proofs.passed.+passed.Goals as goal

on_ok : {A E : Type 0} (P Q : Type 0) (r : Result A E) → (P → Q) → OnOk r P → OnOk r Q
on_ok P Q (Ok a) f h = f h
on_ok P Q (Err e) f h = h

pub pass-returns-else-depth-eq0-clause-ok : goal.pass-returns-else-depth-eq0-clause-ok
pass-returns-else-depth-eq0-clause-ok t c =
    let first : c.args.reader.now ≡ token_of c.in_ok-token.token ∷ c.next.new.self = grind arith in
    rw (first, c.in-BeginArray.is)
    (on_ok _ _ c.pass_items.result (λ (ds, read). (array ds, array_read c.args.depth c.next.new.self c.pass_items.new.reader (omega arith) ds read)) c.pass_items.ensures.ok)

pub pass-returns-else-depth-eq0-2-clause-ok : goal.pass-returns-else-depth-eq0-2-clause-ok
pass-returns-else-depth-eq0-2-clause-ok t c =
    let first : c.args.reader.now ≡ token_of c.in_ok-token.token ∷ c.next.new.self = grind arith in
    rw (first, c.in-BeginObject.is)
    (on_ok _ _ c.pass_members.result (λ (ms, read). (object ms, object_read c.args.depth c.next.new.self c.pass_members.new.reader (omega arith) ms read)) c.pass_members.ensures.ok)

pub pass-returns-in_default-clause-ok : goal.pass-returns-in_default-clause-ok
pass-returns-in_default-clause-ok t c =
    let first : c.args.reader.now ≡ token_of c.in_ok-token.token ∷ c.next.new.self = grind arith in
    rw first (on_ok _ _ c.pass_leaf.result (λ some. let (d, e) = some_of _ some in (d, leaf_read c.args.depth (token_of c.in_ok-token.token) c.next.new.self d e)) c.pass_leaf.ensures)

pub pass_items-items-init : goal.pass_items-items-init
pass_items-items-init t c = (no_items, items_begun _ _)

pub pass_items-items-preserved : goal.pass_items-items-preserved
pass_items-items-preserved t c =
    let (done, i) = c.items.invariant in
    let going : (after_end_array c.items.reader ≡ None) × (c.take_end_array.new.self ≡ c.items.reader) = grind arith in
    let (d, read) = c.in_ok-pass.ensures.ok in
    (_, items_on _ _ c.items.reader c.pass.new.reader done d i going.0 (rw (← going.1) read) (rw (← going.1) c.in_ok-pass.ensures.shorter))

pub pass_items-returns-clause-ok : goal.pass_items-returns-clause-ok
pass_items-returns-clause-ok t c = let (done, i) = c.items.invariant in (done, items_ended _ _ c.items.reader c.take_end_array.new.self done i (grind arith))

pub pass_members-members-init : goal.pass_members-members-init
pass_members-members-init t c = (no_members, members_begun _ _)

pub pass_members-members-preserved : goal.pass_members-members-preserved
pass_members-members-preserved t c =
    let (done, i) = c.members.invariant in
    let k = c.in-Some.field-0.now in
    let named : read_key c.members.reader ≡ Some (Some k, c.next_key.new.self) = grind arith in
    let (d, read) = c.in_ok-pass.ensures.ok in
    (_, members_on _ _ c.members.reader c.next_key.new.self c.pass.new.reader k done d i named read c.in_ok-pass.ensures.shorter)

pub pass_members-returns-clause-ok : goal.pass_members-returns-clause-ok
pass_members-returns-clause-ok t c = let (done, i) = c.members.invariant in (done, members_ended _ _ c.members.reader c.next_key.new.self done i (grind arith))
