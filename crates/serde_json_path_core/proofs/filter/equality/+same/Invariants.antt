use Rattle.serde_json_path_core.proofs.Words.{◌≡◌, length, iter_rest, items_view, members_view, same_items, same_members, numbers_view}
use Rattle.serde_json_path_core.proofs.filter.equality.+same.Given as goal

abbrev pub invariant-same_items-loop-item : goal.invariant-same_items-loop-item
invariant-same_items-loop-item l =
    let rest = iter_rest l.item-iterator.a in
    let others = iter_rest l.item-iterator.b in
    (length rest ≡ length others) × (same_items (numbers_view l.numbers) (items_view l.left.items) (items_view l.right.items) ≡ same_items (numbers_view l.numbers) (items_view rest) (items_view others))

abbrev pub invariant-same_members-loop-name : goal.invariant-same_members-loop-name
invariant-same_members-loop-name l =
    let rest = l.name-iterator.a in
    let others = l.name-iterator.b in
    (length rest ≡ length others) × (same_members (numbers_view l.numbers) (members_view l.left.entries) (members_view l.right.entries) ≡ same_members (numbers_view l.numbers) (members_view rest) (members_view others))
