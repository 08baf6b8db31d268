use Rattle.serde_json_path_reach.proofs.Words.{Items, Members, items_len, items_view, length, members_view, ◌*◌, ◌+◌, ◌≡◌}
use Rattle.json.specs.Json.{value}
use Rattle.serde_json_path_reach.proofs.Reading.{AreSoFar, MembersShown}
use Rattle.serde_json_path_reach.proofs.Tokens.{ItemsSoFar, MembersSoFar}
use Rattle.serde_json_path_reach.proofs.read.+read.Given as goal

abbrev pub decreases-read : goal.decreases-read
decreases-read l = 2 * l.depth

abbrev pub decreases-read_items : goal.decreases-read_items
decreases-read_items l = 2 * l.depth + 1

abbrev pub decreases-read_members : goal.decreases-read_members
decreases-read_members l = 2 * l.depth + 1

abbrev pub invariant-read_items-items : goal.invariant-read_items-items
invariant-read_items-items l = record {
  done : Items;
  tokens : ItemsSoFar (value l.depth) l.initial.reader l.reader done;
  so_far : AreSoFar l.plan.rows.items l.pending done (items_view l.found.items) l.passed;
  place : items_len done ≡ l.position;
}

abbrev pub decreases-read_items-items : goal.decreases-read_items-items
decreases-read_items-items l = length l.reader

abbrev pub invariant-read_members-members : goal.invariant-read_members-members
invariant-read_members-members l = record {
  done : Members;
  tokens : MembersSoFar (value l.depth) l.initial.reader l.reader done;
  so_far : MembersShown l.plan.rows.items l.pending done (members_view l.found.entries);
}

abbrev pub decreases-read_members-members : goal.decreases-read_members-members
decreases-read_members-members l = length l.reader
