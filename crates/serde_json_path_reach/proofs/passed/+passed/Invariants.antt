use Rattle.serde_json_path_reach.proofs.Words.{Items, Members, length, ◌*◌, ◌+◌}
use Rattle.json.specs.Json.{value}
use Rattle.serde_json_path_reach.proofs.Tokens.{ItemsSoFar, MembersSoFar}
use Rattle.serde_json_path_reach.proofs.passed.+passed.Given as goal

abbrev pub decreases-pass : goal.decreases-pass
decreases-pass l = 2 * l.depth

abbrev pub decreases-pass_items : goal.decreases-pass_items
decreases-pass_items l = 2 * l.depth + 1

abbrev pub decreases-pass_members : goal.decreases-pass_members
decreases-pass_members l = 2 * l.depth + 1

abbrev pub invariant-pass_items-items : goal.invariant-pass_items-items
invariant-pass_items-items l = (done : Items) × ItemsSoFar (value l.depth) l.initial.reader l.reader done

abbrev pub decreases-pass_items-items : goal.decreases-pass_items-items
decreases-pass_items-items l = length l.reader

abbrev pub invariant-pass_members-members : goal.invariant-pass_members-members
invariant-pass_members-members l = (done : Members) × MembersSoFar (value l.depth) l.initial.reader l.reader done

abbrev pub decreases-pass_members-members : goal.decreases-pass_members-members
decreases-pass_members-members l = length l.reader
