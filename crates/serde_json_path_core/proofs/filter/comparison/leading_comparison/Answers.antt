use Rattle.serde_json_path_core.proofs.Words.{nat_tests, ◌≡◌, arith, rules, and_parts, common_steps, operand_at, is_comparable, or_at, branch_at, branches, branches_named, ands_in, calls_in_and, IsTypedAnd, Sound, operator_view, and, no_or, or, relation, nodes_of, within_get, query_of, set_of, SoundComparable}
use Rattle.serde_json_path_core.proofs.Sound.{sound-sides}
use Rattle.serde_json_path_core.proofs.Steps.Lookups.{after-first, leading-comparison, led-by-comparison, rest_of_parts}
use Rattle.serde_json_path_core.proofs.filter.comparison.leading_comparison.Goals.{In-Basic-Relation}
use Rattle.serde_json_path_core.proofs.filter.comparison.leading_comparison.Goals as goal

-- the filter begins with that comparison
leads : (g : _) (c : In-Basic-Relation g)
    → or_at (nodes_of c.args.scope.now) c.args.test
    ≡ or (and (relation (operand_at (nodes_of c.args.scope.now) c.in-Basic-Relation.left) (operator_view c.in-Basic-Relation.operator) (operand_at (nodes_of c.args.scope.now) c.in-Basic-Relation.right))
    (ands_in (branches_named (branches (nodes_of c.args.scope.now)) (rest_of_parts c.and_parts.result.now)))) no_or
leads g c = grind (arith, nat_tests, common_steps, and_parts, leading-comparison)

sound : (g : _) (c : In-Basic-Relation g)
    → SoundComparable c.args.scope.now c.in-Basic-Relation.left × SoundComparable c.args.scope.now c.in-Basic-Relation.right
    × Sound c.args.scope.now IsTypedAnd calls_in_and (ands_in (branches_named (branches (nodes_of c.args.scope.now)) (rest_of_parts c.and_parts.result.now)))
sound g c =
    let scope = c.args.scope.now in
    let nodes = nodes_of scope in
    let kinds = and_parts (is_comparable (branch_at nodes c.in-Basic-Relation.left.number)) (is_comparable (branch_at nodes c.in-Basic-Relation.right.number)) (search rules) in
    let sides = sound-sides (set_of scope) (query_of scope) (or_at nodes c.args.test) _ _ _ _ (leads g c) c.requires.sound.1 in
    ((kinds.0, sides.0), (kinds.1, sides.1), sides.2)

pub form_of-left-requires-clause-sound : goal.form_of-left-requires-clause-sound
form_of-left-requires-clause-sound g c = (sound g (goal.at.form_of-left-requires-clause-sound g c).In-Basic-Relation).0

pub form_of-right-requires-clause-sound : goal.form_of-right-requires-clause-sound
form_of-right-requires-clause-sound g c = (sound g (goal.at.form_of-right-requires-clause-sound g c).In-Basic-Relation).1

pub returns-in-Basic-Relation : goal.returns-in-Basic-Relation
returns-in-Basic-Relation g c = grind (arith, nat_tests, common_steps, and_parts, within_get, led-by-comparison, after-first, In-Basic-Relation, leads, sound)
