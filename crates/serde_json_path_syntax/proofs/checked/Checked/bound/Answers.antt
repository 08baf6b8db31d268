use Rattle.serde_json_path_syntax.proofs.Words.{calls_among, each_once, nodes_in, query_at}
use Rattle.std.proofs.Math.Logic.{∥∥₁_map}
use Rattle.serde_json_path_syntax.specs.Words.{pairs_of, value_in}
use Rattle.serde_json_path_syntax.proofs.Bound.{called_stay, depth_stays, root_stays, typed_bound}
use Rattle.serde_json_path_syntax.proofs.Tree.Bound.{bound_query, query_stays}
use Rattle.serde_json_path_syntax.proofs.checked.Checked.bound.Goals as goal

pub invariant_of-result-clause-kind : goal.invariant_of-result-clause-kind
invariant_of-result-clause-kind c part e =
    query_stays (value_in (pairs_of c.args.bindings.now)) (nodes_in c.args.self.now) _ c.in_ok-arena.ensures.branches part (c.args.self.now.kind part e)

pub invariant_of-result-clause-rooted : goal.invariant_of-result-clause-rooted
invariant_of-result-clause-rooted c =
    rw (bound_query (value_in (pairs_of c.args.bindings.now)) _ _ c.in_ok-arena.ensures.branches c.args.self.now.query, root_stays) c.args.self.now.rooted

pub invariant_of-result-clause-typed : goal.invariant_of-result-clause-typed
invariant_of-result-clause-typed c =
    rw (c.in_ok-arena.ensures.calls, bound_query (value_in (pairs_of c.args.bindings.now)) _ _ c.in_ok-arena.ensures.branches c.args.self.now.query)
    (∥∥₁_map c.args.self.now.typed (typed_bound _ _ _))

pub invariant_of-result-clause-within_depth : goal.invariant_of-result-clause-within_depth
invariant_of-result-clause-within_depth c =
    rw (bound_query (value_in (pairs_of c.args.bindings.now)) _ _ c.in_ok-arena.ensures.branches c.args.self.now.query, depth_stays) c.args.self.now.within_depth

pub invariant_of-result-clause-called : goal.invariant_of-result-clause-called
invariant_of-result-clause-called c =
    rw (c.in_ok-arena.ensures.calls, bound_query (value_in (pairs_of c.args.bindings.now)) _ _ c.in_ok-arena.ensures.branches c.args.self.now.query)
    (∥∥₁_map c.args.self.now.called (called_stay (value_in (pairs_of c.args.bindings.now)) (each_once (calls_among (nodes_in c.args.self.now))) (query_at (nodes_in c.args.self.now) c.args.self.now.query)))

pub invariant_of-result-clause-agreed : goal.invariant_of-result-clause-agreed
invariant_of-result-clause-agreed c = rw c.in_ok-arena.ensures.calls c.args.self.now.agreed
