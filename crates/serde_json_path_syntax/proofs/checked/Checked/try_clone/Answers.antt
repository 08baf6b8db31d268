use Rattle.serde_json_path_syntax.proofs.Tree.Growing.{same_query}
use Rattle.serde_json_path_syntax.proofs.checked.Checked.try_clone.Goals as goal

pub invariant_of-result-clause-typed : goal.invariant_of-result-clause-typed
invariant_of-result-clause-typed c =
    rw (c.in_ok-arena.ensures.calls, same_query _ _ c.in_ok-arena.ensures.branches c.args.self.now.query) c.args.self.now.typed

pub invariant_of-result-clause-called : goal.invariant_of-result-clause-called
invariant_of-result-clause-called c =
    rw (c.in_ok-arena.ensures.calls, same_query _ _ c.in_ok-arena.ensures.branches c.args.self.now.query) c.args.self.now.called

pub invariant_of-result-clause-agreed : goal.invariant_of-result-clause-agreed
invariant_of-result-clause-agreed c = rw c.in_ok-arena.ensures.calls c.args.self.now.agreed
