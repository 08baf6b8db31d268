use Rattle.jsonpath_owned_nodes.proofs.Words.{◌≡◌, length, string_bytes, rules, IsCharBoundary-end}
use Rattle.jsonpath_owned_nodes.proofs.Names.{seam}
use Rattle.jsonpath_owned_nodes.proofs.stored_step.store.Goals as goal

pub returns-in_ok-push_str-in-Name-clause-stored : goal.returns-in_ok-push_str-in-Name-clause-stored
returns-in_ok-push_str-in-Name-clause-stored c =
    let start : c.len-start.result ≡ length (string_bytes c.args.names.now) = search rules in
    let end : c.len.result ≡ length (string_bytes c.push_str.new.self) = search rules in
    let cut = seam c.args.names.now c.push_str.new.self (_, c.in_ok-push_str-in-Name.ensures.bytes) in
    rw (start, end) (cut.0, cut, IsCharBoundary-end _)
