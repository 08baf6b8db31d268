use Rattle.jsonpath_owned_nodes.proofs.Words.{◌≡◌, length, string_bytes, rules}
use Rattle.jsonpath_owned_nodes.proofs.Names.{seam}
use Rattle.jsonpath_owned_nodes.proofs.stored_location.push_location.Goals as goal

-- the text may be cut where it ended before
pub truncate-requires : goal.truncate-requires
truncate-requires c =
    let end : c.len-end.result ≡ length (string_bytes c.args.names.now) = search rules in
    let cut = seam c.args.names.now c.push_steps-pushed.new.names c.push_steps-pushed.ensures.grown in
    λ _. rw end (cut.0, λ _. cut.1)
