use Rattle.serde_json_path_reach.proofs.Words.{ap, members_view, members_view-insert_entry, put, rules, string_bytes, view, ◌∙◌, ◌≡◌}
use Rattle.serde_json_path_reach.proofs.read.put.Goals as goal

pub returns : goal.returns
returns c =
    let copied : string_bytes c.in_ok-key.key ≡ c.args.name.now = search rules in
    ap members_view c.in_ok-insert.ensures.entries ∙ members_view-insert_entry c.args.found.now.entries c.in_ok-key.key c.args.member ∙ ap (λ name. put name (view c.args.member) (members_view c.args.found.now.entries)) copied
