use Rattle.jsonpath_c.proofs.Words.{inr, refl, rules, IsRefusedWith, IsTold, message_of, rule_of}
use Rattle.jsonpath_c.proofs.check.jsonpath_message.Goals as goal

pub returns-clause-text : goal.returns-clause-text
returns-clause-text c =
    let path = c.args.path.now in
    let e = c.in-Err.e in
    let refused : IsRefusedWith (rule_of c.args.numbers) path e = search rules in
    let is : IsTold message_of (rule_of c.args.numbers) path (message_of e) = inr (e, refused, refl) in
    search rules
