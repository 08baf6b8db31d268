use Rattle.jsonpath_c.proofs.Words.{◌∙◌, inr, refl, rules, sym, IsFaultTold, MemoryFault, fault_message}
use Rattle.std.specs.Prelude.{◌≢◌}
use Rattle.std.proofs.Common.{true≢false}
use Rattle.jsonpath_c.proofs.documents.jsonpath_document_message.Goals as goal

pub returns-clause-text : goal.returns-clause-text
returns-clause-text c =
    let e = c.in-Err.e in
    let no : e.fault ≢ MemoryFault = λ is. true≢false (sym (rw is at c.eq.ensures) ∙ c.if-eq.false) in
    let told : IsFaultTold c.args.bytes.now (fault_message e.fault) = inr (e, (λ document. c.in-Err.ensures.refused no document.0 document.1), c.in-Err.ensures.stands no, no, refl) in
    let put = c.put-in-Err-2.ensures in
    record {
      done = λ done. (fault_message e.fault, told, rw c.message.ensures at (put.put done));
      no_room = λ full. (fault_message e.fault, told, rw c.message.ensures at (put.no_room full).0);
      kept_out = search rules;
      kept_size = search rules;
    }
