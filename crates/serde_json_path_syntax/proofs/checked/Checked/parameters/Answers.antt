use Rattle.serde_json_path_syntax.proofs.Words.{◌∙◌, inl, refl, string_bytes, sym, ap, subst, same_Some, Signature, name_of, IsIn, call_in, called_by, calls_among, branch_of, nodes_in, branches, signature_view}
use Rattle.serde_json_path_syntax.proofs.Names.Once.{fits_each, once_fits}
use Rattle.serde_json_path_syntax.proofs.checked.Checked.parameters.Goals as goal

pub returns : goal.returns
returns c = λ F s fits declared.
    let nodes = nodes_in c.args.self.now in
    let f = string_bytes c.in-Call.name in
    let kept = signature_view c.in-Call.signature in
    let name = ap (λ branch. name_of (call_in branch)) (c.node.ensures.branch ∙ ap (branch_of (branches nodes)) c.in-Call.is) in
    let here : IsIn (f, kept) (calls_among nodes) = c.node.ensures.called (f, kept) (subst (λ n. IsIn (f, kept) (called_by n)) (sym c.in-Call.is) (inl refl)) in
    let known = fits_each F (calls_among nodes) (once_fits F (calls_among nodes) c.args.self.now.agreed fits) (f, kept) here in
    c.params.ensures ∙ ap (λ (t : Signature). t.params) (same_Some kept s (sym known ∙ ap F.signature (sym name) ∙ declared))
