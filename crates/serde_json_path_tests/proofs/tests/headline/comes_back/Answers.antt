use Rattle.serde_json_path_tests.proofs.Words.{◌≡◌, ◌∙◌, List, ℕ, Option, sym, subst, rules, IsUtf8, chars, Numbers, Signature, query_text, Query, IsAccepted, PrintedTextReadsBack, path_tree}
use Rattle.serde_json_path_tests.proofs.tests.headline.comes_back.Goals as goal

-- where a text is accepted with a tree, so is the tree's own text
accepted_again : PrintedTextReadsBack → (rule : Numbers) (signature : List ℕ → Option Signature) (text printed : List ℕ) (q : Query) → IsUtf8 text → printed ≡ query_text q
    → IsAccepted rule signature (chars text) q → IsAccepted rule signature (chars printed) q
accepted_again law rule signature text printed q utf8 same h =
    subst (λ t. IsAccepted rule signature (chars t) q) (sym same)
    (record { reads = law rule text q utf8 h.reads; from_root = h.from_root; typed = h.typed; within_depth = h.within_depth })

pub unreachable-requires : goal.unreachable-requires
unreachable-requires g c =
    let tree = path_tree c.in_ok-path.path in
    let printed : c.as_str.result.now ≡ query_text tree = search rules in
    c.in-Err.ensures.parse.refused (λ e. c.in_default.not-NoMemory (c.kind.ensures ∙ e)) tree
    (accepted_again c.law_print.ensures _ _ _ _ tree c.utf8.text printed c.in_ok-path.ensures.parse.accepted)
