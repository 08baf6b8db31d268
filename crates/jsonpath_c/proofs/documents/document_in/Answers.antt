use Rattle.jsonpath_c.proofs.Words.{ap, arith, inl, inr, length, length-append, subst, sym, true, false, ℕ, ◌≡◌, ◌∙◌, ◌+◌}
use Rattle.std.specs.Prelude.{◌≢◌, ◌⊎◌}
use Rattle.serde_json_path_core.proofs.Words.{common_steps}
use Rattle.jsonpath_document.specs.Place.{is_too_deep_at}
use Rattle.jsonpath_document.specs.declared.document.DocumentFault.TheVariants.{Memory}
use Rattle.jsonpath_c.proofs.documents.document_in.Goals as goal
use Rattle.jsonpath_c.proofs.documents.document_in.Goals.{then-status-ne-NO_MEMORY, else-status-ne-NO_MEMORY}

-- a status of a fault is not that of refused memory
neither : (s : ℕ) → (s ≡ 2) ⊎ (s ≡ 9) → s ≢ 4
neither s is four = elim is [ inl two ↦ omega (arith, two, four) | inr nine ↦ omega (arith, nine, four) ]

pub returns-clause-fault : goal.returns-clause-fault
returns-clause-fault c =
    let bytes = c.args.bytes.now in
    let told = c.document_status-status.ensures in
    let s = c.document_status-status.result in
    let not_memory : (s ≡ 2) ⊎ (s ≡ 9) → c.in-Err.e.fault ≢ Memory = λ is memory. neither s is (told.memory.1 memory) in
    let at : (s ≡ 2) ⊎ (s ≡ 9) → c.if-status-ne-NO_MEMORY.position ≡ c.in-Err.e.position = λ is. elim c.if-status-ne-NO_MEMORY.branch [
      | then-status-ne-NO_MEMORY w ↦ w.position-is
      | else-status-ne-NO_MEMORY w ↦ absurd (neither s is (grind (arith, common_steps, w.if-status-ne-NO_MEMORY.false)))
    ] in
    record {
      refused = λ is. c.in-Err.ensures.refused (not_memory is);
      too_deep = λ nine. subst (λ (p : ℕ). is_too_deep_at bytes p ≡ true) (sym (at (inr nine))) (c.in-Err.ensures.too_deep (told.too_deep.0 nine));
      not_too_deep = λ two utf8. subst (λ (p : ℕ). is_too_deep_at bytes p ≡ false) (sym (at (inl two)))
          (c.in-Err.ensures.not_too_deep utf8 (not_memory (inl two)) (λ deep. let nine = told.too_deep.1 deep in omega (arith, two, nine)));
      position = λ is.
          let (before, after, text, place, here, met) = c.in-Err.ensures.stands (not_memory is) in
          let long : length bytes ≡ length before + length after = ap length text ∙ length-append before after in
          let there : c.if-status-ne-NO_MEMORY.position ≡ length before + 1 = at is ∙ here in
          (omega (arith, there), omega (arith, there, long));
      kept_position = λ no_two no_nine. elim told.statuses [
        | inl two ↦ absurd (no_two two)
        | inr (inl four) ↦ elim c.if-status-ne-NO_MEMORY.branch [
          | then-status-ne-NO_MEMORY w ↦ absurd (grind (arith, common_steps, w.if-status-ne-NO_MEMORY.true, four))
          | else-status-ne-NO_MEMORY w ↦ w.position-is
        ]
        | inr (inr nine) ↦ absurd (no_nine nine)
      ];
    }
