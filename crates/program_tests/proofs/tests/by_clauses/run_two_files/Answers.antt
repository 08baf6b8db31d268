use Rattle.std.specs.Prelude.{◌++◌, List, Some, Vec, ℕ, map, string_bytes}
use Rattle.std.specs.declared.alloc.Global.{Global}
use Rattle.std.proofs.Common.{ap, arith, inl, inr, refl, subst, ◌∙◌}
use Rattle.jpq_options.specs.Options.{AsksFor}
use Rattle.program_tests.proofs.FilesShown.{bytes_of, opened_named, run_comes, written}
use Rattle.program_tests.proofs.tests.by_clauses.run_two_files.Goals as goal

pub returns : goal.returns
returns c = λ few. elim c.run-status.ensures.comes [
  | inl comes ↦
      let asks = subst (λ (texts : List (List ℕ)). AsksFor texts comes.0) (ap (map string_bytes) c.deref.ensures.value ∙ c.in_ok-words.ensures) comes.1 in
      let came = run_comes (λ (v : Vec ℕ Global). Some v.items) (λ (v : Vec ℕ Global). Some v.items) bytes_of _ _ comes.0 _ c.run-status.new.inputs c.new-streams.result c.run-status.new.streams c.run-status.result refl c.law_normal.ensures c.law_result_is_unique.ensures asks comes.2 refl refl few in (
        came.0,
        came.1 ∙ ap (λ (front : List ℕ). front ++ written) (ap (λ (v : Vec ℕ Global). v.items) c.new-streams.ensures.0 ∙ c.new.ensures.items),
        λ all. opened_named _ (map string_bytes c.run-status.new.inputs.opened.items) _ c.run-status.new.inputs.are_all (ap (map string_bytes) c.new-3.ensures.items) all came.2,
      )
  | inr lacks ↦ absurd (omega (arith, few, lacks.0))
]
