use Rattle.jpq_program.proofs.Words.{◌≡◌, Bor, List, map, take, value_pairs, ℕ}
use Rattle.jpq_program.specs.Bindings.{binding_in}
use Rattle.jpq_program.proofs.bindings.values_of.Given as goal

abbrev pub invariant-loop-word : goal.invariant-loop-word
invariant-loop-word l = value_pairs l.values.items ≡ map (λ (word : Bor (List ℕ)). binding_in word.now) (take l.word-index l.words)
