-- Names in a text that all of them share, and that grows.
use Rattle.jsonpath_owned_nodes.proofs.Words.{common_steps, rules, ◌≡◌, ℕ, String, string_bytes, ◌≤◌, List, [], ◌∷◌, ◌++◌, length, take, map, refl, ap, ◌∙◌, arith, length-append, append_assoc, All-head, All-tail, All-weaker, IsCharBoundary-end, IsCharBoundary-from_take, IsUtf8-take, take-append-le, IsUtf8-string_bytes, All, IsCharBoundary, step_in, IsStored, BeginsWith, StoredStep}
use Rattle.jsonpath_owned_nodes.proofs.Cuts.{slice_range-more}

-- a text that goes on twice goes on
pub goes_on : (first second third : List ℕ) → BeginsWith second first → BeginsWith third second → BeginsWith third first
goes_on first second third a b = (a.0 ++ b.0, b.1 ∙ ap (λ text. text ++ b.0) a.1 ∙ append_assoc first a.0 b.0)

module _ {Z : Type 0} (old new : String Z) (grown : BeginsWith (string_bytes new) (string_bytes old)) where
  -- where the old text may be cut, the new one may be
  boundary_kept : (i : ℕ) → IsCharBoundary (string_bytes old) i → IsCharBoundary (string_bytes new) i
  boundary_kept i may =
      let within : i ≤ length (string_bytes new) = omega (arith, may.0, ap length grown.1 ∙ length-append (string_bytes old) grown.0) in
      let front : take i (string_bytes new) ≡ take i (string_bytes old) = rw grown.1 (take-append-le i (string_bytes old) grown.0 may.0) in
      IsCharBoundary-from_take (string_bytes new) i (IsUtf8-string_bytes new) within (rw front (IsUtf8-take (string_bytes old) i (IsUtf8-string_bytes old) may))

  -- and so where the old one ends
  pub seam : IsCharBoundary (string_bytes new) (length (string_bytes old))
  seam = boundary_kept (length (string_bytes old)) (IsCharBoundary-end (string_bytes old))

  -- a step that is stored stays so, and stays the same step
  stored_kept : (step : StoredStep) → IsStored (string_bytes old) step → IsStored (string_bytes new) step
  stored_kept step is = search (rules, boundary_kept)

  step_kept : (step : StoredStep) → IsStored (string_bytes old) step → step_in (string_bytes new) step ≡ step_in (string_bytes old) step
  step_kept step is = grind (arith, common_steps, slice_range-more)

  pub steps_kept : (run : List StoredStep) → All (IsStored (string_bytes old)) run → map (step_in (string_bytes new)) run ≡ map (step_in (string_bytes old)) run
  steps_kept [] are = refl
  steps_kept (step ∷ run) are =
      let first = step_kept step (All-head (IsStored (string_bytes old)) step run are) in
      let rest = steps_kept run (All-tail (IsStored (string_bytes old)) step run are) in cc

  pub all_kept : (run : List StoredStep) → All (IsStored (string_bytes old)) run → All (IsStored (string_bytes new)) run
  all_kept run are = All-weaker (IsStored (string_bytes old)) (IsStored (string_bytes new)) stored_kept run are
