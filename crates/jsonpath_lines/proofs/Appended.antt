-- What writes leave, one after the other.
use Rattle.jsonpath_lines.proofs.Words.{◌≡◌, ℕ, List, ◌++◌, if◌then◌else◌, Result, is_ok, OnOk, Appends, arith, nat_tests, common_steps}

-- a text that is what is asked for is appended
pub written : {A E : Type 0} (r : Result A E) (Is : List ℕ → Type 0) (more old new : List ℕ) → Is more → new ≡ (if is_ok r then old ++ more else old) → OnOk r (Appends Is old new)
written r Is more old new is e = grind (arith, nat_tests, common_steps)
