-- What a write leaves of a text, and the beginnings of texts that were appended.
use Rattle.jsonpath_lines.proofs.Words.{◌≡◌, ℕ, ◌-◌, List, ◌++◌, length, take, drop, Option, sym, ap, ◌∙◌, append_assoc, take-append-drop, take_rest, AppendsBeginning}

pub split_further : (text begun rest : List ℕ) (n : ℕ) → text ≡ begun ++ rest → text ≡ (begun ++ take n rest) ++ take (length rest - n) (drop n rest)
split_further text begun rest n e =
    e ∙ ap (λ l. begun ++ l) (sym (take-append-drop n rest)) ∙ sym (append_assoc begun (take n rest) (drop n rest)) ∙ ap (λ l. (begun ++ take n rest) ++ l) (sym (take_rest rest n))

-- a beginning of a text is one of each longer text
pub beginning_of_longer : (old new : Option (List ℕ)) (text longer rest : List ℕ) → longer ≡ text ++ rest → AppendsBeginning old new text → AppendsBeginning old new longer
beginning_of_longer old new text longer rest e h =
    (h.0, h.1 ++ rest, e ∙ ap (λ l. l ++ rest) h.2 ∙ append_assoc h.0 h.1 rest, h.3)
