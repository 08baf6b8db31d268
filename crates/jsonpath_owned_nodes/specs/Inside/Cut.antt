-- Lists that stand one after the other in one list, each up to its end.
use Rattle.std.specs.Prelude.{ℕ, ◌≤◌, List, [], ◌∷◌, length, slice_index, slice_range}

-- the parts of a list up to each of these ends, the first from `start` on
abbrev pub cut : {T : Type 0} → ℕ → List ℕ → List T → List (List T)
cut start [] items = []
cut start (end ∷ ends) items = slice_range items start end ∷ cut end ends items

-- where the part after these begins
abbrev pub last_end : ℕ → List ℕ → ℕ
last_end start ends = slice_index (start ∷ ends) (length ends)

-- the ends come one after the other from `start` on, none beyond `total`
abbrev pub AreEnds : ℕ → List ℕ → ℕ → Type 0
AreEnds start [] total = start ≤ total
AreEnds start (end ∷ ends) total = (start ≤ end) × AreEnds end ends total
