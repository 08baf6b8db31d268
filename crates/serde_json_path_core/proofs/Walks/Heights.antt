-- A document's height, computed.
use Rattle.serde_json_path_core.proofs.Words.{nat_tests, common_steps, ◌≡◌, ℕ, ◌<◌, List, [], ◌∷◌, length, flat_map, Some, option_and_then, inl, inr, refl, sym, subst, ap, ◌∙◌, arith, cases_lt, Data, Step, child_at, at, Located, IsIn, children, descents, itself, IsHeight}
use Rattle.serde_json_path_core.proofs.Meaning.Descents.{below_child, descents_are, in_descents, longest, no_longer}

some_longest : (n : Located) (ns : List Located) → (m : Located) × IsIn m (n ∷ ns) × (length m.location ≡ longest (n ∷ ns))
some_longest n [] = (n, inl refl, omega arith)
some_longest n (m ∷ ns) = let (l, there, long) = some_longest m ns in elim (cases_lt (length n.location) (longest (m ∷ ns))) [
  | inl above ↦ (l, inr there, omega arith)
  | inr here ↦ (n, inl refl, omega arith)
]

-- the length of the longest location in the value: 0 where it has no children
pub height : Data → ℕ
height v = longest (descents v)

as_long : (v : Data) → (location : List Step) × (w : Data) × (at v location ≡ Some w) × (length location ≡ height v)
unfolding height
as_long v =
    let n = some_longest (itself v) (flat_map below_child (children v)) in
    let (there, long) = subst (λ ns. IsIn n.0 ns × (length n.0.location ≡ longest ns)) (sym (descents_are v)) (n.1, n.2) in
    (n.0.location, n.0.value, (in_descents v n.0).0 there, long)

pub computed_height : (v : Data) → IsHeight v (height v)
unfolding height
computed_height v = (no_longer v, as_long v)

-- the child at a step is lower
pub height-child_at : (v : Data) (s : Step) (c : Data) → child_at v s ≡ Some c → height c < height v
height-child_at v s c e =
    let (location, w, there, long) = as_long c in
    let longer = (computed_height v).0 (s ∷ location) w (ap (option_and_then (λ d. at d location)) e ∙ there) in
    omega arith

-- a document has one height
pub same_height : (v : Data) (m n : ℕ) → IsHeight v m → IsHeight v n → m ≡ n
same_height v m n (most, (location, w, there, long)) (most_too, (other, u, there_too, long_too)) = grind (arith, nat_tests, common_steps)
