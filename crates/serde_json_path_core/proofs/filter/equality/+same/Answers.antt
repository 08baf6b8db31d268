use Rattle.serde_json_path_core.proofs.Words.{arith, nat_tests, common_steps, ◌≡◌, rules, suc, List, [], ◌∷◌, length, String, Global, Bool, true, false, ◌&&◌, refl, sym, ap, ◌∙◌, Numbers, view, items_view, members_view, Value, same_data, same_items, same_members}
use Rattle.serde_json_path_core.proofs.filter.equality.+same.Goals as goal

and-false : (b : Bool) → (b && false) ≡ false
and-false b = grind (arith, nat_tests, common_steps)

-- lists of two lengths are not equal
items_differ : (numbers : Numbers) (xs ys : List Value) → (length xs ≡ length ys → ⊥) → false ≡ same_items numbers (items_view xs) (items_view ys)
items_differ numbers [] [] h = absurd (h refl)
items_differ numbers (x ∷ xs) (y ∷ ys) h = rw (sym (items_differ numbers xs ys (λ e. h (ap suc e))), and-false (same_data numbers (view x) (view y))) refl
items_differ numbers _ _ h = refl

-- objects of two sizes are not equal
members_differ : (numbers : Numbers) (xs ys : List (String Global × Value)) → (length xs ≡ length ys → ⊥) → false ≡ same_members numbers (members_view xs) (members_view ys)
members_differ numbers [] [] h = absurd (h refl)
members_differ numbers (x ∷ xs) (y ∷ ys) h = grind (arith, nat_tests, common_steps, and-false, members_differ numbers xs ys (λ e. h (ap suc e)))
members_differ numbers _ _ h = refl

pub same_items-returns-then-len : goal.same_items-returns-then-len
same_items-returns-then-len t c =
    items_differ _ _ _ (λ e. c.if-len.true (c.len.ensures ∙ c.args.left.now.ok.0 ∙ e ∙ sym c.args.right.now.ok.0 ∙ sym c.len-2.ensures))

pub same_members-returns-then-len : goal.same_members-returns-then-len
same_members-returns-then-len t c =
    members_differ _ _ _ (λ e. c.if-len.true (c.len.ensures.len ∙ e ∙ sym c.len-2.ensures.len))
