-- Whether some selector of a list may admit a step, from a place in the list on.
use Rattle.serde_json_path_reach.proofs.Words.{Bool, List, None, Selector, Some, Step, [], any_may_admit, ap, arith, drop, false, length, may_admit, none-some, refl, same_Some, slice_get, suc, sym, true, zero, ℕ, ◌<◌, ◌||◌, ◌∙◌, ◌∷◌, ◌≡◌}

pub any_here : (sels : List Selector) (n : ℕ) (sel : Selector) (s : Step) → slice_get sels n ≡ Some sel
    → (any_may_admit (drop n sels) s ≡ (may_admit sel s || any_may_admit (drop (suc n) sels) s)) × (n < length sels)
any_here [] n sel s e = absurd (none-some sel e)
any_here (x ∷ sels) zero sel s e = (ap (λ (y : Selector). may_admit y s || any_may_admit sels s) (same_Some x sel e), omega arith)
any_here (x ∷ sels) (suc n) sel s e = let later = any_here sels n sel s e in (later.0, omega (arith, later.1))

pub any_past : (sels : List Selector) (n : ℕ) (s : Step) → slice_get sels n ≡ None → any_may_admit (drop n sels) s ≡ false
any_past [] zero s e = refl
any_past [] (suc n) s e = refl
any_past (x ∷ sels) zero s e = absurd (none-some x (sym e))
any_past (x ∷ sels) (suc n) s e = any_past sels n s e

pub one_selector : (sels : List Selector) (sel : Selector) (s : Step) → slice_get sels 0 ≡ Some sel → slice_get sels 1 ≡ None → any_may_admit sels s ≡ true → may_admit sel s ≡ true
one_selector sels sel s first none may =
    let here : any_may_admit sels s ≡ (may_admit sel s || any_may_admit (drop 1 sels) s) = (any_here sels 0 sel s first).0 in
    or_false (may_admit sel s) (sym (here ∙ ap (λ b. may_admit sel s || b) (any_past sels 1 s none)) ∙ may)
  where
    or_false : (b : Bool) → (b || false) ≡ true → b ≡ true
    or_false true e = refl
    or_false false e = e
