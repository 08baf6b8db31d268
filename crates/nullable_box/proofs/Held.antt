-- What the pointer of a nullable box owns is nothing or a box's. Assumes `Logic`.
use Rattle.nullable_box.proofs.Words.{◌≡◌, ℕ, List, ◌∷◌, refl, Option, None, Some, Ura, ftrue, ffalse, ent, guard_i, via, id⊢, fst∗, snd∗, never, never_e, Logic, sem, Item, Goal, Seq, given, ‵, ◌$◌, drop, use1, learn, fact_use, lone, RattleType, Ptr, block_ptr, null_ptr, Testable, box_owns, points_to, ghosts, Global, dealloc_token-Testable, held, bare}

module _ (R : RattleType) {M : Type 1} {𝓤 : Ura M} where
  -- what a box owns is held
  pub owned_held : (𝓛 : Logic 𝓤) (a : Global) (p : Ptr) (x : R.Denot) → ent 𝓤 (sem 𝓛 (box_owns (ghosts.dealloc_token a) R p x)) (sem 𝓛 (held R p (Some x)))
  owned_held 𝓛 a null_ptr x = fst∗ 𝓤 (never 𝓤) (sem 𝓛 (ghosts.dealloc_token a (bare (lone R.mir)) null_ptr))
  owned_held 𝓛 a (block_ptr b o) x = id⊢ 𝓤 _

  module _ {𝓛 : Logic 𝓤} {K : Type 0} {Γ : List (Item 𝓤)} {G : Goal 𝓤 𝓛.H} where
    impossible : K → Seq K 𝓛 (‵ ffalse ∷ Γ) G
    impossible t = use1 𝓛 (given ⊥ (‵ ftrue)) (never_e 𝓤 _) $ learn t (λ absurdity. absurd absurdity)

    -- nothing, at null, or a box, at a pointer that may be compared with null
    pub either_held : K → (p : Ptr) (v : Option R.Denot)
        → (p ≡ null_ptr → v ≡ None → Seq K 𝓛 Γ G)
        → ((b o : ℕ) (x : R.Denot) → p ≡ block_ptr b o → v ≡ Some x → Testable (block_ptr b o) → Seq K 𝓛 (‵ (held R (block_ptr b o) (Some x)) ∷ Γ) G)
        → Seq K 𝓛 (‵ (held R p v) ∷ Γ) G
    either_held t null_ptr None empty box = drop t $ empty refl refl
    either_held t null_ptr (Some x) empty box = impossible t
    either_held t (block_ptr b o) None empty box = impossible t
    either_held t (block_ptr b o) (Some x) empty box =
        let p : Ptr = block_ptr b o in
        use1 𝓛 (given (Testable p) (‵ (held R p (Some x)))) (fact_use 𝓤 (Testable p)
        (via 𝓤 _ (snd∗ 𝓤 (sem 𝓛 (points_to R p x)) _) (dealloc_token-Testable 𝓛 _ (bare (lone R.mir)) p)) (guard_i 𝓤 (Testable p) _)) $
        learn t (λ can. box b o x refl refl can)
