-- What the pointer of a nullable reference shows is nothing or a value's. Assumes `Logic`.
use Rattle.nullable_box.proofs.Words.{◌≡◌, ℕ, List, ◌∷◌, refl, Option, None, Some, Ura, ftrue, ffalse, never_e, Logic, Item, Goal, Seq, given, ‵, ◌$◌, drop, fsplit, fpick, use1, learn, RattleType, Ptr, block_ptr, null_ptr, Testable, lent, static_ref_at}

module _ (R : RattleType) {M : Type 1} {𝓤 : Ura M} {𝓛 : Logic 𝓤} {K : Type 0} {Γ : List (Item 𝓤)} {G : Goal 𝓤 𝓛.H} where
  impossible : K → Seq K 𝓛 (‵ ffalse ∷ Γ) G
  impossible t = use1 𝓛 (given ⊥ (‵ ftrue)) (never_e 𝓤 _) $ learn t (λ absurdity. absurd absurdity)

  -- nothing, at null, or a value, at a pointer that may be compared with null
  pub either_lent : K → (p : Ptr) (v : Option R.Denot)
      → (p ≡ null_ptr → v ≡ None → Seq K 𝓛 Γ G)
      → ((b o : ℕ) (x : R.Denot) → p ≡ block_ptr b o → v ≡ Some x → Testable (block_ptr b o) → Seq K 𝓛 (‵ (static_ref_at R (block_ptr b o) x) ∷ Γ) G)
      → Seq K 𝓛 (‵ (lent R p v) ∷ Γ) G
  either_lent t null_ptr None empty value = drop t $ empty refl refl
  either_lent t null_ptr (Some x) empty value = impossible t
  either_lent t (block_ptr b o) None empty value = impossible t
  either_lent t (block_ptr b o) (Some x) empty value = fsplit t $ fpick t (λ can. drop t $ value b o x refl refl can)
