-- Boxes of the heap, as the lemmas and contracts of boxes take them. Assumes `Logic`.
use Rattle.nullable_box.proofs.Words.{List, [], ◌∷◌, Ura, impl, tcons, tnil, dnil, Dict, Lft, Share, Fml, ftrue, flft, full_share, fact, fact_i, emp, Logic, Item, Goal, Step, step, raw, ‵, ◌⊛◌, ◌$◌, move, join, split, use0, ◌⊑◌, ⊑_refl, RattleType, layout, param, Laws, param_laws, arg, arg_laws, bare, no, refl, Al, ghosts}
use Rattle.std.specs.contracts.alloc.Global as heap
use Rattle.std.proofs.alloc.Global.TheLaws as heap_laws
use Rattle.std_alloc.specs.contracts.boxed.Box as boxed
use Rattle.std_alloc.proofs.boxed.Box.TheLaws as box_laws

-- a type, as the lemmas about an owner's one machine value take it
abbrev told : (A : RattleType) → Laws A → Al
told A L = record { row = A; laws = L; g = record { dealloc_token = λ a σ p. ftrue }; d = impl [] tnil dnil; drops = impl [] tnil dnil }

-- the heap, as a call hands it on
abbrev pub heap_told : Al
heap_told = told (arg (bare (layout heap.the_row)) no heap.the_row) (arg_laws (bare (layout heap.the_row)) no heap.the_row heap_laws.the_row_laws refl)

abbrev pub box_told : (T : RattleType) → Laws T → Al
box_told T L = told (boxed.the_row (param 0 T) heap.the_row ghosts) (box_laws.the_row_laws (param 0 T) heap.the_row ghosts (param_laws 0 T L) heap_laws.the_row_laws)

-- the heap's drop does nothing
abbrev pub no_drop : Dict
no_drop = impl ("nullable_box::Destruct++none::drop" ∷ []) (tcons (layout heap_told.row) tnil) dnil

module _ {M : Type 1} {𝓤 : Ura M} {𝓛 : Logic 𝓤} {K : Type 0} {Γ : List (Item 𝓤)} {G : Goal 𝓤 𝓛.H} where
  -- a box's function has the allocator's lifetime besides, of which the heap's is the longest
  pub with_heap : K → (κ l : Lft) (q : Share) (F : Fml)
      → Step K 𝓛 ((‵ (flft κ q) ⊛ ‵ (flft [] full_share) ⊛ ‵ ftrue) ∷ (raw (fact 𝓤 (κ ⊑ l)) ⊛ raw (fact 𝓤 ([] ⊑ [])) ⊛ ‵ F) ∷ Γ) G
      ((‵ (flft κ q) ⊛ ‵ ftrue) ∷ raw (fact 𝓤 (κ ⊑ l)) ∷ ‵ F ∷ Γ) G
  with_heap t κ l q F = step (λ s.
      split t $ move t (1 ∷ []) $ use0 𝓛 (‵ (flft [] full_share)) (𝓛.lfts.lft-nil full_share) $ join t $ move t (1 ∷ 0 ∷ []) $ join t $
      move t (2 ∷ []) $ use0 𝓛 (raw (fact 𝓤 ([] ⊑ []))) (fact_i 𝓤 ([] ⊑ []) (emp 𝓤) (⊑_refl [])) $ join t $ move t (2 ∷ 0 ∷ []) $ join t $ move t (1 ∷ []) $ s)
