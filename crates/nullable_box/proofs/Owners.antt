-- Structs that own memory by a pointer: their machine values, and how they are made and taken apart. Assumes `Logic`.
use Rattle.nullable_box.proofs.Words.{◌≡◌, lit<, ty_ptr, List, [], ◌∷◌, ◌++◌, refl, subst, T, true, ◌&&◌, Ura, Val, vstruct, vcons, vnil, of_list, has_ty, WT, Fml, fsep, Logic, Item, Goal, Seq, Step, step, ‵, ◌$◌, drop, fsplit, fjoin, fpick, fpack, feq_i, feq_l, RattleType, Valss, Ptr, RawPtr, block_ptr, null_ptr, ptr_val, nothing, Struct, within, and_tt}

-- the machine value of a struct of one field
abbrev pub single : Val → Val
single v = vstruct (vcons v vnil)

-- a struct of one pointer
abbrev pub OnePtr : RattleType
OnePtr = Struct (record { name = []; args = []; types = []; fields = RawPtr ∷ [] })

pub pointer_good : (p : Ptr) → T (has_ty ty_ptr (ptr_val p)) × WT (ptr_val p)
pointer_good (block_ptr b o) = (tt, tt)
pointer_good null_ptr = (tt, record { fits = lit< tt })

pub single_good : (p : Ptr) → T (has_ty ty_ptr (ptr_val p) && true) × WT (single (ptr_val p))
single_good p = (and_tt _ (pointer_good p).0, ((pointer_good p).1, tt))

module _ {M : Type 1} {𝓤 : Ura M} {𝓛 : Logic 𝓤} {K : Type 0} {Γ : List (Item 𝓤)} {G : Goal 𝓤 𝓛.H} where
  -- an owner of F by one pointer is made of F
  pub owner_in : K → (p : Ptr) (F : Fml) → Step K 𝓛 (‵ (fsep (OnePtr.own_val (p, tt) (single (ptr_val p) ∷ [])) F) ∷ Γ) G (‵ F ∷ Γ) G
  owner_in t p F = step (λ s.
      nothing t $ feq_i t (List Val) (ptr_val p ∷ []) (ptr_val p ∷ []) refl $ fjoin t $
      feq_i t (List Val) (single (ptr_val p) ∷ []) (single (ptr_val p) ∷ []) refl $ fjoin t $
      fpack t (Valss (RawPtr ∷ [])) (within (record { name = []; args = []; types = []; fields = RawPtr ∷ [] }) (p, tt) (single (ptr_val p) ∷ [])) (ptr_val p ∷ [], tt) $
      fjoin t $ s)

  -- and taken apart gives F
  pub owner_out : K → (p : Ptr) (F : Fml) (vs : List Val)
      → (vs ≡ single (ptr_val p) ∷ [] → Seq K 𝓛 (‵ F ∷ Γ) G)
      → Seq K 𝓛 (‵ (fsep (OnePtr.own_val (p, tt) vs) F) ∷ Γ) G
  owner_out t p F vs then =
      fsplit t $ fpick t (λ vss. fsplit t $ feq_l t (λ packed. fsplit t $ feq_l t (λ pointer. drop t $
      then (subst (λ (ws : List Val). vs ≡ vstruct (of_list (ws ++ [])) ∷ []) pointer packed))))
