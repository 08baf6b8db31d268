-- `of` holds what the box owned, at the pointer that `into_raw` gives.
use Rattle.nullable_box.proofs.Words.{◌≡◌, [], ◌∷◌, ◌++◌, refl, ap, Option, Some, a_type, dcons, dnil, Val, inst_fn, SProp, emp, id⊢, ftrue, flft, full_share, WpFn, ‵, raw, ◌⊛◌, some, later, ◌$◌, ◌∵◌, !, qed, by, regoal, prop, move, keep, drop, split, split3, join, fsplit, fjoin, feq_l, pick, use0, use1, await, of_opd, no_more, and_then, returns, enter, alloc_all, pass_all, free_all, look_at, get, sets, lands_as, agg, fact, fact_i, ◌⊑◌, tables, no, RattleType, owns, types_at, plain, Ptr, RawPtr, ptr_val, nothing, only, param, bounded, Lasts, lasts, triple_of, calls_at, Stays, stay_dropped, walk_of, Goes-blank, handle_tells, fm, box_owns, proved_at, leaves, ghosts, dict, held, no_drops}
use Rattle.std_alloc.specs.contracts.boxed.Box.into_raw as callee
use Rattle.std_alloc.proofs.boxed.Box.into_raw.Met.{met}
use Rattle.std.proofs.impls.GlobalAllocator.TheImpl.Met.{passed}
use Rattle.nullable_box.proofs.Owners.{single, pointer_good, single_good, owner_in}
use Rattle.nullable_box.proofs.Held.{owned_held}
use Rattle.nullable_box.proofs.HeapBox.{heap_told, box_told, no_drop, with_heap}
use Rattle.nullable_box.specs.contracts.nullable_box.NullableBox.of as this
use Rattle.nullable_box.proofs.nullable_box.NullableBox.of as here

pub of_spec : {M : Type 1} → here.Statement.statement M
unfolding Rattle.nullable_box.proofs.Destruct++none.drop.Code.code
of_spec {M} 𝓤 𝓛 𝓜 𝓡 wired T L dx glued =
    let 𝓣 = tables 𝓤 𝓛.H 𝓜 𝓡 𝓡.env in
    let γ = 𝓡.env in
    let R : RattleType = param 0 T in
    let Z = heap_told in
    let B = box_told T L in
    let args = bounded (a_type ∷ []) (T, tt) (dcons dx dnil) in
    let fn = inst_fn args here.Code.function in
    let En = this.ended T dx in
    let c = this.clauses T dx 𝓛 𝓜.mem 𝓡.returns in
    let stays : Stays En.signature.params En.kept = (stay_dropped (plain (λ _. B.row)) no, tt) in
    proved_at 𝓛 En stays c 𝓜 𝓡 (Goes-blank 𝓛 1 (plain (λ _. B.row)) no (λ κs x f. tt), tt) (this.Key.name args) fn (here.Code.unfolded 𝓤 𝓛.H 𝓜 𝓡 wired (T, tt) dx) (λ z are.
    let κ = z.0.0.0 in
    let q = z.0.1.0 in
    let v = z.0.3.0 in
    let Post : Val → SProp 𝓤 = (walk_of 𝓛 En stays c).post z in
    let tokens = ‵ (flft κ q) ⊛ ‵ (flft [] full_share) ⊛ ‵ ftrue in
    let k = triple_of 𝓛 (callee.signature T Z.row ghosts dict no_drop dx) (callee.spec T Z.row ghosts dict no_drop dx 𝓛 𝓜.mem 𝓡.returns) in
    qed 𝓛 (((‵ (flft κ q) ⊛ ‵ ftrue) ⊛ ‵ (owns (types_at En.signature.params z.0.0) z.0.3 z.0.4)) ∷ (raw (fact 𝓤 (κ ⊑ T.lives)) ⊛ ‵ ftrue) ∷ []) ∵
    move ! (1 ∷ []) $ split ! $ move ! (2 ∷ []) $ split ! $ move ! (0 ∷ 2 ∷ 3 ∷ []) $ with_heap ! κ T.lives q ftrue $ move ! (2 ∷ []) $ fsplit ! $
    handle_tells B ! v z.0.4.0 (λ w word good.
    let y : k.Ghost = (((κ, ([], tt)), (q, (full_share, tt)), tt, (v, tt), (w ∷ [], tt)), tt) in
    fjoin ! $ move ! (1 ∷ 0 ∷ []) $ join ! $ join ! $ use1 𝓛 (raw (k.pre y)) (id⊢ 𝓤 _) $
    regoal ! (λ us. prop (WpFn 𝓤 𝓛.H 𝓣.C 𝓣.Λ fn us Post)) (ap (λ us. us ++ []) word) refl $
    enter ! 𝓣.C 𝓣.Λ fn (w ∷ []) Post $ alloc_all ! (λ l. pass_all ! refl (good, tt) $
    sets ! (of_opd ! (get ! refl)) refl good $
    calls_at ! (fm 𝓛 𝓜 𝓡) k (met 𝓤 𝓛 𝓜 𝓡 (here.Code.calls-std_alloc::boxed::Box::into_raw γ wired) T Z.row L Z.laws ghosts dict no_drop dx
    (passed γ (here.Code.calls-std::impls::GlobalAllocator::allocate γ wired) (here.Code.calls-std::impls::GlobalAllocator::deallocate γ wired)
    (here.Code.calls-std::impls::GlobalAllocator::grow γ wired) (here.Code.calls-std::impls::GlobalAllocator::shrink γ wired) M 𝓤 𝓛 𝓜 𝓡)
    (no_drops "nullable_box::Destruct++none::drop" γ (here.Code.calls-nullable_box::Destruct++none::drop γ wired) Z.row Z.laws M 𝓤 𝓛 𝓜 𝓡) glued) y
    (and_then ! (get ! refl) (no_more !)) (λ u.
    use1 𝓛 (later (some (λ (p : Ptr). (tokens ⊛ ‵ (RawPtr.own_val p (u ∷ []))) ⊛ some (λ (ls : Lasts (callee.ended T Z.row ghosts dict no_drop dx) (κ, ([], tt)) y.0.3).
    ‵ (lasts (callee.ended T Z.row ghosts dict no_drop dx) (κ, ([], tt)) y.0.3 ls) ⊛ ‵ (box_owns (ghosts.dealloc_token v.alloc) R p v.value))))) (id⊢ 𝓤 (k.post y u)) $
    await ! tt $ pick ! (λ p. split ! $ move ! (1 ∷ []) $ pick ! (λ _. split ! $ drop ! $ move ! (1 ∷ []) $ split ! $ move ! (1 ∷ []) $ feq_l ! (λ pointer.
    let full : Option R.Denot = Some v.value in
    lands_as ! (ap only pointer) refl (pointer_good p) $
    sets ! (agg ! (and_then ! (get ! refl) (no_more !))) refl (single_good p) $
    -- [the tokens; what the box owned]
    split3 ! $ move ! (3 ∷ []) $ use1 𝓛 (‵ (held R p full)) (owned_held R 𝓛 v.alloc p v.value) $ owner_in ! p (held R p full) $
    use0 𝓛 (raw (fact 𝓤 (full ≡ Some v.value))) (fact_i 𝓤 (full ≡ Some v.value) (emp 𝓤) refl) $
    nothing ! $ nothing ! $ fjoin ! $ move ! (3 ∷ 5 ∷ []) $ join ! $
    returns ! (look_at ! 0 refl) $ free_all ! refl $ keep ! (0 ∷ 1 ∷ 3 ∷ 2 ∷ []) $
    by ! (leaves 𝓛 En stays c z (single (ptr_val p)) (record { at = p; value = full }) (tt, tt) (tt, tt)))))))))
