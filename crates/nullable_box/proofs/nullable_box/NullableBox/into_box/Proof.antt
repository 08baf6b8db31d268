-- `into_box` gives nothing at null, and else hands what the pointer owns to `from_raw`.
use Rattle.nullable_box.proofs.Words.{◌≡◌, List, [], ◌∷◌, ◌++◌, refl, sym, ap, ◌∙◌, lit<, None, Some, a_type, dcons, dnil, Val, vptr, vcons, vnil, inst_fn, SProp, emp, id⊢, ftrue, flft, full_share, WpFn, ‵, raw, ◌⊛◌, some, later, at_ret, ◌$◌, ◌∵◌, !, qed, by, regoal, prop, move, keep, drop, split, split3, join, fsplit, fjoin, feq_i, pick, use0, use1, await, heard, stop, fld, lit, of_opd, bin, no_more, and_then, first, blocks, branches, skips, exec, returns, returns_within, enter, alloc_all, pass_all, free_all, look_at, get, get_in, sets, lands_last, env, agg, sub, whole, live, fact, fact_i, ◌⊑◌, tables, no, yes, param, bounded, layout, RattleType, owns, Ptr, block_ptr, null_ptr, ptr_val, tests_null, types_at, type_at, plain, nothing, peeks, Is, shows, Lasts, lasts, triple_of, calls_at_last, Stays, stay_dropped, walk_of, Goes-dropped, handle_tells, after, fm, Good, Some-of, none_of, proved_at, leaves, ghosts, dict, and_tt, held, no_drops}
use Rattle.std.specs.contracts.alloc.Global as heap
use Rattle.std_alloc.specs.contracts.boxed.Box.from_raw as callee
use Rattle.std_alloc.proofs.boxed.Box.from_raw.Met.{met}
use Rattle.std.proofs.impls.GlobalAllocator.TheImpl.Met.{passed}
use Rattle.nullable_box.specs.contracts.nullable_box.NullableBox as nullable
use Rattle.nullable_box.proofs.Owners.{single, pointer_good, single_good, owner_out}
use Rattle.nullable_box.proofs.Held.{either_held}
use Rattle.nullable_box.proofs.HeapBox.{heap_told, box_told, no_drop, with_heap}
use Rattle.nullable_box.specs.contracts.nullable_box.NullableBox.into_box as this
use Rattle.nullable_box.proofs.nullable_box.NullableBox.into_box as here

pub into_box_spec : {M : Type 1} → here.Statement.statement M
unfolding Rattle.nullable_box.proofs.Destruct++none.drop.Code.code
into_box_spec {M} 𝓤 𝓛 𝓜 𝓡 wired T L dx glued =
    let 𝓣 = tables 𝓤 𝓛.H 𝓜 𝓡 𝓡.env in
    let γ = 𝓡.env in
    let R : RattleType = param 0 T in
    let Z = heap_told in
    let Box = box_told T L in
    let B : RattleType = Box.row in
    let Nullable : RattleType = nullable.the_row R in
    let args = bounded (a_type ∷ []) (T, tt) (dcons dx dnil) in
    let fn = inst_fn args here.Code.function in
    let En = this.ended T dx in
    let c = this.clauses T dx 𝓛 𝓜.mem 𝓡.returns in
    let stays : Stays En.signature.params En.kept = (stay_dropped (plain (λ _. Nullable)) no, (stay_dropped (plain (λ _. heap.the_row)) yes, tt)) in
    proved_at 𝓛 En stays c 𝓜 𝓡 (Goes-dropped 𝓛 1 (plain (λ _. Nullable)) no (λ κs x f. refl), (Goes-dropped 𝓛 1 (plain (λ _. heap.the_row)) yes (λ κs x f. refl), tt))
    (this.Key.name args) fn (here.Code.unfolded 𝓤 𝓛.H 𝓜 𝓡 wired (T, tt) dx) (λ z are.
    let κ = z.0.0.0 in
    let q = z.0.1.0 in
    let v = z.0.3.0 in
    let a = z.0.3.1.0 in
    let Out : RattleType = type_at En.signature.result z.0.0 in
    let Post : Val → SProp 𝓤 = (walk_of 𝓛 En stays c).post z in
    qed 𝓛 (((‵ (flft κ q) ⊛ ‵ ftrue) ⊛ ‵ (owns (types_at En.signature.params z.0.0) z.0.3 z.0.4)) ∷ (raw (fact 𝓤 (κ ⊑ T.lives)) ⊛ ‵ ftrue) ∷ []) ∵
    split ! $ move ! (1 ∷ []) $ fsplit ! $ move ! (1 ∷ []) $ fsplit ! $
    handle_tells Z ! a z.0.4.1.0 (λ h handle good.
    move ! (2 ∷ []) $ owner_out ! v.at (held R v.at v.value) z.0.4.0 (λ word.
    let words : (p : Ptr) → v.at ≡ p → z.0.4.0 ++ (z.0.4.1.0 ++ []) ≡ single (ptr_val p) ∷ h ∷ [] =
    λ p at i. (word ∙ ap (λ (q : Ptr). single (ptr_val q) ∷ []) at) i ++ (handle i ++ []) in
    -- [what the pointer owns; the allocator; nothing; the tokens; the `requires`]
    either_held R ! v.at v.value
    (λ at empty. let none : Val = live 0 vnil in
    regoal ! (λ us. prop (WpFn 𝓤 𝓛.H 𝓣.C 𝓣.Λ fn us Post)) (words null_ptr at) refl $
    enter ! 𝓣.C 𝓣.Λ fn (single (ptr_val null_ptr) ∷ h ∷ []) Post $ alloc_all ! (λ l. pass_all ! refl (single_good null_ptr, (good, tt)) $
    sets ! (of_opd ! (get_in ! (fld ! refl (stop !)) (sub ! 0 refl (whole !)))) refl (pointer_good null_ptr) $
    sets ! (of_opd ! (get ! refl)) refl (pointer_good null_ptr) $
    sets ! (bin ! (get ! refl) (lit ! tt) tt) refl (tt, tt) $ first ! $ branches ! (get ! refl)
    (λ _. sets ! (agg ! (and_then ! (lit ! tt) (no_more !))) refl (tt, (record { fits = lit< tt }, tt)) $
    use0 𝓛 (‵ (Out.own_val None (none ∷ []))) (none_of 𝓛 B) $
    use0 𝓛 (raw (fact 𝓤 (v.value ≡ None))) (fact_i 𝓤 (v.value ≡ None) (emp 𝓤) empty) $
    nothing ! $ nothing ! $ fjoin ! $ nothing ! $ fjoin ! $
    returns_within ! Post refl (look_at ! 0 refl) $ free_all ! refl $ keep ! (5 ∷ 0 ∷ 2 ∷ 1 ∷ []) $
    by ! (leaves 𝓛 En stays c z none None (tt, (tt, tt)) (tt, (tt, tt))))
    (λ wrong. absurd wrong)))
    (λ b o x at full can. let p : Ptr = block_ptr b o in
    let k = triple_of 𝓛 (callee.signature T Z.row ghosts dict no_drop) (callee.spec T Z.row ghosts dict no_drop 𝓛 𝓜.mem 𝓡.returns) in
    let En' = callee.ended T Z.row ghosts dict no_drop in
    let y : k.Ghost = (((κ, ([], tt)), (q, (full_share, tt)), tt, (a, (p, tt)), (h ∷ [], (vptr b o ∷ [], tt))), x) in
    let tokens = ‵ (flft κ q) ⊛ ‵ (flft [] full_share) ⊛ ‵ ftrue in
    -- what `from_raw` asks for
    move ! (4 ∷ []) $ split ! $ move ! (5 ∷ 0 ∷ 2 ∷ []) $ with_heap ! κ T.lives q (held R p (Some x)) $
    move ! (2 ∷ []) $ feq_i ! (List Val) (vptr b o ∷ []) (vptr b o ∷ []) refl $ fjoin ! $ move ! (3 ∷ 0 ∷ []) $ fjoin ! $
    move ! (1 ∷ 0 ∷ []) $ join ! $ join ! $ use1 𝓛 (raw (k.pre y)) (id⊢ 𝓤 _) $
    regoal ! (λ us. prop (WpFn 𝓤 𝓛.H 𝓣.C 𝓣.Λ fn us Post)) (words p at) refl $
    enter ! 𝓣.C 𝓣.Λ fn (single (vptr b o) ∷ h ∷ []) Post $ alloc_all ! (λ l. pass_all ! refl ((tt, (tt, tt)), (good, tt)) $
    let frame = env fn.locals l in
    sets ! (of_opd ! (get_in ! (fld ! refl (stop !)) (sub ! 0 refl (whole !)))) refl (tt, tt) $
    sets ! (of_opd ! (get ! refl)) refl (tt, tt) $
    sets ! (bin ! (get ! refl) (lit ! tt) (tests_null p can)) refl (tt, tt) $ first ! $ branches ! (get ! refl)
    (λ wrong. absurd wrong)
    (λ _. skips ! $ exec ! 𝓣.C 𝓣.Λ frame (after 4 fn.body) (at_ret frame Post) $ first ! $ blocks ! $
    sets ! (of_opd ! (get ! refl)) refl good $ sets ! (of_opd ! (get ! refl)) refl (tt, tt) $
    calls_at_last ! (fm 𝓛 𝓜 𝓡) k (met 𝓤 𝓛 𝓜 𝓡 (here.Code.calls-std_alloc::boxed::Box::from_raw γ wired) T Z.row L Z.laws ghosts dict no_drop
    (passed γ (here.Code.calls-std::impls::GlobalAllocator::allocate γ wired) (here.Code.calls-std::impls::GlobalAllocator::deallocate γ wired)
    (here.Code.calls-std::impls::GlobalAllocator::grow γ wired) (here.Code.calls-std::impls::GlobalAllocator::shrink γ wired) M 𝓤 𝓛 𝓜 𝓡)
    (no_drops "nullable_box::Destruct++none::drop" γ (here.Code.calls-nullable_box::Destruct++none::drop γ wired) Z.row Z.laws M 𝓤 𝓛 𝓜 𝓡)) y
    (and_then ! (get ! refl) (and_then ! (get ! refl) (no_more !))) (λ u.
    use1 𝓛 (later (some (λ (r : B.Denot). (tokens ⊛ ‵ (B.own_val r (u ∷ []))) ⊛ some (λ (ls : Lasts En' (κ, ([], tt)) y.0.3).
    ‵ (lasts En' (κ, ([], tt)) y.0.3 ls) ⊛ (raw (fact 𝓤 (r.value ≡ x)) ⊛ raw (fact 𝓤 (r.alloc ≡ a))))))) (id⊢ 𝓤 (k.post y u)) $
    await ! tt $ pick ! (λ r. split ! $ move ! (1 ∷ []) $ pick ! (λ _. split3 ! $ drop ! $ heard ! (r.value ≡ x) (λ same. drop ! $ split ! $ move ! (1 ∷ []) $
    peeks ! B (Is B) (shows 𝓛 B) r (u ∷ []) (λ is.
    let made : Good (layout B) u = ((Box.laws.lawful 𝓛).typed r (u ∷ []) is).0 in
    let some : Val = live 1 (vcons u vnil) in
    lands_last ! refl made $ exec ! 𝓣.C 𝓣.Λ frame (after 5 fn.body) (at_ret frame Post) $ sets ! (of_opd ! (get ! refl)) refl made $
    sets ! (agg ! (and_then ! (lit ! tt) (and_then ! (get ! refl) (no_more !)))) refl (and_tt _ made.0, (record { fits = lit< tt }, (made.1, tt))) $
    use1 𝓛 (‵ (Out.own_val (Some r) (some ∷ []))) (Some-of 𝓛 B r u) $
    use0 𝓛 (raw (fact 𝓤 (v.value ≡ Some r.value))) (fact_i 𝓤 (v.value ≡ Some r.value) (emp 𝓤) (full ∙ ap Some (sym same))) $
    nothing ! $ nothing ! $ fjoin ! $ nothing ! $ fjoin ! $ move ! (3 ∷ []) $ split3 ! $ move ! (0 ∷ 2 ∷ []) $ join ! $
    returns ! (look_at ! 0 refl) $ free_all ! refl $ keep ! (0 ∷ 2 ∷ 4 ∷ 3 ∷ []) $
    by ! (leaves 𝓛 En stays c z some (Some r) (tt, (tt, tt)) (tt, (tt, tt))))))))))))))
