-- `get` gives nothing at null, and else a reference to what is lent.
use Rattle.nullable_box.proofs.Words.{◌≡◌, List, [], ◌∷◌, ◌++◌, refl, sym, ap, ◌∙◌, lit<, Option, None, Some, a_type, named, Val, vptr, of_list, inst_fn, SProp, emp, ftrue, WpFn, ‵, raw, ◌⊛◌, at_ret, ◌$◌, ◌∵◌, !, qed, by, regoal, prop, move, keep, drop, split, fsplit, fjoin, feq_i, use0, use1, hide, stop, fld, lit, addr, of_opd, bin, no_more, and_then, first, blocks, branches, skips, exec, returns, returns_within, enter, alloc_all, pass_all, free_all, look_at, get, get_in, through, sets, sets_last, env, agg, sub, whole, live, fact, fact_i, ⊑_static, tables, no, param, layouts, RattleType, owns, Ptr, Bor, ShrRef, block_ptr, null_ptr, ptr_val, tests_null, types_at, type_at, plain, nothing, shared_of, shortens, Stays, stay_dropped, walk_of, Goes-dropped, alive, after, Some-of, none_of, proved_at, leaves, lent}
use Rattle.nullable_box.specs.contracts.nullable_ref.NullableRef as nullable
use Rattle.nullable_box.proofs.Owners.{single, pointer_good, single_good, owner_out}
use Rattle.nullable_box.proofs.Shown.{either_lent}
use Rattle.nullable_box.specs.contracts.nullable_ref.NullableRef.get as this
use Rattle.nullable_box.proofs.nullable_ref.NullableRef.get as here

pub get_spec : {M : Type 1} → here.Statement.statement M
get_spec {M} 𝓤 𝓛 𝓜 𝓡 wired T L =
    let 𝓣 = tables 𝓤 𝓛.H 𝓜 𝓡 𝓡.env in
    let R : RattleType = this.T-row T in
    let Nullable : RattleType = nullable.the_row R in
    let args = layouts (a_type ∷ []) (T, tt) in
    let fn = inst_fn args here.Code.function in
    let En = this.ended T in
    let c = this.clauses T 𝓛 𝓜.mem 𝓡.returns in
    let stays : Stays En.signature.params En.kept = (stay_dropped (plain (λ _. Nullable)) no, tt) in
    proved_at 𝓛 En stays c 𝓜 𝓡 (Goes-dropped 𝓛 2 (plain (λ _. Nullable)) no (λ κs x f. refl), tt)
    (this.Key.name args) fn (here.Code.unfolded 𝓤 𝓛.H 𝓜 𝓡 wired (T, tt)) (λ z are.
    let κ = z.0.0.0 in
    let v = z.0.3.0 in
    let Lent : RattleType = ShrRef (named 0) κ R in
    let Out : RattleType = type_at En.signature.result z.0.0 in
    let Post : Val → SProp 𝓤 = (walk_of 𝓛 En stays c).post z in
    qed 𝓛 ((raw (alive 𝓛 En.signature z.0.0 z.0.1) ⊛ ‵ (owns (types_at En.signature.params z.0.0) z.0.3 z.0.4)) ∷ raw ((c z.0.0 z.0.3).requires z.1) ∷ []) ∵
    split ! $ move ! (1 ∷ []) $ fsplit ! $ owner_out ! v.at (lent R v.at v.value) z.0.4.0 (λ word.
    let words : (p : Ptr) → v.at ≡ p → z.0.4.0 ++ [] ≡ single (ptr_val p) ∷ [] =
    λ p at i. (word ∙ ap (λ (q : Ptr). single (ptr_val q) ∷ []) at) i ++ [] in
    -- [what the pointer shows; nothing; the tokens; the `requires`]
    either_lent R ! v.at v.value
    (λ at empty. let none : Val = live 0 (of_list []) in
    regoal ! (λ us. prop (WpFn 𝓤 𝓛.H 𝓣.C 𝓣.Λ fn us Post)) (words null_ptr at) refl $
    enter ! 𝓣.C 𝓣.Λ fn (single (ptr_val null_ptr) ∷ []) Post $ alloc_all ! (λ l. pass_all ! refl (single_good null_ptr, tt) $
    sets ! (of_opd ! (get_in ! (fld ! refl (stop !)) (sub ! 0 refl (whole !)))) refl (pointer_good null_ptr) $
    sets ! (of_opd ! (get ! refl)) refl (pointer_good null_ptr) $
    sets ! (bin ! (get ! refl) (lit ! tt) tt) refl (tt, tt) $ first ! $ branches ! (get ! refl)
    (λ _. sets ! (agg ! (and_then ! (lit ! tt) (no_more !))) refl (tt, (record { fits = lit< tt }, tt)) $
    use0 𝓛 (‵ (Out.own_val None (none ∷ []))) (none_of 𝓛 Lent) $
    use0 𝓛 (raw (fact 𝓤 (v.value ≡ None))) (fact_i 𝓤 (v.value ≡ None) (emp 𝓤) empty) $
    nothing ! $ nothing ! $ fjoin ! $
    returns_within ! Post refl (look_at ! 0 refl) $ free_all ! refl $ keep ! (4 ∷ 0 ∷ 2 ∷ 1 ∷ []) $
    by ! (leaves 𝓛 En stays c z none None (tt, tt) (tt, tt)))
    (λ wrong. absurd wrong)))
    (λ b o x at full can. let p : Ptr = block_ptr b o in
    let r : Bor T.Denot = record { ref_ptr = (b, o); now = x } in
    let some : Val = live 1 (of_list (vptr b o ∷ [])) in
    fsplit ! $ drop ! $ use1 𝓛 (‵ (shared_of R x b o κ)) (shortens 𝓛 (shared_of R x b o) (L.shr_laws x b o) [] κ (⊑_static κ)) $ hide ! $
    feq_i ! (List Val) (vptr b o ∷ []) (vptr b o ∷ []) refl $ fjoin ! $
    use1 𝓛 (‵ (Out.own_val (Some r) (some ∷ []))) (Some-of 𝓛 Lent r (vptr b o)) $
    regoal ! (λ us. prop (WpFn 𝓤 𝓛.H 𝓣.C 𝓣.Λ fn us Post)) (words p at) refl $
    enter ! 𝓣.C 𝓣.Λ fn (single (vptr b o) ∷ []) Post $ alloc_all ! (λ l. pass_all ! refl (single_good p, tt) $
    let frame = env fn.locals l in
    sets ! (of_opd ! (get_in ! (fld ! refl (stop !)) (sub ! 0 refl (whole !)))) refl (tt, tt) $
    sets ! (of_opd ! (get ! refl)) refl (tt, tt) $
    sets ! (bin ! (get ! refl) (lit ! tt) (tests_null p can)) refl (tt, tt) $ first ! $ branches ! (get ! refl)
    (λ wrong. absurd wrong)
    (λ _. skips ! $ exec ! 𝓣.C 𝓣.Λ frame (after 4 fn.body) (at_ret frame Post) $ first ! $ blocks ! $
    sets_last ! (addr ! (through ! refl (stop !))) refl (tt, tt) $ exec ! 𝓣.C 𝓣.Λ frame (after 5 fn.body) (at_ret frame Post) $
    sets ! (of_opd ! (get ! refl)) refl (tt, tt) $
    sets ! (agg ! (and_then ! (lit ! tt) (and_then ! (get ! refl) (no_more !)))) refl (tt, (record { fits = lit< tt }, (tt, tt))) $
    use0 𝓛 (raw (fact 𝓤 (v.value ≡ Some x))) (fact_i 𝓤 (v.value ≡ Some x) (emp 𝓤) full) $
    nothing ! $ nothing ! $ fjoin ! $
    returns ! (look_at ! 0 refl) $ free_all ! refl $ keep ! (4 ∷ 0 ∷ 2 ∷ 1 ∷ []) $
    by ! (leaves 𝓛 En stays c z some (Some r) (tt, tt) (tt, tt)))))))
