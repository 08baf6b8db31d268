-- Nothing is null.
use Rattle.nullable_box.proofs.Words.{◌≡◌, [], ◌∷◌, refl, lit<, Option, None, a_type, Val, inst_fn, SProp, emp, ftrue, flft, ‵, raw, ◌⊛◌, ◌$◌, ◌∵◌, !, qed, by, keep, split, use0, lit, no_more, and_then, returns, enter, alloc_all, pass_all, free_all, look_at, sets, agg, fact, fact_i, tables, param, layouts, RattleType, owns, ptr_val, null_ptr, types_at, nothing, Stays, walk_of, proved_at, leaves, held}
use Rattle.nullable_box.proofs.Owners.{single, owner_in}
use Rattle.nullable_box.specs.contracts.nullable_box.NullableBox.none as this
use Rattle.nullable_box.proofs.nullable_box.NullableBox.none as here

pub none_spec : {M : Type 1} → here.Statement.statement M
none_spec 𝓤 𝓛 𝓜 𝓡 wired T L =
    let 𝓣 = tables 𝓤 𝓛.H 𝓜 𝓡 𝓡.env in
    let R : RattleType = param 0 T in
    let args = layouts (a_type ∷ []) (T, tt) in
    let fn = inst_fn args here.Code.function in
    let En = this.ended T in
    let c = this.clauses T 𝓛 𝓜.mem 𝓡.returns in
    let stays : Stays En.signature.params En.kept = tt in
    let empty : Option R.Denot = None in
    proved_at 𝓛 En stays c 𝓜 𝓡 tt (this.Key.name args) fn (here.Code.unfolded 𝓤 𝓛.H 𝓜 𝓡 wired (T, tt)) (λ z are.
    let Post : Val → SProp 𝓤 = (walk_of 𝓛 En stays c).post z in
    qed 𝓛 (((‵ (flft z.0.0.0 z.0.1.0) ⊛ ‵ ftrue) ⊛ ‵ (owns (types_at En.signature.params z.0.0) z.0.3 z.0.4)) ∷ raw ((c z.0.0 z.0.3).requires z.1) ∷ []) ∵ split ! $
    enter ! 𝓣.C 𝓣.Λ fn [] Post $ alloc_all ! (λ l. pass_all ! refl tt $
    sets ! (agg ! (and_then ! (lit ! tt) (no_more !))) refl (tt, (record { fits = lit< tt }, tt)) $
    nothing ! $ owner_in ! null_ptr (held R null_ptr empty) $
    use0 𝓛 (raw (fact 𝓤 (empty ≡ None))) (fact_i 𝓤 (empty ≡ None) (emp 𝓤) refl) $
    returns ! (look_at ! 0 refl) $ free_all ! refl $ keep ! (2 ∷ 3 ∷ 1 ∷ 0 ∷ []) $
    by ! (leaves 𝓛 En stays c z (single (ptr_val null_ptr)) (record { at = null_ptr; value = None }) tt tt)))
