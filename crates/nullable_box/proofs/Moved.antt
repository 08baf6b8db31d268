-- A function that moves what one pointer owns from a struct into another is proved once, for all structs. Assumes `Logic`.
use Rattle.nullable_box.proofs.Words.{◌≡◌, List, [], ◌∷◌, ◌++◌, refl, sym, ap, Option, Ura, Sym, Fn, Callee, copy, place, field, local, value_local, assign, rv_opd, aggregate, seq, return, ty_ptr, ty_struct, tcons, tnil, Val, SProp, emp, Fml, ftrue, fsep, Model, WpFn, Closed, Logic, ‵, raw, ◌⊛◌, ◌$◌, ◌∵◌, !, qed, by, regoal, prop, keep, drop, split, fsplit, fjoin, rewrite, use0, stop, fld, of_opd, no_more, and_then, returns, enter, alloc_all, pass_all, free_all, look_at, get, get_in, sets, agg, sub, whole, fact, fact_i, Running, MachineTables, tables, yes, Last, left, rest, RattleType, owns, Ptr, ptr_val, types_at, plain, nothing, Ended, Clauses, closing, Meets, Stays, stay_dropped, walk_of, Goes-dropped, proved_at, leaves, held, lent}
use Rattle.nullable_box.specs.contracts.nullable_box.NullableBox as boxes
use Rattle.nullable_box.specs.contracts.nullable_ref.NullableRef as refs
use Rattle.nullable_box.proofs.Owners.{single, OnePtr, pointer_good, single_good, owner_in, owner_out}

-- A struct of one pointer, of which F says what it owns beside that. Of a struct that is written out each equation is `refl`.
pub record Owner {D : Type 0} (F : Ptr → Option D → Fml) : Type 1 where
  pub name : Sym
  pub row : RattleType
  pub at : row.Denot → Ptr
  pub value : row.Denot → Option D
  pub make : Ptr → Option D → row.Denot
  pub owned : (d : row.Denot) (vs : List Val) → row.own_val d vs ≡ fsep (OnePtr.own_val (at d, tt) vs) (F (at d) (value d))
  pub made : (p : Ptr) (v : Option D) (vs : List Val) → row.own_val (make p v) vs ≡ fsep (OnePtr.own_val (p, tt) vs) (F p v)
  pub valued : (p : Ptr) (v : Option D) → value (make p v) ≡ v
  pub silent : (d : row.Denot) (f : Last (row.exit yes) d) → left (row.exit yes) d f ≡ ftrue

abbrev pub nullable_box : (R : RattleType) → Owner (held R)
nullable_box R = record {
  name = (boxes.the_type R).name;
  row = boxes.the_row R;
  at = λ d. d.at;
  value = λ d. d.value;
  make = λ p v. record { at = p; value = v };
  owned = λ d vs. refl;
  made = λ p v vs. refl;
  valued = λ p v. refl;
  silent = λ d f. refl;
}

abbrev pub nullable_ref : (R : RattleType) → Owner (lent R)
nullable_ref R = record {
  name = (refs.the_type R).name;
  row = refs.the_row R;
  at = λ d. d.at;
  value = λ d. d.value;
  make = λ p v. record { at = p; value = v };
  owned = λ d vs. refl;
  made = λ p v vs. refl;
  valued = λ p v. refl;
  silent = λ d f. refl;
}

module _ (name name' : Sym) where
  -- the pointer is taken out of the one struct, and put into the other
  abbrev pub moving : Fn
  moving = record {
    lifetimes = 0;
    outlives = [];
    ty_params = [];
    givens = 0;
    params = 1;
    locals = local (ty_struct name' (tcons ty_ptr tnil)) value_local ∷ local (ty_struct name (tcons ty_ptr tnil)) value_local
        ∷ local ty_ptr value_local ∷ local ty_ptr value_local ∷ [];
    body = seq (assign (place 2 []) (rv_opd (copy (place 1 (field 0 ∷ []))))) (seq (assign (place 3 []) (rv_opd (copy (place 2 []))))
        (seq (assign (place 0 []) (aggregate (copy (place 3 []) ∷ []))) return));
  }

module _ {D : Type 0} {F : Ptr → Option D → Fml} (P Q : Owner F) where
  abbrev ended : Ended
  ended = record { signature = record { lifetimes = 0; outlives = []; params = plain (λ _. P.row) ∷ []; result = plain (λ _. Q.row) }; kept = (yes, tt) }

  abbrev stays : Stays ended.signature.params ended.kept
  stays = (stay_dropped (plain (λ _. P.row)) yes, tt)

  module _ {M : Type 1} (𝓤 : Ura M) where
    -- the value is the same
    abbrev clauses : Clauses 𝓤 ended
    clauses κs a = record { ghost = Unit {0}; requires = λ _. emp 𝓤; ensures = λ _ r _. fact 𝓤 (Q.value r ≡ P.value a.0) }

    module _ (𝓛 : Logic 𝓤) (𝓜 : Model 𝓤 𝓛.H) (𝓡 : Running 𝓤 𝓛.H 𝓜) where
      abbrev 𝓣 : MachineTables 𝓤 𝓛.H 𝓜
      𝓣 = tables 𝓤 𝓛.H 𝓜 𝓡 𝓡.env

      pub moved : (key : Callee) → Closed 𝓤 𝓛.H 𝓣.C 𝓣.Λ key (moving P.name Q.name) → Meets 𝓛 ended.signature (𝓣.C key) (closing 𝓛 ended clauses)
      moved key closed =
          let fn = moving P.name Q.name in
          proved_at 𝓛 ended stays clauses 𝓜 𝓡 (Goes-dropped 𝓛 0 (plain (λ _. P.row)) yes (λ κs d f. P.silent d f), tt) key fn closed (λ z are.
          let d = z.0.3.0 in
          let p = P.at d in
          let v = P.value d in
          let w : Val = single (ptr_val p) in
          let Post : Val → SProp 𝓤 = (walk_of 𝓛 ended stays clauses).post z in
          qed 𝓛 ((‵ ftrue ⊛ ‵ (owns (types_at ended.signature.params tt) z.0.3 z.0.4)) ∷ raw (emp 𝓤) ∷ []) ∵ split ! $ drop ! $ fsplit ! $
          rewrite ! 0 (λ (F : Fml). ‵ F) (P.owned d z.0.4.0) refl $ owner_out ! p (F p v) z.0.4.0 (λ word.
          regoal ! (λ us. prop (WpFn 𝓤 𝓛.H 𝓣.C 𝓣.Λ fn us Post)) (ap (λ us. us ++ []) word) refl $
          enter ! 𝓣.C 𝓣.Λ fn (w ∷ []) Post $ alloc_all ! (λ l. pass_all ! refl (single_good p, tt) $
          sets ! (of_opd ! (get_in ! (fld ! refl (stop !)) (sub ! 0 refl (whole !)))) refl (pointer_good p) $
          sets ! (of_opd ! (get ! refl)) refl (pointer_good p) $
          sets ! (agg ! (and_then ! (get ! refl) (no_more !))) refl (single_good p) $
          owner_in ! p (F p v) $ rewrite ! 0 (λ (F : Fml). ‵ F) (sym (Q.made p v (w ∷ []))) refl $
          use0 𝓛 (raw (fact 𝓤 (Q.value (Q.make p v) ≡ v))) (fact_i 𝓤 (Q.value (Q.make p v) ≡ v) (emp 𝓤) (Q.valued p v)) $
          nothing ! $ nothing ! $ fjoin ! $ nothing ! $
          returns ! (look_at ! 0 refl) $ free_all ! refl $ keep ! (0 ∷ 1 ∷ 3 ∷ 2 ∷ []) $
          by ! (leaves 𝓛 ended stays clauses z w (Q.make p v) (rest (P.row.exit yes) d, tt) (tt, tt)))))
