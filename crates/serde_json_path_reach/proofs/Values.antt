-- Lists of values and of a map's entries, as data.
use Rattle.serde_json_path_reach.proofs.Words.{Entry, List, None, Null, Option, Some, Value, [], ap, arith, false, get_member, is_at, is_some, item, items_view, length, lookup, members_view, nat_cmp, no_items, null, option_map, refl, replicate, rules, slice_cmp, string_bytes, suc, sym, the_lemmas, true≢false, view, view-lookup, zero, ℕ, ◌++◌, ◌∙◌, ◌∷◌, ◌≡◌}
use Rattle.serde_json_path_reach.proofs.Reading.{nulls}
use Rattle.serde_json_path_reach.proofs.Tokens.{joined, joined-joined}

pub items_view-append : (vs ws : List Value) → items_view (vs ++ ws) ≡ joined (items_view vs) (items_view ws)
items_view-append [] ws = refl
items_view-append (v ∷ vs) ws = ap (item (view v)) (items_view-append vs ws)

pub view_null : view Null ≡ null
view_null = search (rules, the_lemmas)

pub items_view-nulls : (n : ℕ) → items_view (replicate n Null) ≡ nulls n
items_view-nulls zero = refl
items_view-nulls (suc n) = λ i. item (view_null i) (items_view-nulls n i)

pub pushed : (vs ws xs : List Value) (n : ℕ) (v : Value) → ws ≡ vs ++ replicate n Null → xs ≡ ws ++ v ∷ []
    → items_view xs ≡ joined (items_view vs) (joined (nulls n) (item (view v) no_items))
pushed vs ws xs n v some one =
    ap items_view (one ∙ ap (λ l. l ++ v ∷ []) some)
    ∙ items_view-append (vs ++ replicate n Null) (v ∷ [])
    ∙ ap (λ l. joined l (item (view v) no_items)) (items_view-append vs (replicate n Null) ∙ ap (joined (items_view vs)) (items_view-nulls n))
    ∙ joined-joined (items_view vs) (nulls n) (item (view v) no_items)

-- a name at which a map has nothing
pub no_member : (name : List ℕ) (es : List Entry) → is_some (lookup (is_at (λ k. slice_cmp nat_cmp name (string_bytes k))) es) ≡ false → get_member name (members_view es) ≡ None
no_member name es e = sym (view-lookup name es) ∙ ap (option_map view) (none_of _ e)
  where
    none_of : (o : Option Value) → is_some o ≡ false → o ≡ None
    none_of None h = refl
    none_of (Some v) h = absurd (true≢false h)

pub nil : {A : Type 0} (xs : List A) → length xs ≡ 0 → xs ≡ []
nil [] e = refl
nil (x ∷ xs) e = absurd (omega arith)
