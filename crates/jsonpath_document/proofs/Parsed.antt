-- What completes a document token by token is what the grammar reads.
use Rattle.std.proofs.Common.{◌≡◌, nat_lt, ℕ, zero, suc, ◌+◌, ◌<◌, ◌≤◌, Bool, true, false, ◌&&◌, List, [], ◌∷◌, length, Option, Some, None, option_map, option_and_then, refl, sym, ap, ◌∙◌, arith, if◌then◌else◌}
use Rattle.std.proofs.lemmas.Bool.{lt-ltb, le-ltb}
use Rattle.std.specs.Option.{is_some}
use Rattle.json.specs.Token.{Token}
use Rattle.json.specs.Lex.{tokens}
use Rattle.json.specs.Json as Json_of
use Rattle.json.specs.Json.{Json, Items, no_items, item, Members, no_members, member, array, object, Parse, parse_map, after_end_array, read_key, items_step, members_step, items, members, value_with, value, if_last}
use Rattle.json.proofs.Grammar.{left, skip_value-shorter, value_is}
use Rattle.serde_json.specs.Data as data_of
use Rattle.serde_json.specs.Read.{of_json, of_items, of_members, number_of, read}
use Rattle.jsonpath_document.specs.declared.reading.Level.{Level}
use Rattle.jsonpath_document.specs.declared.reading.Level.TheVariants.{Array, Object}
use Rattle.jsonpath_document.specs.Completes.{completes, if_standing}

-- ---- whether what was read is data

abbrev is_data : Json → Bool
is_data j = is_some (of_json j)

abbrev are_data : Items → Bool
are_data js = is_some (of_items js)

abbrev have_data : Members → Bool
have_data ms = is_some (of_members ms data_of.no_members)

abbrev finished : {A : Type 0} → (A → Bool) → List Level → Option (A × List Token) → Bool
finished good levels None = false
finished good levels (Some p) = good p.0 && completes p.1 false levels

is_some-map : {A B : Type 0} (f : A → B) (o : Option A) → is_some (option_map f o) ≡ is_some o
is_some-map f None = refl
is_some-map f (Some a) = refl

and-false : (b : Bool) → b && false ≡ false
and-false true = refl
and-false false = refl

finished-map : {A B : Type 0} (f : A → B) (good : A → Bool) (well : B → Bool) → ((a : A) → well (f a) ≡ good a)
    → (levels : List Level) (r : Option (A × List Token)) → finished well levels (parse_map f r) ≡ finished good levels r
finished-map f good well same levels None = refl
finished-map f good well same levels (Some p) = ap (λ b. b && completes p.1 false levels) (same p.0)

any_found : (ms : Members) (f g : data_of.Members) → is_some (of_members ms f) ≡ is_some (of_members ms g)
any_found no_members f g = refl
any_found (member k j ms) f g =
    elim (of_json j) as (λ o. is_some (option_and_then (λ d. of_members ms (data_of.put k d f)) o) ≡ is_some (option_and_then (λ d. of_members ms (data_of.put k d g)) o))
    [ None ↦ refl | Some d ↦ any_found ms (data_of.put k d f) (data_of.put k d g) ]

more_items : (o : Option data_of.Data) (p : Option data_of.Items) → is_some (option_and_then (λ d. option_map (data_of.item d) p) o) ≡ is_some o && is_some p
more_items None p = refl
more_items (Some d) p = is_some-map (data_of.item d) p

more_members : (k : List ℕ) (j : Json) (ms : Members) → have_data (member k j ms) ≡ is_data j && have_data ms
more_members k j ms =
    elim (of_json j) as (λ o. is_some (option_and_then (λ d. of_members ms (data_of.put k d data_of.no_members)) o) ≡ is_some o && have_data ms)
    [ None ↦ refl | Some d ↦ any_found ms (data_of.put k d data_of.no_members) data_of.no_members ]

and_assoc : (a b c : Bool) → (a && b) && c ≡ a && (b && c)
and_assoc true b c = refl
and_assoc false b c = refl

-- one more, and then the rest
pub one_more : {B : Type 0} (good : B → Bool) (f : Json → B → B) → ((j : Json) (b : B) → good (f j b) ≡ is_data j && good b)
    → (levels : List Level) (j : Json) (r : Option (B × List Token)) → is_data j && finished good levels r ≡ finished good levels (parse_map (f j) r)
one_more good f same levels j None = and-false (is_data j)
one_more good f same levels j (Some p) =
    sym (and_assoc (is_data j) (good p.0) (completes p.1 false levels)) ∙ ap (λ b. b && completes p.1 false levels) (sym (same j p.0))

abbrev Reads : ℕ → Type 0
Reads depth = (levels : List Level) (ts : List Token) → length levels + depth ≡ 127 → completes ts true levels ≡ finished is_data levels (value depth ts)

module _ (depth : ℕ) (reads : Reads depth) (level : Level) (levels : List Level) (deep : length (level ∷ levels) + depth ≡ 127) where
  rest_of : {B : Type 0} (good : B → Bool) (f : Json → B → B) → ((j : Json) (b : B) → good (f j b) ≡ is_data j && good b)
      → (more : Parse B) (n : ℕ) (ts : List Token) → length ts ≤ suc n
      → ((r : List Token) → length r ≤ n → completes r false (level ∷ levels) ≡ finished good levels (more r))
      → completes ts true (level ∷ levels) ≡ finished good levels (option_and_then (λ q. parse_map (f q.0) (more q.1)) (value depth ts))
  rest_of {B} good f same more n ts le again =
      let goal : Option (Json × List Token) → Type 0 = λ o. finished is_data (level ∷ levels) o ≡ finished good levels (option_and_then (λ q. parse_map (f q.0) (more q.1)) o) in
      let each : (o : Option (Json × List Token)) → value depth ts ≡ o → goal o =
      λ o. elim o as (λ o. value depth ts ≡ o → goal o) [
        | None ↦ λ e. refl
        | Some q ↦ λ e.
            let less : length q.1 < length ts = skip_value-shorter depth ts q.1 (ap left e) in
            ap (λ b. is_data q.0 && b) (again q.1 (omega arith)) ∙ one_more good f same levels q.0 (more q.1)
      ] in
      reads (level ∷ levels) ts deep ∙ each (value depth ts) refl

module _ (depth : ℕ) (reads : Reads depth) (levels : List Level) (deep : suc (length levels) + depth ≡ 127) where
  item_next : (n : ℕ) (ts : List Token) → length ts ≤ suc n
      → ((r : List Token) → length r ≤ n → completes r false (Array ∷ levels) ≡ finished are_data levels (items (value depth) n r))
      → completes ts true (Array ∷ levels) ≡ finished are_data levels (items_step (value depth) (items (value depth) n) ts None)
  item_next n ts le again =
      rest_of depth reads Array levels deep are_data item (λ j js. more_items (of_json j) (of_items js)) (items (value depth) n) n ts le again

  items_complete : (n : ℕ) (ts : List Token) → length ts ≤ n → completes ts false (Array ∷ levels) ≡ finished are_data levels (items (value depth) n ts)
  unfolding items completes
  items_complete zero [] le = refl
  items_complete zero (t ∷ ts) le = let never : ⊥ = omega arith in absurd never
  items_complete (suc n) [] le = item_next n [] le (items_complete n)
  items_complete (suc n) (Token.begin_object ∷ ts) le = item_next n (Token.begin_object ∷ ts) le (items_complete n)
  items_complete (suc n) (Token.end_object ∷ ts) le = item_next n (Token.end_object ∷ ts) le (items_complete n)
  items_complete (suc n) (Token.begin_array ∷ ts) le = item_next n (Token.begin_array ∷ ts) le (items_complete n)
  items_complete (suc n) (Token.end_array ∷ ts) le = refl
  items_complete (suc n) (Token.key s ∷ ts) le = item_next n (Token.key s ∷ ts) le (items_complete n)
  items_complete (suc n) (Token.string s ∷ ts) le = item_next n (Token.string s ∷ ts) le (items_complete n)
  items_complete (suc n) (Token.number s ∷ ts) le = item_next n (Token.number s ∷ ts) le (items_complete n)
  items_complete (suc n) (Token.boolean b ∷ ts) le = item_next n (Token.boolean b ∷ ts) le (items_complete n)
  items_complete (suc n) (Token.null ∷ ts) le = item_next n (Token.null ∷ ts) le (items_complete n)
  items_complete (suc n) (Token.bad ∷ ts) le = item_next n (Token.bad ∷ ts) le (items_complete n)

module _ (depth : ℕ) (reads : Reads depth) (levels : List Level) (deep : suc (length levels) + depth ≡ 127) where
  members_complete : (n : ℕ) (ts : List Token) → length ts ≤ n → completes ts false (Object ∷ levels) ≡ finished have_data levels (members (value depth) n ts)
  unfolding members completes
  members_complete zero [] le = refl
  members_complete zero (t ∷ ts) le = let never : ⊥ = omega arith in absurd never
  members_complete (suc n) [] le = refl
  members_complete (suc n) (Token.begin_object ∷ ts) le = refl
  members_complete (suc n) (Token.end_object ∷ ts) le = refl
  members_complete (suc n) (Token.begin_array ∷ ts) le = refl
  members_complete (suc n) (Token.end_array ∷ ts) le = refl
  members_complete (suc n) (Token.key k ∷ ts) le =
      rest_of depth reads Object levels deep have_data (member k) (more_members k) (members (value depth) n) n ts (omega arith) (members_complete n)
  members_complete (suc n) (Token.string s ∷ ts) le = refl
  members_complete (suc n) (Token.number s ∷ ts) le = refl
  members_complete (suc n) (Token.boolean b ∷ ts) le = refl
  members_complete (suc n) (Token.null ∷ ts) le = refl
  members_complete (suc n) (Token.bad ∷ ts) le = refl

-- ---- a value, by how deep it may go

abbrev good_number : List ℕ → List Level → List Token → Type 0
good_number s levels ts = completes (Token.number s ∷ ts) true levels ≡ finished is_data levels (Some (Json_of.number s, ts))

number_completes : (s : List ℕ) (levels : List Level) (ts : List Token) → good_number s levels ts
unfolding completes
number_completes s levels ts =
    elim (number_of s) as (λ o. if_standing (if is_some o then Some (false, levels) else None) (λ w l. completes ts w l) ≡ is_some (option_map data_of.number o) && completes ts false levels) [ None ↦ refl | Some d ↦ refl ]

module _ (levels : List Level) (ts : List Token) where
  too_deep : length levels + 0 ≡ 127 → nat_lt (length levels) 127 ≡ false
  too_deep deep = le-ltb _ _ (omega arith)

abbrev read_opened : ℕ → Type 0
read_opened depth = (levels : List Level) (ts : List Token) → length levels + depth ≡ 127
    → (completes (Token.begin_array ∷ ts) true levels ≡ finished is_data levels (value depth (Token.begin_array ∷ ts)))
    × (completes (Token.begin_object ∷ ts) true levels ≡ finished is_data levels (value depth (Token.begin_object ∷ ts)))

value_completes : (depth : ℕ) → read_opened depth → Reads depth
unfolding completes
value_completes depth more levels [] deep = rw (value_is depth []) refl
value_completes depth more levels (Token.begin_object ∷ ts) deep = (more levels ts deep).1
value_completes depth more levels (Token.end_object ∷ ts) deep = rw (value_is depth (Token.end_object ∷ ts)) refl
value_completes depth more levels (Token.begin_array ∷ ts) deep = (more levels ts deep).0
value_completes depth more levels (Token.end_array ∷ ts) deep = rw (value_is depth (Token.end_array ∷ ts)) refl
value_completes depth more levels (Token.key s ∷ ts) deep = rw (value_is depth (Token.key s ∷ ts)) refl
value_completes depth more levels (Token.string s ∷ ts) deep = rw (value_is depth (Token.string s ∷ ts)) refl
value_completes depth more levels (Token.number s ∷ ts) deep = rw (value_is depth (Token.number s ∷ ts)) (number_completes s levels ts)
value_completes depth more levels (Token.boolean b ∷ ts) deep = rw (value_is depth (Token.boolean b ∷ ts)) refl
value_completes depth more levels (Token.null ∷ ts) deep = rw (value_is depth (Token.null ∷ ts)) refl
value_completes depth more levels (Token.bad ∷ ts) deep = rw (value_is depth (Token.bad ∷ ts)) refl

reads : (depth : ℕ) → Reads depth
unfolding value completes
reads zero = value_completes zero (λ levels ts deep. (rw (too_deep levels ts deep) refl, rw (too_deep levels ts deep) refl))
reads (suc depth) = value_completes (suc depth) (λ levels ts deep.
    let within : nat_lt (length levels) 127 ≡ true = lt-ltb _ _ (omega arith) in
    let under : suc (length levels) + depth ≡ 127 = omega arith in (
      rw within (items_complete depth (reads depth) levels under (length ts) ts (omega arith) ∙ sym (finished-map array are_data is_data (λ js. is_some-map data_of.array (of_items js)) levels (items (value depth) (length ts) ts))),
      rw within (members_complete depth (reads depth) levels under (length ts) ts (omega arith) ∙ sym (finished-map object have_data is_data (λ ms. is_some-map data_of.object (of_members ms data_of.no_members)) levels (members (value depth) (length ts) ts))),
    ))

and-true : (b : Bool) → b && true ≡ b
and-true true = refl
and-true false = refl

last : (r : Option (Json × List Token)) → is_some (option_and_then of_json (option_and_then (λ p. if_last p.0 p.1) r)) ≡ finished is_data [] r
unfolding completes
last None = refl
last (Some (j, [])) = sym (and-true (is_data j))
last (Some (j, t ∷ ts)) = sym (and-false (is_data j))

-- a text is a document where its tokens complete one
pub read_completes : (text : List ℕ) → is_some (read text) ≡ completes (tokens text) true []
read_completes text = last (value 127 (tokens text)) ∙ sym (reads 127 [] (tokens text) (omega arith))
