use Rattle.serde_json_path_core.proofs.Words.{◌≡◌, List, [], ◌∷◌, Option, Some, None, pos, true, refl, sym, subst, ◌∙◌, String, number_view, view_step, map-Value, out-Value, fold_out-Value, Num, float, document_number, literal_number, all_numbers, Data, null, boolean, number, string, array, object, Items, no_items, item, Members, no_members, member, Value, view, items_view, members_view, Compared, nothing, billionths, AreEqual, EqualData, EqualItems, EqualMembers, is_valid, num_of, N, PosInt, NegInt, Value-F, equality, all_finite, IsFinite, arith, nat_tests, common_steps}
use Rattle.std.specs.declared.alloc.Global.{Global}
use Rattle.serde_json.specs.declared.number.N.TheVariants.{Float as Double}
use Rattle.serde_json_path_core.specs.Compared.{value}
use Rattle.serde_json_path_core.proofs.laws.law_equality_is_an_equivalence.Goals as goal

-- ---- what a document holds equals itself

-- the data is that of a value
abbrev IsOfValue : Data → Type 0
IsOfValue d = (v : Value) × (view v ≡ d)

abbrev AreOfValues : Items → Type 0
AreOfValues xs = (vs : List Value) × (items_view vs ≡ xs)

abbrev AreOfEntries : Members → Type 0
AreOfEntries ms = (es : List (String Global × Value)) × (members_view es ≡ ms)

finite_held : (x : N) → is_valid x ≡ true → IsFinite (document_number (num_of x))
finite_held (PosInt k) h = all_finite.integers (pos k)
finite_held (NegInt z) h = all_finite.integers z
finite_held (Double x) h = h

number_in : (layer : Value-F Value) (n : Num) → view_step (map-Value Value Data view layer) ≡ number n → IsFinite (document_number n)
number_in layer n h = grind (arith, nat_tests, common_steps, finite_held)

items_in : (layer : Value-F Value) (xs : Items) → view_step (map-Value Value Data view layer) ≡ array xs → AreOfValues xs
items_in layer xs h = grind (arith, nat_tests, common_steps)

members_in : (layer : Value-F Value) (ms : Members) → view_step (map-Value Value Data view layer) ≡ object ms → AreOfEntries ms
members_in (Value-F.Object members) ms h = (members.entries, cc)
members_in _ ms h = absurd cc

layer_of : (v : Value) (d : Data) → view v ≡ d → view_step (map-Value Value Data view (out-Value v)) ≡ d
layer_of v d h = sym (fold_out-Value Data view_step v) ∙ h

mutual
  itself : (d : Data) → IsOfValue d → EqualData all_numbers d d
  itself null h = tt
  itself (boolean b) h = refl
  itself (number n) h = equality.reflexive (document_number n) (number_in (out-Value h.0) n (layer_of h.0 (number n) h.1))
  itself (string t) h = refl
  itself (array xs) h = items_themselves xs (items_in (out-Value h.0) xs (layer_of h.0 (array xs) h.1))
  itself (object ms) h = members_themselves ms (members_in (out-Value h.0) ms (layer_of h.0 (object ms) h.1))

  items_themselves : (xs : Items) → AreOfValues xs → EqualItems all_numbers xs xs
  items_themselves (item d xs) (v ∷ vs, e) = (itself d (v, cc), items_themselves xs (vs, cc))
  items_themselves xs h = grind (arith, nat_tests, common_steps)

  members_themselves : (ms : Members) → AreOfEntries ms → EqualMembers all_numbers ms ms
  members_themselves (member k d ms) (e ∷ es, h) = (refl, itself d (e.1, cc), members_themselves ms (es, cc))
  members_themselves ms h = grind (arith, nat_tests, common_steps)

-- ---- equal values are equal either way round, and the first equals what the second does

mutual
  data_equal : (a b c : Data) → EqualData all_numbers a b → EqualData all_numbers b a × (EqualData all_numbers b c → EqualData all_numbers a c)
  data_equal null null c h = (tt, λ g. g)
  data_equal (boolean a) (boolean b) c h = (sym h, subst (λ x. EqualData all_numbers (boolean x) c) (sym h))
  data_equal (string a) (string b) c h = (sym h, subst (λ x. EqualData all_numbers (string x) c) (sym h))
  data_equal (number a) (number b) (number c) h =
      (equality.symmetric (document_number a) (document_number b) h, equality.transitive (document_number a) (document_number b) (document_number c) h)
  data_equal (number a) (number b) _ h = (equality.symmetric (document_number a) (document_number b) h, λ g. absurd g)
  data_equal (array xs) (array ys) (array zs) h = items_equal xs ys zs h
  data_equal (array xs) (array ys) _ h = ((items_equal xs ys no_items h).0, λ g. absurd g)
  data_equal (object xs) (object ys) (object zs) h = members_equal xs ys zs h
  data_equal (object xs) (object ys) _ h = ((members_equal xs ys no_members h).0, λ g. absurd g)
  data_equal _ _ c h = absurd h

  items_equal : (xs ys zs : Items) → EqualItems all_numbers xs ys → EqualItems all_numbers ys xs × (EqualItems all_numbers ys zs → EqualItems all_numbers xs zs)
  items_equal (item a xs) (item b ys) no_items h = (((data_equal a b null h.0).0, (items_equal xs ys no_items h.1).0), λ g. absurd g)
  items_equal (item a xs) (item b ys) (item c zs) h =
      let first = data_equal a b c h.0 in
      let more = items_equal xs ys zs h.1 in ((first.0, more.0), λ g. (first.1 g.0, more.1 g.1))
  items_equal xs ys zs h = grind (arith, nat_tests, common_steps)

  members_equal : (xs ys zs : Members) → EqualMembers all_numbers xs ys → EqualMembers all_numbers ys xs × (EqualMembers all_numbers ys zs → EqualMembers all_numbers xs zs)
  members_equal (member k a xs) (member l b ys) no_members h = ((sym h.0, (data_equal a b null h.1).0, (members_equal xs ys no_members h.2).0), λ g. absurd g)
  members_equal (member k a xs) (member l b ys) (member m c zs) h =
      let first = data_equal a b c h.1 in
      let more = members_equal xs ys zs h.2 in ((sym h.0, first.0, more.0), λ g. (h.0 ∙ g.0, first.1 g.1, more.1 g.2))
  members_equal xs ys zs h = grind (arith, nat_tests, common_steps)

-- ---- sides: a number literal is as the value of its exact number

abbrev as_value : Compared → Option Data
as_value nothing = None
as_value (value d) = Some d
as_value (billionths amount) = Some (number (float (literal_number amount)))

abbrev EqualValues : Option Data → Option Data → Type 0
EqualValues None None = Unit {0}
EqualValues (Some a) (Some b) = EqualData all_numbers a b
EqualValues _ _ = ⊥

-- so two sides are equal exactly where their values are
by_values : (x y : Compared) → ◌≡◌ {A = Type 0} (AreEqual all_numbers x y) (EqualValues (as_value x) (as_value y))
by_values x y = grind (arith, nat_tests, common_steps)

values_equal : (a b c : Option Data) → EqualValues a b → EqualValues b a × (EqualValues b c → EqualValues a c)
values_equal None None c h = (tt, λ g. g)
values_equal (Some a) (Some b) None h = ((data_equal a b null h).0, λ g. absurd g)
values_equal (Some a) (Some b) (Some c) h = data_equal a b c h
values_equal _ _ c h = absurd h

pub returns : goal.returns
returns c = record {
  documents = λ document. itself (view document) (document, refl);
  literals = λ amount range. equality.reflexive (literal_number amount) (all_finite.literals amount range);
  nothings = tt;
  symmetric = λ a b. rw (by_values a b, by_values b a) (λ h. (values_equal (as_value a) (as_value b) None h).0);
  transitive = λ a b c. rw (by_values a b, by_values b c, by_values a c) (λ h. (values_equal (as_value a) (as_value b) (as_value c) h).1);
}
