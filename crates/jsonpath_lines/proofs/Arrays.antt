-- The array of nodes, written item by item, is its JSON.
use Rattle.jsonpath_lines.proofs.Words.{nat_tests, common_steps, ◌≡◌, ℕ, suc, ◌≤◌, max, Bool, true, false, fold, List, [], ◌∷◌, ◌++◌, codes, Option, Some, option_map, refl, sym, ap, ap₂, subst, ◌∙◌, arith, append_assoc, append-nil, option_and_then, Token, end_object, tokens, ArePrintable, ArePrintableOrBad, ends, escape_byte, print, print_from, json_tokens, items_tokens, members_tokens, HasNumbers, ItemsHaveNumbers, print_from-append, tokens-print, ArePrintable-json_tokens, value-json_tokens, Data, Items, Members, array, object, no_items, item, no_members, member, depth, items_depth, members_depth, read, of_json, of_items, max_depth, blank, blank_items, blank_members, comma_if, outline, items_outline, members_outline, print-outline, tokens_from_order, Located, IsJsonOf, IsJsonIn, array_of, items_of, object_of, ArePiecesIn, IsLaidOut, IsPrintedOf, path_string, Json, Layout, Output, fold-append, ArePrintableOrBad-tokens, value-HasNumbers, normal}
use Rattle.json.specs.Json as json
use Rattle.json.specs.Tree as tree

-- ---- trees of JSON

-- the tokens of a value leave a value just ended
mutual
  ended : (b : Bool) (j : json.Json) → fold (λ _ u. ends u) b (json_tokens j) ≡ true
  ended b (json.array js) = items_ended false js
  ended b (json.object ms) = members_ended false ms
  ended b _ = refl

  items_ended : (b : Bool) (js : json.Items) → fold (λ _ u. ends u) b (items_tokens js) ≡ true
  items_ended b json.no_items = refl
  items_ended b (json.item j js) = fold-append (λ _ u. ends u) b (json_tokens j) (items_tokens js) ∙ items_ended _ js

  members_ended : (b : Bool) (ms : json.Members) → fold (λ _ u. ends u) b (members_tokens ms) ≡ true
  members_ended b json.no_members = refl
  members_ended b (json.member k j ms) = fold-append (λ _ u. ends u) false (json_tokens j) (members_tokens ms) ∙ members_ended _ ms

-- a tree without the texts of its floats nests as deep
mutual
  depth_blank : (j : json.Json) → tree.depth (blank j) ≡ tree.depth j
  depth_blank (json.array js) = ap suc (items_depth_blank js)
  depth_blank (json.object ms) = ap suc (members_depth_blank ms)
  depth_blank _ = refl

  items_depth_blank : (js : json.Items) → tree.items_depth (blank_items js) ≡ tree.items_depth js
  items_depth_blank json.no_items = refl
  items_depth_blank (json.item j js) = ap₂ max (depth_blank j) (items_depth_blank js)

  members_depth_blank : (ms : json.Members) → tree.members_depth (blank_members ms) ≡ tree.members_depth ms
  members_depth_blank json.no_members = refl
  members_depth_blank (json.member k j ms) = ap₂ max (depth_blank j) (members_depth_blank ms)

mutual
  depth_outline : (d : Data) → tree.depth (outline d) ≡ depth d
  depth_outline (array ds) = ap suc (items_depth_outline ds)
  depth_outline (object ms) = ap suc (members_depth_outline ms)
  depth_outline _ = refl

  items_depth_outline : (ds : Items) → tree.items_depth (items_outline ds) ≡ items_depth ds
  items_depth_outline no_items = refl
  items_depth_outline (item d ds) = ap₂ max (depth_outline d) (items_depth_outline ds)

  members_depth_outline : (ms : Members) → tree.members_depth (members_outline ms) ≡ members_depth ms
  members_depth_outline no_members = refl
  members_depth_outline (member k d ms) = ap₂ max (depth_outline d) (members_depth_outline ms)

same_depth : (j : json.Json) (d : Data) → blank j ≡ outline d → tree.depth j ≡ depth d
same_depth j d same = sym (depth_blank j) ∙ ap tree.depth same ∙ depth_outline d

-- ---- texts whose tokens are those of a tree

abbrev whole : Option (json.Json × List Token) → Option Data
whole o = option_and_then of_json (option_and_then (λ p. json.if_last p.0 p.1) o)

-- what the text reads as is what its tree is
pub read_tree : (text : List ℕ) (j : json.Json) (d : Data) → tokens text ≡ json_tokens j → blank j ≡ outline d → depth d ≤ max_depth → read text ≡ of_json j
read_tree text j d same order shallow =
    let nests : tree.depth j ≤ max_depth = subst (λ n. n ≤ max_depth) (sym (same_depth j d order)) shallow in
    ap whole (ap (json.value max_depth) (same ∙ sym (append-nil (json_tokens j))) ∙ value-json_tokens j max_depth [] nests)

-- each number of the tree is one
tree_numbers : (text : List ℕ) (j : json.Json) → tokens text ≡ json_tokens j → HasNumbers j
tree_numbers text j same =
    value-HasNumbers (tree.depth j) (json_tokens j ++ []) [] j (subst ArePrintableOrBad (same ∙ sym (append-nil (json_tokens j))) (ArePrintableOrBad-tokens text)) (value-json_tokens j (tree.depth j) [] (omega arith))

-- a value in one line, and tokens after it
print_value : (text : List ℕ) (j : json.Json) (ts : List Token) → text ≡ print (json_tokens j) → print_from false (json_tokens j ++ ts) ≡ text ++ print_from true ts
print_value text j ts same = grind (arith, nat_tests, common_steps, print_from-append, ended)

-- ---- a node as an object

abbrev object_tree : Located → json.Json → json.Json
object_tree n j = json.object (json.member (codes "path") (json.string (normal n.location)) (json.member (codes "value") j json.no_members))

regroup : (a p b j c rest : List ℕ) → a ++ (p ++ (b ++ (j ++ (c ++ rest)))) ≡ (a ++ (p ++ (b ++ (j ++ c)))) ++ rest
regroup a p b j c rest = grind (arith, nat_tests, common_steps)

print_end : (text : List ℕ) (j : json.Json) (ts : List Token) → text ≡ print (json_tokens j) → print_from false ((json_tokens j ++ end_object ∷ []) ++ ts) ≡ text ++ (codes "}" ++ print_from true ts)
unfolding print_from
print_end text j ts same = ap (print_from false) (append_assoc (json_tokens j) (end_object ∷ []) ts) ∙ print_value text j (end_object ∷ ts) same

print_begun : (later : Bool) (n : Located) (j : json.Json) (ts : List Token)
    → print_from later (json_tokens (object_tree n j) ++ ts) ≡ comma_if later ++ (codes "{\"path\":" ++ (path_string n ++ (codes ",\"value\":" ++ print_from false ((json_tokens j ++ end_object ∷ []) ++ ts))))
unfolding print_from escape_byte
print_begun later n j ts = grind (arith, nat_tests, common_steps)

print_item : (later : Bool) (n : Located) (text it : List ℕ) (j : json.Json) (ts : List Token) → text ≡ print (json_tokens j)
    → it ≡ codes "{\"path\":" ++ (path_string n ++ (codes ",\"value\":" ++ (text ++ codes "}"))) → print_from later (json_tokens (object_tree n j) ++ ts) ≡ comma_if later ++ (it ++ print_from true ts)
print_item later n text it j ts same is = grind (arith, nat_tests, common_steps, regroup, print_end, print_begun)

-- ---- all nodes

trees : (output : Output) (head : List ℕ) (later : Bool) (ns : List Located) (pieces : List ℕ) → ArePiecesIn Json output head later ns pieces → json.Items
trees output head later [] pieces h = json.no_items
trees output head later (n ∷ ns) pieces h = json.item (object_tree n h.2.1.1.1.0) (trees output head true ns h.1 h.3)

print_items : (output : Output) (head : List ℕ) (later : Bool) (ns : List Located) (pieces : List ℕ) (h : ArePiecesIn Json output head later ns pieces)
    → print_from later (items_tokens (trees output head later ns pieces h)) ≡ pieces ++ codes "]"
unfolding trees print_from
print_items output head true [] pieces h = sym (ap (λ (t : List ℕ). t ++ codes "]") h)
print_items output head false [] pieces h = sym (ap (λ (t : List ℕ). t ++ codes "]") h)
print_items output head later (n ∷ ns) pieces h =
    let is = h.2.1.1 in
    let rest = trees output head true ns h.1 h.3 in
    print_item later n h.2.1.0 h.2.0 is.1.0 (items_tokens rest) (is.0 ∙ ap print is.1.1) h.2.1.2
    ∙ ap (λ (t : List ℕ). comma_if later ++ (h.2.0 ++ t)) (print_items output head true ns h.1 h.3)
    ∙ sym (ap (λ (t : List ℕ). t ++ codes "]") (h.4 ∙ ap (λ (t : List ℕ). t ++ h.1) h.2.2) ∙ append_assoc (comma_if later ++ h.2.0) h.1 (codes "]") ∙ append_assoc (comma_if later) h.2.0 (h.1 ++ codes "]"))

items_numbers : (output : Output) (head : List ℕ) (later : Bool) (ns : List Located) (pieces : List ℕ) (h : ArePiecesIn Json output head later ns pieces) → ItemsHaveNumbers (trees output head later ns pieces h)
unfolding trees
items_numbers output head later [] pieces h = tt
items_numbers output head later (n ∷ ns) pieces h = ((tt, (tree_numbers h.2.1.0 h.2.1.1.1.0 h.2.1.1.1.1, tt)), items_numbers output head true ns h.1 h.3)

items_in_order : (output : Output) (head : List ℕ) (later : Bool) (ns : List Located) (pieces : List ℕ) (h : ArePiecesIn Json output head later ns pieces) → blank_items (trees output head later ns pieces h) ≡ items_outline (items_of ns)
unfolding trees
items_in_order output head later [] pieces h = refl
items_in_order output head later (n ∷ ns) pieces h = ap₂ (λ j js. json.item (object_tree n j) js) h.2.1.1.1.2 (items_in_order output head true ns h.1 h.3)

object_read : (n : Located) (j : json.Json) → of_json j ≡ Some n.value → of_json (object_tree n j) ≡ Some (object_of n)
object_read n j is = grind (arith, nat_tests, common_steps)

item_read : (n : Located) (text : List ℕ) (is : IsPrintedOf n.value text) → depth n.value ≤ max_depth → of_json (object_tree n is.1.0) ≡ Some (object_of n)
item_read n text is shallow = object_read n is.1.0 (sym (read_tree text is.1.0 n.value is.1.1 is.1.2 shallow) ∙ is.2 shallow)

items_read : (output : Output) (head : List ℕ) (later : Bool) (ns : List Located) (pieces : List ℕ) (h : ArePiecesIn Json output head later ns pieces) → items_depth (items_of ns) ≤ max_depth
    → of_items (trees output head later ns pieces h) ≡ Some (items_of ns)
unfolding trees
items_read output head later [] pieces h shallow = refl
items_read output head later (n ∷ ns) pieces h shallow =
    let first : depth n.value ≤ max_depth = omega arith in
    let others : items_depth (items_of ns) ≤ max_depth = omega arith in
    ap₂ (λ (one : Option Data) (more : Option Items). option_and_then (λ d. option_map (item d) more) one) (item_read n h.2.1.0 h.2.1.1 first) (items_read output head true ns h.1 h.3 others)

-- ---- the array

array_printed : (output : Output) (head : List ℕ) (ns : List Located) (pieces text : List ℕ) (h : ArePiecesIn Json output head false ns pieces) → text ≡ (codes "[" ++ pieces) ++ codes "]"
    → text ≡ print (json_tokens (json.array (trees output head false ns pieces h)))
unfolding print_from
array_printed output head ns pieces text h is = grind (arith, nat_tests, common_steps, print_items)

array_tokens : (output : Output) (head : List ℕ) (ns : List Located) (pieces text : List ℕ) (h : ArePiecesIn Json output head false ns pieces) → text ≡ (codes "[" ++ pieces) ++ codes "]"
    → tokens text ≡ json_tokens (json.array (trees output head false ns pieces h))
array_tokens output head ns pieces text h is =
    let j = json.array (trees output head false ns pieces h) in
    ap tokens (array_printed output head ns pieces text h is) ∙ tokens-print (json_tokens j) (ArePrintable-json_tokens j (items_numbers output head false ns pieces h))

-- the items of all nodes in brackets are JSON of the array
pub array_is : (output : Output) (head : List ℕ) (ns : List Located) (pieces text : List ℕ) → ArePiecesIn Json output head false ns pieces → text ≡ (codes "[" ++ pieces) ++ codes "]" → IsPrintedOf (array_of ns) text
array_is output head ns pieces text h is =
    let j = json.array (trees output head false ns pieces h) in
    let same : tokens text ≡ json_tokens j = array_tokens output head ns pieces text h is in
    let order : blank j ≡ outline (array_of ns) = ap json.array (items_in_order output head false ns pieces h) in (
      array_printed output head ns pieces text h is ∙ ap print (sym same),
      (j, same, order),
      λ shallow. read_tree text j (array_of ns) same order shallow ∙ ap (option_map array) (items_read output head false ns pieces h (omega arith)),
    )

-- and each of its tokens can be written
pub array_printable : (output : Output) (head : List ℕ) (ns : List Located) (pieces text : List ℕ) → ArePiecesIn Json output head false ns pieces → text ≡ (codes "[" ++ pieces) ++ codes "]" → ArePrintable (tokens text)
array_printable output head ns pieces text h is =
    let j = json.array (trees output head false ns pieces h) in
    subst ArePrintable (sym (array_tokens output head ns pieces text h is)) (ArePrintable-json_tokens j (items_numbers output head false ns pieces h))

-- ---- layouts

pub json_of_printed : (d : Data) (text : List ℕ) → IsPrintedOf d text → IsJsonOf d text
json_of_printed d text is = (λ exact. is.0 ∙ ap print (tokens_from_order text d is.1 exact) ∙ print-outline d, is.2, λ float. (is.0, is.1))

-- JSON in one line, laid out, is JSON in the layout
pub json_laid_out : (layout : Layout) (d : Data) (text laid : List ℕ) → IsPrintedOf d text → IsLaidOut layout text laid → IsJsonIn layout d laid
json_laid_out layout d text laid is same = grind (arith, nat_tests, common_steps, json_of_printed)
