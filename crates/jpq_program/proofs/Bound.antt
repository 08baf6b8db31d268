-- Paths with values in them.
use Rattle.jpq_program.proofs.Words.{◌≡◌, ◌∙◌, ◌++◌, ◌∷◌, List, ℕ, [], ap, map, map-append, refl, sym, Bor, IsBound, JsonPath, Options, Reading, path_tree, reading_in, rule_in, value_pairs}
use Rattle.jpq_program.specs.Bindings.{binding_in}
use Rattle.jpq_program.specs.declared.bindings.NamedValue.{NamedValue}
use Rattle.serde_json_path_functions.specs.Functions.{Numbers, Signature}
use Rattle.serde_json_path_parser.specs.Parse.{ParsedQuery}
use Rattle.serde_json_path_syntax.proofs.Bound.{same_bound}
use Rattle.serde_json_path_syntax.specs.Bound.{bound, value_in}
use Rattle.serde_json_path_syntax.specs.Tree.{Query}
use Rattle.serde_json_path.specs.Paths.{path_rule, path_signatures}
use Rattle.std.proofs.lemmas.List.{reverse-append}
use Rattle.std.specs.Prelude.{reverse}

-- what is made of each of some, the last one first
pub map_reverse : {A B : Type 0} (f : A → B) (xs : List A) → map f (reverse xs) ≡ reverse (map f xs)
map_reverse f [] = refl
map_reverse {A} {B} f (x ∷ xs) =
    ap (map f) (reverse-append (x ∷ []) xs) ∙ map-append f (reverse xs) (x ∷ [])
    ∙ ap (λ (firsts : List B). firsts ++ f x ∷ []) (map_reverse f xs) ∙ sym (reverse-append (f x ∷ []) (map f xs))

-- a copy with this tree
bound_as : (bindings : List (List ℕ × List ℕ)) (plain path : JsonPath) → path_tree path ≡ bound (value_in bindings) (path_tree plain) → path_signatures path ≡ path_signatures plain → path_rule path ≡ path_rule plain
    → IsBound bindings plain path
bound_as bindings plain path tree used rule =
    ap (λ (t : Query). let view : ParsedQuery = record { tree = t; signatures = path_signatures path; rule = path_rule path } in view) tree
    ∙ ap (λ (s : List (List ℕ × Signature)). let view : ParsedQuery = record { tree = bound (value_in bindings) (path_tree plain); signatures = s; rule = path_rule path } in view) used
    ∙ ap (λ (r : Numbers). let view : ParsedQuery = record { tree = bound (value_in bindings) (path_tree plain); signatures = path_signatures plain; rule = r } in view) rule

-- where there are no values, a path stays as it is
pub unbound : (bindings : List (List ℕ × List ℕ)) (path : JsonPath) → bindings ≡ [] → IsBound bindings path path
unbound bindings path none = bound_as bindings path path (sym (same_bound (value_in bindings) (λ t. ap (λ (b : List (List ℕ × List ℕ)). value_in b t) none) (path_tree path))) refl refl

-- what words bind, in whichever way it is made of them
words_bound : (words : List (Bor (List ℕ))) → map (λ (word : Bor (List ℕ)). binding_in word.now) words ≡ map binding_in (map (λ (word : Bor (List ℕ)). word.now) words)
words_bound [] = refl
words_bound (word ∷ words) = ap (λ (rest : List (List ℕ × List ℕ)). binding_in word.now ∷ rest) (words_bound words)

-- paths are read as options ask for it
pub reading_is : (options : Options) (numbers : Numbers) (bindings : List (List ℕ × List ℕ)) (values listed : List NamedValue) (words : List (Bor (List ℕ))) → numbers ≡ rule_in options → bindings ≡ reverse (value_pairs listed) → listed ≡ values
    → value_pairs values ≡ map (λ (word : Bor (List ℕ)). binding_in word.now) words → words ≡ options.bindings.items
    → (let reading : Reading = record { numbers = numbers; bindings = bindings } in reading) ≡ reading_in options
reading_is options numbers bindings values listed words rule bound same are given =
    ap (λ (n : Numbers). let reading : Reading = record { numbers = n; bindings = bindings } in reading) rule
    ∙ ap (λ (b : List (List ℕ × List ℕ)). let reading : Reading = record { numbers = rule_in options; bindings = b } in reading)
    (bound ∙ ap reverse (ap value_pairs same ∙ are ∙ words_bound words ∙ ap (λ (all : List (Bor (List ℕ))). map binding_in (map (λ (word : Bor (List ℕ)). word.now) all)) given))
