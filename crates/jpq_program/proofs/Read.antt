-- What is shown of what was read of a document is what is shown of the document.
use Rattle.jpq_program.proofs.Words.{◌≡◌, ◌∙◌, ◌<◌, ℕ, Bool, true, false, List, [], ◌∷◌, ◌++◌, Option, None, Some, length, map, refl, sym, ap, subst, inl, inr, suc, get_or, AreShownAs, AskedPath, Documents, ReadsForPaths, Data, Form, Count, Nothing, Location, Pointer, IsIn, IsLine, IsLook, ArePieces, IsObject, IsPiece, IsSeenIn, Json, is_array, Look, AreLines, AreShown, IsCountIn, MatchBool, escaped, has_escapes, indented, look_of, with_most, asked_look, cell_look, is_table, IsReadIn, JsonPath, Located, Output, AreLinesIn, Query, ShowsAs, Step, chosen, first_places, first_places_after, is_among, map-append, path_tree, shows_places, take-map, up_to, with_rule_of, length-map, arith, Layout, IsText, normal, pointer, has_nodes, decimal, end_text, take, zero, if◌then◌else◌}

abbrev places_of : List Located → List (List Step)
places_of nodes = map (λ node. node.location) nodes

-- ---- lists with the same locations

head_same : {A : Type 0} (x y : A) (xs ys : List A) → (x ∷ xs) ≡ (y ∷ ys) → x ≡ y
head_same x y xs ys same = cc

tail_same : {A : Type 0} (x y : A) (xs ys : List A) → (x ∷ xs) ≡ (y ∷ ys) → xs ≡ ys
tail_same x y xs ys same = cc

first_after : (earlier : List (List Step)) (ns ms : List Located) → places_of ns ≡ places_of ms → places_of (first_places_after earlier ns) ≡ places_of (first_places_after earlier ms)
first_after earlier [] [] same = refl
first_after earlier [] (m ∷ ms) same = absurd cc
first_after earlier (n ∷ ns) [] same = absurd cc
first_after earlier (n ∷ ns) (m ∷ ms) same =
    let here = head_same n.location m.location (places_of ns) (places_of ms) same in
    let rest = first_after (earlier ++ n.location ∷ []) ns ms (tail_same n.location m.location (places_of ns) (places_of ms) same) in
    let later = rest ∙ ap (λ (place : List Step). places_of (first_places_after (earlier ++ place ∷ []) ms)) here in
    map-append (λ (node : Located). node.location) (own n) (first_places_after (earlier ++ n.location ∷ []) ns)
    ∙ ap (λ (front : List (List Step)). front ++ places_of (first_places_after (earlier ++ n.location ∷ []) ns)) (owns n ∙ ap own_place here ∙ sym (owns m))
    ∙ ap (λ (back : List (List Step)). places_of (own m) ++ back) later
    ∙ sym (map-append (λ (node : Located). node.location) (own m) (first_places_after (earlier ++ m.location ∷ []) ms))
  where
    own : Located → List Located
    own node = if is_among node.location earlier then [] else node ∷ []

    own_place : List Step → List (List Step)
    own_place place = if is_among place earlier then [] else place ∷ []

    owns : (node : Located) → places_of (own node) ≡ own_place node.location
    owns node = by_case (is_among node.location earlier)
      where
        by_case : (among : Bool) → places_of (if among then [] else node ∷ []) ≡ (if among then [] else node.location ∷ [])
        by_case true = refl
        by_case false = refl

same_up_to : (most : Option ℕ) (ns ms : List Located) → places_of ns ≡ places_of ms → places_of (up_to most ns) ≡ places_of (up_to most ms)
same_up_to None ns ms same = same
same_up_to (Some most) ns ms same = sym (take-map (λ (node : Located). node.location) most ns) ∙ ap (take most) same ∙ take-map (λ (node : Located). node.location) most ms

same_chosen : (output : Output) (ns ms : List Located) → places_of ns ≡ places_of ms → places_of (chosen output ns) ≡ places_of (chosen output ms)
same_chosen output ns ms same = by_case output.unique
  where
    by_case : (unique : Bool) → places_of (up_to output.most (if unique then first_places ns else ns)) ≡ places_of (up_to output.most (if unique then first_places ms else ms))
    by_case true = same_up_to output.most (first_places ns) (first_places ms) (first_after [] ns ms same)
    by_case false = same_up_to output.most ns ms same

same_length : (ns ms : List Located) → places_of ns ≡ places_of ms → length ns ≡ length ms
same_length ns ms same = sym (length-map ns (λ (node : Located). node.location)) ∙ ap (λ (places : List (List Step)). length places) same ∙ length-map ms (λ (node : Located). node.location)

-- ---- what is shown of them

same_text : (form : Form) (layout : Layout) (n m : Located) (text : List ℕ) → has_nodes form ≡ true → shows_places form ≡ true → n.location ≡ m.location → IsText form layout n text → IsText form layout m text
same_text Location layout n m text has shows same is = is ∙ ap normal same
same_text Pointer layout n m text has shows same is = is ∙ ap pointer same
same_text _ layout n m text has shows same is = absurd cc

same_line : (output : Output) (head : List ℕ) (n m : Located) (line : List ℕ) → has_nodes output.form ≡ true → shows_places output.form ≡ true → n.location ≡ m.location → IsLine output head n line → IsLine output head m line
same_line output head n m line has shows same is = (is.0, same_text output.form output.layout n m is.0 has shows same is.1, is.2)

same_escapes : (form : Form) (d e : Data) → has_nodes form ≡ true → shows_places form ≡ true → has_escapes form d ≡ has_escapes form e
same_escapes Location d e has shows = refl
same_escapes Pointer d e has shows = refl
same_escapes _ d e has shows = absurd cc

-- nodes that are shown without their values are shown in lines
in_lines : (form : Form) → shows_places form ≡ true → is_array form ≡ false
in_lines Json shows = absurd cc
in_lines _ shows = refl

same_piece : (look : Look) (later : Bool) (head : List ℕ) (n m : Located) (text : List ℕ) → has_nodes look.output.form ≡ true → shows_places look.output.form ≡ true → n.location ≡ m.location → IsPiece look later head n text → IsPiece look later head m text
same_piece look later head n m text has shows same is =
    let lines = in_lines look.output.form shows in
    let own = subst (λ (array : Bool). MatchBool array (IsObject look later head n text) (IsLook look head n text)) lines is in
    subst (λ (array : Bool). MatchBool array (IsObject look later head m text) (IsLook look head m text)) (sym lines) (
      own.0,
      own.1,
      same_line look.output [] n m own.0 has shows same own.2,
      subst (λ (escapes : Bool). IsSeenIn look.colours (if escapes then escaped look.ascii (indented look.unit own.0) else own.0) own.1) (same_escapes look.output.form n.value m.value has shows) own.3,
      own.4,
    )

same_pieces : (look : Look) (later : Bool) (head : List ℕ) (ns ms : List Located) (text : List ℕ) → has_nodes look.output.form ≡ true → shows_places look.output.form ≡ true → places_of ns ≡ places_of ms → ArePieces look later head ns text → ArePieces look later head ms text
same_pieces look later head [] [] text has shows same are = are
same_pieces look later head [] (m ∷ ms) text has shows same are = absurd cc
same_pieces look later head (n ∷ ns) [] text has shows same are = absurd cc
same_pieces look later head (n ∷ ns) (m ∷ ms) text has shows same are = (
  are.0,
  are.1,
  same_piece look later head n m are.0 has shows (head_same n.location m.location (places_of ns) (places_of ms) same) are.2,
  same_pieces look true head ns ms are.1 has shows (tail_same n.location m.location (places_of ns) (places_of ms) same) are.3,
  are.4,
)

same_counts : (form : Form) (output : Output) (head : List ℕ) (ns ms : List Located) (text : List ℕ) → has_nodes form ≡ false → shows_places form ≡ true → places_of ns ≡ places_of ms → AreLinesIn form output head ns text → AreLinesIn form output head ms text
same_counts Count output head ns ms text has shows same are = are ∙ ap (λ n. head ++ (decimal n ++ end_text output.end)) (same_length ns ms same)
same_counts Nothing output head ns ms text has shows same are = are
same_counts _ output head ns ms text has shows same are = absurd cc

same_shown : (look : Look) (later : Bool) (head : List ℕ) (ns ms : List Located) (text : List ℕ) → shows_places look.output.form ≡ true → places_of ns ≡ places_of ms → AreShown look later head ns text → AreShown look later head ms text
same_shown look later head ns ms text shows same are = by_case (has_nodes look.output.form) refl are
  where
    chosen_same : places_of (chosen look.output ns) ≡ places_of (chosen look.output ms)
    chosen_same = same_chosen look.output ns ms same

    unless_summed : (summed : Bool) → has_nodes look.output.form ≡ false → MatchBool summed (text ≡ []) (AreLines look.output head ns text) → MatchBool summed (text ≡ []) (AreLines look.output head ms text)
    unless_summed true is are = are
    unless_summed false is are = same_counts look.output.form look.output head (chosen look.output ns) (chosen look.output ms) text is shows chosen_same are

    by_case : (has : Bool) → has_nodes look.output.form ≡ has → MatchBool has (ArePieces look later head (chosen look.output ns) text) (MatchBool look.summed (text ≡ []) (AreLines look.output head ns text))
        → MatchBool has (ArePieces look later head (chosen look.output ms) text) (MatchBool look.summed (text ≡ []) (AreLines look.output head ms text))
    by_case true is are = same_pieces look later head (chosen look.output ns) (chosen look.output ms) text is shows chosen_same are
    by_case false is are = unless_summed look.summed is are

-- so are there as many
same_empty : (ns ms : List Located) → places_of ns ≡ places_of ms → ns ≡ [] → ms ≡ []
same_empty ns [] same none = refl
same_empty ns (m ∷ ms) same none = absurd (no_place (sym (ap places_of none) ∙ same))
  where
    no_place : [] ≡ places_of (m ∷ ms) → ⊥
    no_place is = absurd cc

same_counted : (form : Form) (ns ms : List Located) (count : ℕ) → places_of ns ≡ places_of ms → IsCountIn form ns count → IsCountIn form ms count
same_counted Nothing ns ms count same is = (is.0, (λ none. same_empty ns ms same (is.1.0 none), λ none. is.1.1 (same_empty ms ns (sym same) none)))
same_counted _ ns ms count same is = is ∙ same_length ns ms same

-- ---- what was read

shows_by_places : (look : Look) (bytes : List ℕ) (queries : List Query) (value : Data) (path : JsonPath) → shows_places look.output.form ≡ true → IsIn (path_tree path) queries → IsReadIn true bytes queries value → ShowsAs look bytes value path
shows_by_places look bytes queries value path shows asked read = λ F most later head text count is.
    let up = with_most look most in
    let alike = read.1.2 (with_rule_of path F) (path_tree path) (places_of is.0) in
    let there = (alike asked).1 (is.0, is.1, refl) in
    let same = sym there.2 in (
      read.1.0,
      (read.0, read.1.1),
      (there.0, there.1, same_shown up later head is.0 there.0 text shows same is.2, same_counted up.output.form (chosen up.output is.0) (chosen up.output there.0) count (same_chosen up.output is.0 there.0 same) is.3),
    )

shows_by_values : (look : Look) (bytes : List ℕ) (queries : List Query) (value : Data) (path : JsonPath) → IsIn (path_tree path) queries → IsReadIn false bytes queries value → ShowsAs look bytes value path
shows_by_values look bytes queries value path asked read = λ F most later head text count is.
    (read.1.0, (read.0, read.1.1), (is.0, (read.1.2 (with_rule_of path F) (path_tree path) is.0 asked).1 is.1, is.2, is.3))

-- what a path shows of what was read for it, it shows of the document
pub shows_as_read : (look : Look) (bytes : List ℕ) (queries : List Query) (value : Data) (path : JsonPath) → IsIn (path_tree path) queries → IsReadIn (shows_places look.output.form) bytes queries value → ShowsAs look bytes value path
shows_as_read look bytes queries value path asked read = by_case (shows_places look.output.form) refl read
  where
    by_case : (places : Bool) → shows_places look.output.form ≡ places → IsReadIn places bytes queries value → ShowsAs look bytes value path
    by_case true is read = shows_by_places look bytes queries value path is asked read
    by_case false is read = shows_by_values look bytes queries value path asked read

-- an item of a list is in what a function makes of its items
pub item_in : {A B : Type 0} (f : A → B) (xs : List A) (i : ℕ) (x : A) → i < length xs → x ≡ get_or xs i x → IsIn (f x) (map f xs)
item_in f [] i x within is = absurd (omega (arith, within))
item_in f (y ∷ ys) zero x within is = inl (ap f is)
item_in f (y ∷ ys) (suc i) x within is = inr (item_in f ys i x (omega (arith, within)) is)

-- what was read of a document can be asked for the paths
pub are_shown_as : (documents : Documents) (bytes : List ℕ) (value : Data) → ReadsForPaths documents
    → IsReadIn (shows_places documents.answering.showing.output.form) bytes (map (λ (path : AskedPath). path_tree path.path) documents.answering.paths.now) value
    → AreShownAs (asked_look documents.answering) bytes value documents.answering.paths.now
are_shown_as documents bytes value reads read = λ i path within is.
    let asked = item_in (λ (path : AskedPath). path_tree path.path) documents.answering.paths.now i path within is in
    by_case path.path asked (is_table documents.answering.shown) refl
  where
    queries : List Query
    queries = map (λ (path : AskedPath). path_tree path.path) documents.answering.paths.now

    by_case : (path : JsonPath) → IsIn (path_tree path) queries → (table : Bool) → is_table documents.answering.shown ≡ table → ShowsAs (if table then cell_look else look_of documents.answering.showing) bytes value path
    by_case path asked true is = shows_as_read cell_look bytes queries value path asked (subst (λ (places : Bool). IsReadIn places bytes queries value) (reads.places is) read)
    by_case path asked false is = shows_as_read (look_of documents.answering.showing) bytes queries value path asked read
