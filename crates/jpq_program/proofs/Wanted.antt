-- Which inputs are opened where so many nodes are wanted of all.
use Rattle.jpq_program.proofs.Words.{◌≡◌, ◌+◌, ◌++◌, ◌<◌, ◌∷◌, ℕ, Bool, Bor, false, true, List, [], IfSome, MatchBool, Option, append-nil, append_assoc, get_or, has_enough, is_whole, length, map, refl, subst, sym, take, AreKnown, Colours, Form, JsonPath, Opens, Options, IsShownFor, names_in, path_files_in, IsInputShown, IsNamedShown, Next, SendsUntil, Shown, Streams}
use Rattle.jpq_program.proofs.Nodes.{further_mapped}
use Rattle.jpq_program.proofs.Sending.{known_at, known_input, same_item}
use Rattle.jpq_program.proofs.Opened.{opens_both}
use Rattle.jpq_program.specs.Inputs.{AreWanted, OpensWanted}
use Rattle.jpq_program.specs.Inside.{named_for}
use Rattle.jpq_program.specs.Run.{OpensFor}

abbrev Named : Type 1
Named = List ℕ → ℕ → List ℕ → ℕ → Type 0

-- after these inputs were opened, so many nodes are shown, and others may be opened
abbrev pub Continues : Option ℕ → Named → ℕ → ℕ → List (List ℕ) → Type 0
Continues most Is before now done = (names opened : List (List ℕ)) → AreWanted most Is now names opened → AreWanted most Is before (done ++ names) (done ++ opened)

-- the first of some inputs, and those after it
abbrev IsNext : Option ℕ → Named → ℕ → List ℕ → List (List ℕ) → List (List ℕ) → Type 0
IsNext most Is before name names opened = (text : List ℕ) × (count : ℕ) × (later : List (List ℕ)) × Is name before text count
    × AreWanted most Is (before + count) names later × (opened ≡ name ∷ later)

by_test : (X Y : Type 0) (b : Bool) → b ≡ false → Y → MatchBool b X Y
by_test X Y b is y = subst (λ (b : Bool). MatchBool b X Y) (sym is) y

-- another input was opened
continued : (most : Option ℕ) (Is : Named) (before old now : ℕ) (done : List (List ℕ)) (name text : List ℕ) (count : ℕ) → Continues most Is before old done → has_enough most old ≡ false → Is name old text count → now ≡ old + count
    → Continues most Is before now (done ++ name ∷ [])
continued most Is before old now done name text count first wanted shown total names opened are =
    let own : AreWanted most Is old (name ∷ names) (name ∷ opened) = by_test (name ∷ opened ≡ []) (IsNext most Is old name names (name ∷ opened)) (has_enough most old) wanted (text, count, opened, shown, subst (λ n. AreWanted most Is n names opened) total are, refl) in
    subst (λ (all : List (List ℕ)). AreWanted most Is before all ((done ++ name ∷ []) ++ opened)) (sym (append_assoc done (name ∷ []) names))
    (subst (AreWanted most Is before (done ++ name ∷ names)) (sym (append_assoc done (name ∷ []) opened)) (first (name ∷ names) (name ∷ opened) own))

-- all were opened
pub all_wanted_of : (most : Option ℕ) (Is : Named) (before now : ℕ) (done : List (List ℕ)) → Continues most Is before now done → AreWanted most Is before done done
all_wanted_of most Is before now done first =
    subst (λ (all : List (List ℕ)). AreWanted most Is before all done) (append-nil done) (subst (AreWanted most Is before (done ++ [])) (append-nil done) (first [] [] refl))

-- there are enough, so that no other is
pub enough_opened : (most : Option ℕ) (Is : Named) (now : ℕ) (names : List (List ℕ)) → has_enough most now ≡ true → AreWanted most Is now names []
enough_opened most Is now [] enough = refl
enough_opened most Is now (name ∷ names) enough =
    let empty : List (List ℕ) = [] in by_enough (empty ≡ []) (IsNext most Is now name names []) (has_enough most now) enough refl
  where
    by_enough : (X Y : Type 0) (b : Bool) → b ≡ true → X → MatchBool b X Y
    by_enough X Y b is x = subst (λ (b : Bool). MatchBool b X Y) (sym is) x

pub some_wanted : (most : Option ℕ) (Is : Named) (before now : ℕ) (done others all : List (List ℕ)) → Continues most Is before now done → has_enough most now ≡ true → all ≡ done ++ others → AreWanted most Is before all done
some_wanted most Is before now done others all first enough is =
    subst (λ (names : List (List ℕ)). AreWanted most Is before names done) (sym is)
    (subst (AreWanted most Is before (done ++ others)) (append-nil done) (first others [] (enough_opened most Is now others enough)))

-- the next of these was opened and answered
pub wanted_further : {W E : Type 0} (silent : Bool) (contents : W → Option (List ℕ)) (form : Form) (most : Option ℕ) (Is IsPart : Shown) (lines : Bool) (bytes_of bytes_now : List ℕ → Option (List ℕ)) (names : List (Bor (List ℕ))) (index : ℕ) (none : Bor (List ℕ)) (next : Next) (before : ℕ) (old now : Streams W E)
    → is_whole next ≡ true → index < length names → ((name : List ℕ) → bytes_now name ≡ bytes_of name) → AreKnown bytes_of (map (λ (name : Bor (List ℕ)). name.now) names)
    → IfSome (bytes_now (get_or names index none).now) (λ bytes. SendsUntil silent contents form most next (IsInputShown Is lines (get_or names index none).now bytes old.total) (IsInputShown IsPart lines (get_or names index none).now bytes old.total) old now)
    → has_enough most old.total ≡ false → now.outcome.refused ≡ false
    → (old.outcome.refused ≡ false → Continues most (IsNamedShown Is lines bytes_of) before old.total (map (λ (name : Bor (List ℕ)). name.now) (take index names)))
    → Continues most (IsNamedShown Is lines bytes_of) before now.total (map (λ (name : Bor (List ℕ)). name.now) (take (index + 1) names))
wanted_further silent contents form most Is IsPart lines bytes_of bytes_now names index none next before old now whole within same known shown wanted right first =
    let name = get_or names index none in
    let here = known_input bytes_of bytes_now names index none within same known in
    let sent = known_at (λ (bytes : List ℕ). SendsUntil silent contents form most next (IsInputShown Is lines name.now bytes old.total) (IsInputShown IsPart lines name.now bytes old.total) old now) (bytes_now name.now) here.0 here.2 shown in
    let answered = sent.1.0 in
    let own = answered.whole right in
    subst (Continues most (IsNamedShown Is lines bytes_of) before now.total) (sym (further_mapped (λ (name : Bor (List ℕ)). name.now) names index name within (same_item names index none name within)))
    (continued most (IsNamedShown Is lines bytes_of) before old.total now.total (map (λ (name : Bor (List ℕ)). name.now) (take index names)) name.now answered.text answered.count (first own.0) wanted (here.0, here.1, own.1 whole) answered.total)

-- the inputs were opened after the files of paths
pub opened_after : (options : Options) (colours : Colours) (paths : List JsonPath) (bytes_of : List ℕ → Option (List ℕ)) (was mid now : Option (List (List ℕ))) → Opens was mid (path_files_in options)
    → OpensWanted options.most_of_all (named_for options colours paths bytes_of) 0 (names_in options) [] mid now → OpensFor options (IsShownFor options colours paths) bytes_of was now
opened_after options colours paths bytes_of was mid now files inputs = (inputs.0, inputs.1, opens_both was mid now (path_files_in options) inputs.0 files inputs.2)
