-- Which inputs are opened, one after the other.
use Rattle.jpq_program.proofs.Words.{Bool, Err, IfOk, false, Next, Ok, OpensInOrder, Options, Outcome, Result, Stop, arith, common_steps, inl, inr, looked_at_in, names_in, path_files_in, if◌then◌else◌, nat_tests, opened_in, status_after, ◌⊎◌, ◌≡◌, ◌∙◌, ◌+◌, ◌<◌, ◌≤◌, ◌++◌, ◌∷◌, [], ℕ, Bor, List, None, Option, Some, Opens, OpensFirst, ap, append-nil, append_assoc, get_or, length, map, refl, subst, sym, take, drop, map-append, take-append-drop, take_all}
use Rattle.jpq_program.proofs.Nodes.{further_mapped}
use Rattle.jpq_program.proofs.Sending.{same_item}

abbrev Known : Type 0
Known = Option (List (List ℕ))

abbrev names_of : List (Bor (List ℕ)) → List (List ℕ)
names_of names = map (λ (name : Bor (List ℕ)). name.now) names

pub opens_none : (before : Known) → Opens before before []
opens_none None = tt
opens_none (Some names) = (names, refl, sym (append-nil names))

pub opens_both : (before old now : Known) (names more : List (List ℕ)) → Opens before old names → Opens old now more → Opens before now (names ++ more)
opens_both before old None names more first second = tt
opens_both before None (Some later) names more first second = absurd (unknown second.0 second.1)
  where
    unknown : (earlier : List (List ℕ)) → None ≡ Some earlier → ⊥
    unknown earlier is = absurd cc
opens_both before (Some opened) (Some later) names more first second = (
  first.0,
  first.1,
  second.2 ∙ ap (λ (all : List (List ℕ)). all ++ more) (same opened second.0 second.1 ∙ first.2) ∙ append_assoc first.0 names more,
)
  where
    same : (one other : List (List ℕ)) → Some one ≡ Some other → other ≡ one
    same one other is = cc

-- none was opened
pub opens_nothing : (before : Known) (names : List (List ℕ)) → OpensFirst before before names
opens_nothing before names = ([], names, refl, opens_none before)

-- another was opened
pub opens_further : (names : List (Bor (List ℕ))) (index : ℕ) (none : Bor (List ℕ)) (before old now : Known) → index < length names → Opens before old (names_of (take index names))
    → Opens old now ((get_or names index none).now ∷ []) → Opens before now (names_of (take (index + 1) names))
opens_further names index none before old now within first second =
    let name = get_or names index none in
    subst (Opens before now) (sym (further_mapped (λ (name : Bor (List ℕ)). name.now) names index name within (same_item names index none name within)))
    (opens_both before old now (names_of (take index names)) (name.now ∷ []) first second)

-- so many were opened
pub opens_some : (names : List (Bor (List ℕ))) (count : ℕ) (before now : Known) → Opens before now (names_of (take count names)) → OpensFirst before now (names_of names)
opens_some names count before now opens = (
  names_of (take count names),
  names_of (drop count names),
  ap names_of (sym (take-append-drop count names)) ∙ map-append (λ (name : Bor (List ℕ)). name.now) (take count names) (drop count names),
  opens,
)

-- all were opened
pub opens_all : (names : List (Bor (List ℕ))) (index : ℕ) (before now : Known) → length names ≤ index → Opens before now (names_of (take index names)) → Opens before now (names_of names)
opens_all names index before now done opens = subst (λ (some : List (Bor (List ℕ))). Opens before now (names_of some)) (take_all index names done) opens

-- these were opened, and then the first of others
pub opens_then : (before old now : Known) (names more : List (List ℕ)) → Opens before old names → OpensFirst old now more → OpensFirst before now (names ++ more)
opens_then before old now names more first second = (
  names ++ second.0,
  second.1,
  ap (λ (later : List (List ℕ)). names ++ later) second.2 ∙ sym (append_assoc names second.0 second.1),
  opens_both before old now names second.0 first second.3,
)

-- these were opened, and none of others
pub opens_alone : (before now : Known) (names more : List (List ℕ)) → Opens before now names → OpensFirst before now (names ++ more)
opens_alone before now names more opens = (names, more, refl, opens)

-- the first of these were opened, and none of others
pub opens_within : (before now : Known) (names more : List (List ℕ)) → OpensFirst before now names → OpensFirst before now (names ++ more)
opens_within before now names more opens =
    (opens.0, opens.1 ++ more, ap (λ (some : List (List ℕ)). some ++ more) opens.2 ∙ append_assoc opens.0 opens.1 more, opens.3)

-- what a run opened, as it ended
pub opens_ended : (ended : Result Next Stop) (binds quiet : Bool) (outcome : Outcome) (status : ℕ) (options : Options) (before now : Known) → status ≡ status_after ended binds quiet outcome
    → IfOk ended (λ _. OpensFirst before now (opened_in options)) → OpensFirst before now (opened_in options) ⊎ OpensFirst before now (looked_at_in options) → OpensInOrder options status before now
opens_ended (Ok next) binds quiet outcome status options before now is opens either = inl opens
opens_ended (Err e) binds quiet outcome status options before now is opens either = elim either [
  | inl in_order ↦ inl in_order
  | inr looked_at ↦ inr (subst (λ n. 2 ≤ n) (sym is) (late e binds quiet outcome), looked_at)
]
  where
    late : (e : Stop) (binds quiet : Bool) (outcome : Outcome) → 2 ≤ status_after (Err e) binds quiet outcome
    late e binds quiet outcome = grind (arith, nat_tests, common_steps)

-- the files of paths were opened, and then the first inputs
pub opens_inputs : (options : Options) (before old now : Known) → options.check ≡ false → Opens before old (path_files_in options) → OpensFirst old now (names_in options) → OpensFirst before now (opened_in options)
opens_inputs options before old now reads files inputs =
    subst (OpensFirst before now) (ap (λ (check : Bool). path_files_in options ++ (if check then [] else names_in options)) (sym reads)) (opens_then before old now (path_files_in options) (names_in options) files inputs)

-- the files of paths were opened, and then all inputs
pub opens_all_inputs : (options : Options) (before old now : Known) → options.check ≡ false → Opens before old (path_files_in options) → Opens old now (names_in options) → Opens before now (opened_in options)
opens_all_inputs options before old now reads files inputs =
    subst (Opens before now) (ap (λ (check : Bool). path_files_in options ++ (if check then [] else names_in options)) (sym reads)) (opens_both before old now (path_files_in options) (names_in options) files inputs)
