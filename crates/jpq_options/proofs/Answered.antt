-- What is answered, by what was found or by what `clap` says.
use Rattle.jpq_options.proofs.Words.{arith, common_steps, ◌≡◌, ◌∙◌, ◌⊎◌, ◌&&◌, Bool, true, false, not, cond, List, [], ◌∷◌, map, Option, Some, is_some, option_map, refl, sym, ap, subst, Result, IfOk, IsErr, filter, Bor, length-map, first_form, is_empty, App, IsAmong, Kinds, Row, Text, fault_of, is_simple, is_simple_and_free, matches_of, ValueParser, ArgumentConflict, OutOfMemory, jpq, IsRequestOf, AreOptions, IsRefusal, IsTold, texts, form_of_row, forms, given_forms, has_two, is_given, misuse_by, misuse_in, Shown, AllocError, ErrorKind, clap_on_literals, Options, Request, Run, Print, WrongUse, inl, is_request}

-- ---- forms

map-filter : {X Y : Type 0} (h : X → Y) (q : Y → Bool) (xs : List X) → map h (filter (λ x. q (h x)) xs) ≡ filter q (map h xs)
map-filter h q [] = refl
map-filter h q (x ∷ xs) = grind (arith, common_steps, (map-filter h q xs))

pub given_are : (rows : List Row) (all given slice : List (Bor Text × Shown)) → slice ≡ given → given ≡ filter (λ f. is_given f.0.now rows) all → map form_of_row all ≡ forms
    → map form_of_row slice ≡ given_forms forms rows
given_are rows all given slice same is are =
    ap (map form_of_row) (same ∙ is) ∙ map-filter form_of_row (λ f. is_given f.0 rows) all ∙ ap (λ fs. given_forms fs rows) are

-- ---- misuse

pub two_forms : (rows : List Row) → has_two (given_forms forms rows) ≡ true → Some ArgumentConflict ≡ misuse_in rows
two_forms rows two = sym (ap (λ b. cond b (Some ArgumentConflict) (misuse_by (first_form (given_forms forms rows)) rows)) two)

pub one_form : (rows : List Row) (shown : Shown) → has_two (given_forms forms rows) ≡ false → shown ≡ first_form (given_forms forms rows)
    → misuse_by shown rows ≡ misuse_in rows
one_form rows shown one is = ap (λ s. misuse_by s rows) is
    ∙ sym (ap (λ b. cond b (Some ArgumentConflict) (misuse_by (first_form (given_forms forms rows)) rows)) one)

pub refusal : (rows : List Row) (kind : ErrorKind) (a : Request) → Some kind ≡ misuse_in rows → IsRefusal kind a → IsRequestOf [] rows a
refusal rows kind a is r = grind (arith, common_steps)

-- ---- what `clap` says

told_one : (kind : ErrorKind) (faults : Kinds) (rows : List Row) (a : Request) → IsAmong kind faults → IsTold kind a → IsRequestOf faults rows a
told_one kind faults rows (Run options) among told = absurd told
told_one kind faults rows (Print text) among told = (kind, among, told)
told_one kind faults rows (WrongUse other text) among told =
    inl (subst (λ k. IsAmong k faults) (sym told.0) among, subst (λ k. is_request k ≡ false) (sym told.0) told.1)

pub told_answers : (kind : ErrorKind) (faults : Kinds) (rows : List Row) (r : Result Request AllocError) → (kind ≡ OutOfMemory) ⊎ IsAmong kind faults
    → (kind ≡ OutOfMemory → IsErr r) → IfOk r (IsTold kind) → IfOk r (IsRequestOf faults rows)
told_answers kind faults rows r by memory told = grind (arith, common_steps, told_one)

-- ---- the command

jpq_is_simple : (colors : ValueParser) → is_simple (jpq colors) ≡ true
unfolding clap_on_literals
jpq_is_simple colors = refl

pub jpq_is_free : (colors : ValueParser) → is_simple_and_free (jpq colors) ≡ true
unfolding clap_on_literals
jpq_is_free colors = refl

pub found_answers : (colors : ValueParser) (app : App) (words : List Text) (rows : List Row) (a : Request) → app ≡ jpq colors
    → (is_simple app ≡ true → rows ≡ matches_of app words) → (is_simple_and_free app ≡ true → fault_of app words ≡ []) → IsRequestOf [] rows a
    → IsRequestOf (fault_of (jpq colors) words) (matches_of (jpq colors) words) a
found_answers colors app words rows a is simple free answers =
    let rows_are : rows ≡ matches_of (jpq colors) words = simple (ap is_simple is ∙ jpq_is_simple colors) ∙ ap (λ (x : App). matches_of x words) is in
    let faults_are : [] ≡ fault_of (jpq colors) words = sym (free (ap is_simple_and_free is ∙ jpq_is_free colors)) ∙ ap (λ (x : App). fault_of x words) is in
    subst (λ (f : Kinds). IsRequestOf f (matches_of (jpq colors) words) a) faults_are (subst (λ (rs : List Row). IsRequestOf [] rs a) rows_are answers)
