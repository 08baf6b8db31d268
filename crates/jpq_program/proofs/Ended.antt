-- How a run ends: the status, and what is told.
use Rattle.jpq_program.proofs.Words.{◌&&◌, ◌≡◌, ◌∙◌, ◌⊎◌, ℕ, Bool, true, false, List, [], ◌∷◌, ◌++◌, codes, Option, Result, Ok, Err, inl, inr, refl, sym, ap, subst, append-nil, string_bytes, Appends, AppendsBeginning, Adds, IsFailure, Next, Outcome, Stop, Streams, if◌then◌else◌, status_after, status_of, told_after, IsPrinted, arith, nat_tests, common_steps, ◌≤◌}

-- a text that went out whole, of which nothing is pending
went_out : (out later : Option (List ℕ)) (text left : List ℕ) → Adds out text later left [] → left ≡ [] → Appends out later text
went_out out later text left adds none = subst (Appends out later) (sym (sym (append-nil text) ∙ adds.2 ∙ ap (λ l. adds.0 ++ l) none ∙ append-nil adds.0)) adds.1

pub printed_whole : {W E : Type 0} (out : W → Option (List ℕ)) (err : E → Option (List ℕ)) (text : List ℕ) (before sent after : Streams W E) (status : ℕ)
    → Adds (out before.out) text (out sent.out) (string_bytes sent.pending) [] → string_bytes sent.pending ≡ [] → sent.outcome ≡ record { selected = true; refused = false } → sent.err ≡ before.err
    → status ≡ status_of sent.outcome → after.out ≡ sent.out → after.err ≡ sent.err → IsPrinted out err text before after status
printed_whole out err text before sent after status whole all outcome same is kept quiet =
    inl (is ∙ ap status_of outcome, subst (λ o. Appends (out before.out) (out o) text) (sym kept) (went_out (out before.out) (out sent.out) text (string_bytes sent.pending) whole all), quiet ∙ same)

pub printed_part : {W E : Type 0} (out : W → Option (List ℕ)) (err : E → Option (List ℕ)) (text : List ℕ) (before sent after : Streams W E) (stop : Stop) (status : ℕ)
    → AppendsBeginning (out before.out) (out sent.out) text → IsFailure stop → sent.err ≡ before.err → status ≡ status_after (Err stop) false false sent.outcome → after.out ≡ sent.out
    → AppendsBeginning (err sent.err) (err after.err) (told_after (Err stop)) → IsPrinted out err text before after status
printed_part out err text before sent after stop status beginning failed same is kept told =
    let out_is : AppendsBeginning (out before.out) (out after.out) text = subst (λ o. AppendsBeginning (out before.out) (out o) text) (sym kept) beginning in
    elim failed [
      | inl output ↦ inr (
        is ∙ ap (λ e. status_after (Err e) false false sent.outcome) output,
        out_is,
        subst (λ s. AppendsBeginning (err s) (err after.err) (codes "jpq: the output failed\n")) same (subst (λ e. AppendsBeginning (err sent.err) (err after.err) (told_after (Err e))) output told),
      )
      | inr gone ↦ inr (
        is ∙ ap (λ e. status_after (Err e) false false sent.outcome) gone,
        out_is,
        (let none = subst (λ e. AppendsBeginning (err sent.err) (err after.err) (told_after (Err e))) gone told in subst (λ s. AppendsBeginning (err s) (err after.err) (codes "jpq: the output failed\n")) same (none_told (err sent.err) (err after.err) none)),
      )
    ]
  where
    none_told : (old new : Option (List ℕ)) → AppendsBeginning old new [] → AppendsBeginning old new (codes "jpq: the output failed\n")
    none_told old new h = ([], codes "jpq: the output failed\n", refl, subst (Appends old new) (begun h.0 h.1 h.2) h.3)
      where
        begun : (xs ys : List ℕ) → [] ≡ xs ++ ys → xs ≡ []
        begun [] ys e = refl
        begun (x ∷ xs) ys e = absurd cc

-- what was printed since a restart
pub printed_since : {W E : Type 0} (out : W → Option (List ℕ)) (err : E → Option (List ℕ)) (text : List ℕ) (before restarted after : Streams W E) (status : ℕ) → restarted.out ≡ before.out → restarted.err ≡ before.err
    → IsPrinted out err text restarted after status → IsPrinted out err text before after status
printed_since out err text before restarted after status same_out same_err is = elim is [
  | inl whole ↦ inl (whole.0, subst (λ o. Appends (out o) (out after.out) text) same_out whole.1, whole.2 ∙ same_err)
  | inr part ↦ inr (
    part.0,
    subst (λ o. AppendsBeginning (out o) (out after.out) text) same_out part.1,
    subst (λ e. AppendsBeginning (err e) (err after.err) (codes "jpq: the output failed\n")) same_err part.2,
  )
]

-- the statuses of a run with options
pub one_of_few : (ended : Result Next Stop) (binds quiet : Bool) (outcome : Outcome) (status : ℕ) → status ≡ status_after ended binds quiet outcome → (status ≤ 3) ⊎ ((status ≡ 64) × (binds ≡ true))
one_of_few ended binds quiet outcome status is = subst (λ status. (status ≤ 3) ⊎ ((status ≡ 64) × (binds ≡ true))) (sym is) (few ended binds quiet outcome)
  where
    few : (ended : Result Next Stop) (binds quiet : Bool) (outcome : Outcome) → (status_after ended binds quiet outcome ≤ 3) ⊎ ((status_after ended binds quiet outcome ≡ 64) × (binds ≡ true))
    few ended binds quiet outcome = grind (arith, nat_tests, common_steps)

-- a text that was added, where nothing was pending before and nothing is after it
pub sent_out : (out later : Option (List ℕ)) (waiting left text : List ℕ) → waiting ≡ [] → left ≡ [] → Adds out waiting later left text → Appends out later text
sent_out out later waiting left text before after adds =
    subst (Appends out later) (sym (append-nil adds.0) ∙ ap (λ (l : List ℕ). adds.0 ++ l) (sym after) ∙ sym adds.2 ∙ ap (λ (w : List ℕ). w ++ text) before) adds.1

-- the status of a run in which nothing was selected before
pub status_is : (outcome : Outcome) (any : Bool) → outcome.refused ≡ false → outcome.selected ≡ any → status_of outcome ≡ (if any then 0 else 1)
status_is outcome any right selected = ap (λ (refused : Bool). if refused then 2 else (if outcome.selected then 0 else 1)) right ∙ ap (λ (selected : Bool). if selected then 0 else 1) selected

-- a run with a status of 0 or 1 that is not quiet refused nothing, and ended well
pub ended_well : (ended : Result Next Stop) (binds : Bool) (outcome : Outcome) (status : ℕ) → status ≡ status_after ended binds false outcome → status ≤ 1
    → (next : Next) × (ended ≡ Ok next) × (outcome.refused ≡ false) × (status ≡ status_of outcome)
ended_well (Ok next) binds outcome status is few = (next, refl, right outcome (subst (λ n. n ≤ 1) is few), is)
  where
    right : (outcome : Outcome) → status_of outcome ≤ 1 → outcome.refused ≡ false
    right outcome few = grind (arith, nat_tests, common_steps)
ended_well (Err e) binds outcome status is few = absurd (wrong e binds (subst (λ n. n ≤ 1) is few))
  where
    wrong : (e : Stop) (binds : Bool) → status_after (Err e) binds false outcome ≤ 1 → ⊥
    wrong e binds few = grind (arith, nat_tests, common_steps)

-- a run with a status of 0 or 1 ended well, and with 0 where nothing was refused and something is selected
pub ended_checked : (ended : Result Next Stop) (binds quiet : Bool) (outcome : Outcome) (status : ℕ) → status ≡ status_after ended binds quiet outcome → status ≤ 1
    → (next : Next) × (ended ≡ Ok next) × (status_of outcome ≡ 0 → status ≡ 0)
ended_checked (Ok next) binds quiet outcome status is few = (next, refl, λ none. is ∙ either (quiet && outcome.selected) none)
  where
    either : (found : Bool) → status_of outcome ≡ 0 → (if found then 0 else status_of outcome) ≡ 0
    either true none = refl
    either false none = none
ended_checked (Err e) binds quiet outcome status is few = absurd (wrong e (subst (λ n. n ≤ 1) is few))
  where
    wrong : (e : Stop) → status_after (Err e) binds quiet outcome ≤ 1 → ⊥
    wrong e few = grind (arith, nat_tests, common_steps)
