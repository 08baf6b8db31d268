-- What is open, of levels that are kept in an array.
use Rattle.std.proofs.Common.{◌≡◌, ◌≢◌, ◌+◌, ◌<◌, ◌≤◌, ℕ, zero, suc, List, ◌∷◌, length, nat_lt, Option, Some, slice_set, true, lt-ltb, refl, ap, ap₂, ◌∙◌, arith}
use Rattle.std.proofs.lemmas.List.{get_or-set_other, get_or-set_same}
use Rattle.std.specs.List.{slice_index_or}
use Rattle.jsonpath_document.specs.Reading.{Standing, open_levels, opened}
use Rattle.jsonpath_document.specs.declared.reading.Level.{Level}
use Rattle.jsonpath_document.specs.declared.reading.Level.TheVariants.{Array}
use Rattle.jsonpath_document.specs.declared.reading.Next.{Next}

pub length-open_levels : (levels : List Level) (count : ℕ) → length (open_levels levels count) ≡ count
length-open_levels levels zero = refl
length-open_levels levels (suc count) = ap suc (length-open_levels levels count)

pub open_levels-more : (levels : List Level) (count more : ℕ) → more ≡ count + 1 → open_levels levels more ≡ slice_index_or levels count Array ∷ open_levels levels count
open_levels-more levels count more e = let is : more ≡ suc count = omega arith in ap (λ n. open_levels levels n) is

open_levels-set_beyond : (levels : List Level) (at count : ℕ) (level : Level) → count ≤ at → open_levels (slice_set levels at level) count ≡ open_levels levels count
open_levels-set_beyond levels at zero level h = refl
open_levels-set_beyond levels at (suc count) level h =
    let other : count ≢ at = omega arith in
    ap₂ ◌∷◌ (get_or-set_other levels at count level Array other) (open_levels-set_beyond levels at count level (omega arith))

pub open_levels-set : (levels : List Level) (count more : ℕ) (level : Level) → more ≡ count + 1 → count < length levels
    → open_levels (slice_set levels count level) more ≡ level ∷ open_levels levels count
open_levels-set levels count more level e h =
    open_levels-more (slice_set levels count level) count more e
    ∙ ap₂ ◌∷◌ (get_or-set_same levels count level Array h) (open_levels-set_beyond levels count count level (omega arith))

pub opened-within : (levels : List Level) (count : ℕ) (level : Level) (following : Next) → count < 127 → count < length levels
    → ◌≡◌ {A = Option Standing} (Some (open_levels (slice_set levels count level) (count + 1), following)) (opened level following (open_levels levels count))
opened-within levels count level following few within =
    let fits : nat_lt (length (open_levels levels count)) 127 ≡ true = lt-ltb _ _ (omega (arith, length-open_levels levels count)) in
    rw fits (ap (λ l. Some (l, following)) (open_levels-set levels count (count + 1) level refl within))
