-- The nodes that a walk is asked for.
use Rattle.jsonpath_lines.proofs.Words.{nat_tests, common_steps, ◌≡◌, ◌↔◌, ◌⊎◌, ℕ, zero, suc, ◌+◌, ◌≤◌, Bool, true, false, List, [], ◌∷◌, ◌++◌, length, codes, Option, Some, None, nat_lt, string_bytes, refl, sym, ap, subst, ◌∙◌, append_assoc, arith, length-take, tokens, ArePrintable, Located, AreLines, AreLinesIn, IsCount, IsCountIn, up_to, Appends, ArePieces, ArePiecesIn, IsClosedIn, IsPiece, FilledLines, Pushes, TookLines, asked, is_reached, leaves_out_in, limit_in, once, opening, Form, Json, Nothing, Output, LineWriter, Lines}
use Rattle.jsonpath_lines.proofs.Arrays.{array_printable}
use Rattle.jsonpath_lines.proofs.Pieces.{appended_pushed, length_further, lines_written}

-- ---- a limit

-- so many are no more than the limit
abbrev pub IsWithin : Option ℕ → ℕ → Type 0
IsWithin None count = Unit {0}
IsWithin (Some most) count = count ≤ most

pub within_further : (limit : Option ℕ) (count : ℕ) → is_reached limit count ≡ false → IsWithin limit (count + 1)
within_further limit count not_yet = grind (arith, nat_tests, common_steps)

-- where the limit is reached, no further nodes are asked for
pub reached : (limit : Option ℕ) (done left all : List Located) (count : ℕ) → count ≡ length done → IsWithin limit count → is_reached limit count ≡ true → all ≡ done ++ left → done ≡ up_to limit all
reached limit done left all count same within full is = grind (arith, nat_tests, common_steps)

-- below the limit all are asked for
pub all_below : (limit : Option ℕ) (nodes : List Located) (count : ℕ) → count ≡ length nodes → is_reached limit count ≡ false → nodes ≡ up_to limit nodes
all_below limit nodes count same below = grind (arith, nat_tests, common_steps)

-- what is appended for these nodes, which are those that are asked for
pub pushed_so_far : (output : Output) (head : List ℕ) (limit : Option ℕ) (all done : List Located) (old new : List ℕ) (count : ℕ) → limit ≡ limit_in output.form output.most → done ≡ up_to limit all
    → Appends (ArePieces output head done) old new → count ≡ length done → Pushes output head all old new count
pushed_so_far output head limit all done old new count is these appended same =
    let asked : done ≡ up_to (limit_in output.form output.most) all = these ∙ ap (λ limit. up_to limit all) is in
    (subst (λ ns. Appends (ArePieces output head ns) old new) asked appended, same ∙ ap (λ (ns : List Located). length ns) asked)

-- ---- a line sink

-- another is taken
pub one_taken : (before old : Lines) (nodes : List Located) (n : Located) (text : List ℕ) (count : ℕ) → TookLines before nodes old
    → Appends (IsPiece before.writer.output old.writer.head.now (nat_lt 0 old.count) n) (string_bytes old.text) text → count ≡ old.count + 1
    → Appends (ArePieces before.writer.output before.writer.head.now (nodes ++ n ∷ [])) (string_bytes before.text) text × (count ≡ length (nodes ++ n ∷ []))
one_taken before old nodes n text count took piece further =
    let own = subst (λ (w : LineWriter). Appends (IsPiece before.writer.output w.head.now (nat_lt 0 old.count) n) (string_bytes old.text) text) took.writer piece in (
      appended_pushed before.writer.output before.writer.head.now nodes n old.count _ _ _ took.count took.text own,
      further ∙ length_further nodes n old.count took.count,
    )

-- with it the limit is reached
pub filled_by_one : (before old : Lines) (nodes later : List Located) (n : Located) (text : List ℕ) (count : ℕ) → TookLines before nodes old
    → Appends (IsPiece before.writer.output old.writer.head.now (nat_lt 0 old.count) n) (string_bytes old.text) text → count ≡ old.count + 1
    → is_reached old.limit count ≡ true
    → let shown = up_to before.limit (nodes ++ (n ∷ later)) in
    Appends (ArePieces before.writer.output before.writer.head.now shown) (string_bytes before.text) text × (count ≡ length shown)
filled_by_one before old nodes later n text count took piece further full =
    let one = one_taken before old nodes n text count took piece further in
    let done = nodes ++ n ∷ [] in
    let below : is_reached before.limit old.count ≡ false = ap (λ l. is_reached l old.count) (sym took.limit) ∙ took.more in
    let within : IsWithin before.limit count = subst (IsWithin before.limit) (sym further) (within_further before.limit old.count below) in
    let these : done ≡ up_to before.limit (nodes ++ (n ∷ later)) =
    reached before.limit done later (nodes ++ (n ∷ later)) count one.1 within (ap (λ l. is_reached l count) (sym took.limit) ∙ full) (sym (append_assoc nodes (n ∷ []) later)) in (
      subst (λ ns. Appends (ArePieces before.writer.output before.writer.head.now ns) (string_bytes before.text) text) these one.0,
      one.1 ∙ ap (λ (ns : List Located). length ns) these,
    )

-- what was written of all nodes, or up to the limit
pub pushed_either : (before now : Lines) (all : List Located) → before.limit ≡ limit_in before.writer.output.form before.writer.output.most → TookLines before all now ⊎ FilledLines before all now
    → Pushes before.writer.output before.writer.head.now all (string_bytes before.text) (string_bytes now.text) now.count
pushed_either before now all is either = grind (arith, nat_tests, common_steps, pushed_so_far, all_below)

-- ---- what is shown of the chosen nodes, by what a walk is asked for

-- whether there is a node, as one node tells
one_tells : (most : Option ℕ) (n m : Located) (ns ms : List Located) (count : ℕ) → count ≡ length (up_to (limit_in Nothing most) (n ∷ ns)) → (count ≤ 1) × ((count ≡ 0) ↔ (up_to most (m ∷ ms) ≡ []))
one_tells None n m ns ms count same = (grind (arith, length-take), (λ none. absurd (grind (arith, length-take)), λ none. absurd cc))
one_tells (Some zero) n m ns ms count same = (grind (arith, length-take), (λ _. refl, λ _. grind (arith, length-take)))
one_tells (Some (suc most)) n m ns ms count same = (grind (arith, length-take), (λ none. absurd (grind (arith, length-take)), λ none. absurd cc))

none_tells : (most : Option ℕ) (count : ℕ) → count ≡ length (up_to (limit_in Nothing most) []) → (count ≤ 1) × ((count ≡ 0) ↔ (up_to most [] ≡ []))
none_tells most count same = grind (arith, nat_tests, common_steps, length-take)

nothing_counted : (most : Option ℕ) (unique : Bool) (nodes : List Located) (count : ℕ) → count ≡ length (up_to (limit_in Nothing most) nodes)
    → (count ≤ 1) × ((count ≡ 0) ↔ (up_to most (once unique nodes) ≡ []))
nothing_counted most unique nodes count same = grind (arith, nat_tests, common_steps, none_tells, one_tells)

-- the lines and the count of the chosen nodes, in a form
shown_in : (form : Form) (output : Output) (head : List ℕ) (most : Option ℕ) (unique : Bool) (nodes : List Located) (pieces written shown : List ℕ) (count : ℕ)
    → count ≡ length (up_to (limit_in form most) (once (leaves_out_in form unique) nodes)) → ArePiecesIn form output head false (up_to (limit_in form most) (once (leaves_out_in form unique) nodes)) pieces
    → written ≡ opening form ++ pieces → IsClosedIn form output head count written shown
    → AreLinesIn form output head (up_to most (once unique nodes)) shown × IsCountIn form (up_to most (once unique nodes)) count
shown_in form output head most unique nodes pieces written shown count same h is closed = grind (arith, nat_tests, common_steps, lines_written, nothing_counted)

-- the lines and the count of the chosen nodes, by what is written before and of them, and what is made of it
pub chosen_shown : (output : Output) (head : List ℕ) (nodes : List Located) (opened written shown : List ℕ) (count : ℕ) → opened ≡ opening output.form
    → Pushes output head (asked output nodes) opened written count → IsClosedIn output.form output head count written shown → AreLines output head nodes shown × IsCount output nodes count
chosen_shown output head nodes opened written shown count begun pushed closed =
    let all : written ≡ opening output.form ++ pushed.0.0 = pushed.0.2 ∙ ap (λ (t : List ℕ). t ++ pushed.0.0) begun in
    shown_in output.form output head output.most output.unique nodes pushed.0.0 written shown count pushed.1 pushed.0.1 all closed

-- an array of which all but the end is written can be laid out
pub array_begun : (output : Output) (head : List ℕ) (nodes : List Located) (opened written : List ℕ) (count : ℕ) → opened ≡ opening output.form → Pushes output head nodes opened written count
    → output.form ≡ Json → ArePrintable (tokens (written ++ codes "]"))
array_begun output head nodes opened written count begun pushed is = grind (arith, nat_tests, common_steps, array_printable)
