-- What is shown of some nodes, with that of another node after it; the lines that the pieces make up.
use Rattle.jsonpath_lines.proofs.Words.{nat_tests, common_steps, ◌≡◌, ℕ, ◌+◌, Bool, true, false, nat_lt, List, [], ◌∷◌, ◌++◌, length, length-append, codes, decimal, refl, sym, ap, subst, ◌∙◌, append_assoc, append-nil, arith, Located, AreLinesIn, IsLine, IsLineOfEach, array_of, end_text, Appends, ArePieces, ArePiecesIn, IsPiece, IsClosedIn, IsPieceIn, opening, Form, Json, Count, Nothing, Output}
use Rattle.jsonpath_lines.proofs.Arrays.{array_is, json_laid_out}

-- ---- one node further

-- whether a node after these is later than the first
abbrev pub later_after : Bool → List Located → Bool
later_after later [] = later
later_after later (n ∷ ns) = true

later_after-length : (ns : List Located) → nat_lt 0 (length ns) ≡ later_after false ns
later_after-length ns = grind (arith, nat_tests, common_steps)

pushed : (form : Form) (output : Output) (head : List ℕ) (later : Bool) (ns : List Located) (pieces piece : List ℕ) (n : Located) → ArePiecesIn form output head later ns pieces
    → IsPieceIn form output head (later_after later ns) n piece → ArePiecesIn form output head later (ns ++ n ∷ []) (pieces ++ piece)
pushed form output head later [] pieces piece n h is = (piece, [], is, refl, ap (λ (t : List ℕ). t ++ piece) h ∙ sym (append-nil piece))
pushed form output head later (m ∷ ns) pieces piece n h is =
    let further = pushed form output head true ns h.1 piece n h.3 (subst (λ later. IsPieceIn form output head later n piece) (always ns) is) in
    (h.0, h.1 ++ piece, h.2, further, ap (λ (t : List ℕ). t ++ piece) h.4 ∙ append_assoc h.0 h.1 piece)
  where
    always : (ns : List Located) → true ≡ later_after true ns
    always [] = refl
    always (n ∷ ns) = refl

-- the pieces of some nodes, and that of the node after them
pub pieces_pushed : (form : Form) (output : Output) (head : List ℕ) (ns : List Located) (pieces piece : List ℕ) (n : Located) (count : ℕ) → count ≡ length ns → ArePiecesIn form output head false ns pieces
    → IsPieceIn form output head (nat_lt 0 count) n piece → ArePiecesIn form output head false (ns ++ n ∷ []) (pieces ++ piece)
pieces_pushed form output head ns pieces piece n count same h is = grind (arith, nat_tests, common_steps, later_after-length, pushed)

-- the same of a text to which the pieces are appended
pub appended_pushed : (output : Output) (head : List ℕ) (ns : List Located) (n : Located) (count : ℕ) (old text new : List ℕ) → count ≡ length ns → Appends (ArePieces output head ns) old text
    → Appends (IsPiece output head (nat_lt 0 count) n) text new → Appends (ArePieces output head (ns ++ n ∷ [])) old new
appended_pushed output head ns n count old text new same before piece = grind (arith, nat_tests, common_steps, pieces_pushed)

-- and they are one more
pub length_further : (ns : List Located) (n : Located) (count : ℕ) → count ≡ length ns → count + 1 ≡ length (ns ++ n ∷ [])
length_further ns n count same = grind (arith, length-append)

-- the lines of some nodes, and that of the node after them
pub lines_pushed : (output : Output) (head : List ℕ) (ns : List Located) (lines line : List ℕ) (n : Located) → IsLineOfEach output head ns lines → IsLine output head n line
    → IsLineOfEach output head (ns ++ n ∷ []) (lines ++ line)
lines_pushed output head [] lines line n h is = (line, [], is, refl, ap (λ (t : List ℕ). t ++ line) h ∙ sym (append-nil line))
lines_pushed output head (m ∷ ns) lines line n h is =
    (h.0, h.1 ++ line, h.2, lines_pushed output head ns h.1 line n h.3 is, ap (λ (t : List ℕ). t ++ line) h.4 ∙ append_assoc h.0 h.1 line)

-- ---- the lines that the pieces make up

lines_of_each : (form : Form) (output : Output) (head : List ℕ) → ((later : Bool) (n : Located) (piece : List ℕ) → IsPieceIn form output head later n piece → IsLine output head n piece)
    → (later : Bool) (ns : List Located) (pieces : List ℕ) → ArePiecesIn form output head later ns pieces → IsLineOfEach output head ns pieces
lines_of_each form output head is later [] pieces h = h
lines_of_each form output head is later (n ∷ ns) pieces h = (h.0, h.1, is later n h.0 h.2, lines_of_each form output head is true ns h.1 h.3, h.4)

none_of : (form : Form) (output : Output) (head : List ℕ) → ((later : Bool) (n : Located) (piece : List ℕ) → IsPieceIn form output head later n piece → piece ≡ [])
    → (later : Bool) (ns : List Located) (pieces : List ℕ) → ArePiecesIn form output head later ns pieces → pieces ≡ []
none_of form output head is later [] pieces h = h
none_of form output head is later (n ∷ ns) pieces h =
    h.4 ∙ ap (λ (t : List ℕ). t ++ h.1) (is later n h.0 h.2) ∙ none_of form output head is true ns h.1 h.3

-- what is written for nodes in a form, and what is made of it, is what is shown of them
pub lines_written : (form : Form) (output : Output) (head : List ℕ) (ns : List Located) (pieces written shown : List ℕ) (count : ℕ) → count ≡ length ns → ArePiecesIn form output head false ns pieces
    → written ≡ opening form ++ pieces → IsClosedIn form output head count written shown → AreLinesIn form output head ns shown
lines_written Json output head ns pieces written shown count same h is closed =
    let array = array_is output head ns pieces (written ++ codes "]") h (ap (λ (t : List ℕ). t ++ codes "]") is) in
    (closed.0, json_laid_out output.layout (array_of ns) (written ++ codes "]") closed.0 array closed.1, closed.2)
lines_written Count output head ns pieces written shown count same h is closed =
    closed ∙ ap (λ count. head ++ (decimal count ++ end_text output.end)) same
lines_written Nothing output head ns pieces written shown count same h is closed =
    closed ∙ is ∙ none_of Nothing output head (λ later n piece h. h) false ns pieces h
lines_written form output head ns pieces written shown count same h is closed =
    subst (IsLineOfEach output head ns) (sym (closed ∙ is)) (lines_of_each form output head (λ later n piece h. h) false ns pieces h)
