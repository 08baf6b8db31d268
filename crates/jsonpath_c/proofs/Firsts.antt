-- The first of some nodes, with another after them.
use Rattle.jsonpath_c.proofs.Words.{◌≡◌, ◌≤◌, ◌<◌, ◌+◌, ◌∙◌, ◌⊎◌, inl, inr, ℕ, Bool, false, Some, string_bytes, List, [], ◌∷◌, ◌++◌, length, refl, sym, ap, subst, arith, append_assoc, append-nil, common_steps, length-append, length_push, map-append, Located, KeptNode, kept, Bor, IsLine, IsLineOfEach, compact_lines, Form, lines_pushed, AreFirstNodes, IsNodeBeyond, BoundedLines, AreEnough, AreWithin, HasNoRoomFor, IsLeftAfter, TookLines, Limits}

-- ---- lists within limits

beyond : (limits left : Limits) (shown : List Located) (next : Located) (list : List KeptNode) → AreWithin limits left shown list
    → HasNoRoomFor next left → IsNodeBeyond limits shown next
beyond limits left shown next list are (inl none) = inl (omega (arith, are.nodes, none))
beyond limits left shown next list are (inr short) = inr (omega (arith, are.bytes, short))

-- there is another, for which there is room
pub node_taken : (limits left less : Limits) (shown : List Located) (n : Located) (list longer : List KeptNode) → AreWithin limits left shown list
    → (longer ≡ list ++ kept n ∷ []) × IsLeftAfter n left less → AreWithin limits less (shown ++ n ∷ []) longer
node_taken limits left less shown n list longer are (is, room) = record {
  same = is ∙ ap (λ (l : List KeptNode). l ++ kept n ∷ []) are.same ∙ sym (map-append kept shown (n ∷ []));
  nodes = omega (arith, are.nodes, room.0, length_push shown n);
  bytes = grind (arith, common_steps, are.bytes, room.1);
}

-- there is another, for which there is no room
pub cut_within : (limits left : Limits) (shown : List Located) (next : Located) (later all : List Located) (list : List KeptNode) → AreWithin limits left shown list
    → all ≡ shown ++ (next ∷ later) → HasNoRoomFor next left → AreFirstNodes limits all list false
cut_within limits left shown next later all list are is full = record {
  shown = shown;
  more = next ∷ later;
  first = is;
  kept = are.same;
  few = omega (arith, are.nodes);
  short = omega (arith, are.bytes);
  complete = λ e. cc;
  cut = λ _. (next, later, refl, beyond limits left shown next list are full);
}

-- ---- lines within limits

-- another, for which there was room
pub line_taken : (old now : BoundedLines) (nodes : List Located) (n : Located) (line : List ℕ) → TookLines old nodes → IsLine (compact_lines old.form) [] n line
    → now.form ≡ old.form → now.limits ≡ old.limits → string_bytes now.text ≡ string_bytes old.text ++ line → now.count ≡ old.count + 1
    → now.count ≤ old.limits.now.nodes → length (string_bytes old.text) + length line ≤ old.limits.now.bytes → TookLines now (nodes ++ n ∷ [])
line_taken old now nodes n line took is form limits text count few short =
    let longer : length (string_bytes now.text) ≡ length (string_bytes old.text) + length line = ap length text ∙ length-append (string_bytes old.text) line in
    let more : length (nodes ++ n ∷ []) ≡ length nodes + 1 = length_push nodes n in
    let nodes_same : now.limits.now.nodes ≡ old.limits.now.nodes = ap (λ (l : Bor Limits). l.now.nodes) limits in
    let bytes_same : now.limits.now.bytes ≡ old.limits.now.bytes = ap (λ (l : Bor Limits). l.now.bytes) limits in
    let lines : IsLineOfEach (compact_lines old.form) [] (nodes ++ n ∷ []) (string_bytes now.text) =
    subst (IsLineOfEach (compact_lines old.form) [] (nodes ++ n ∷ [])) (sym text)
    (lines_pushed (compact_lines old.form) [] nodes (string_bytes old.text) line n took.lines is) in
    record {
      lines = subst (λ (f : Form). IsLineOfEach (compact_lines f) [] (nodes ++ n ∷ []) (string_bytes now.text)) (sym form) lines;
      count = omega (arith, count, took.count, more);
      few = omega (arith, few, nodes_same);
      short = omega (arith, longer, short, bytes_same);
    }

-- ---- the first of some nodes, by those of their beginning

first_with : (limits : Limits) (nodes found later : List Located) (list : List KeptNode) (all : Bool) → nodes ≡ found ++ later → AreFirstNodes limits found list all
    → (later ≡ []) ⊎ (limits.nodes < length found) → AreFirstNodes limits nodes list all
first_with limits nodes found later list all is are (inl none) =
    let same : nodes ≡ found = is ∙ ap (λ (l : List Located). found ++ l) none ∙ append-nil found in
    subst (λ (n : List Located). AreFirstNodes limits n list all) (sym same) are
first_with limits nodes found later list all is are (inr many) =
    let longer : length found ≡ length are.shown + length are.more = ap length are.first ∙ length-append are.shown are.more in
    record {
      shown = are.shown;
      more = are.more ++ later;
      first = is ∙ ap (λ (l : List Located). l ++ later) are.first ∙ append_assoc are.shown are.more later;
      kept = are.kept;
      few = are.few;
      short = are.short;
      complete = λ e. let none : length are.more ≡ 0 = ap length (are.complete e) in let few = are.few in absurd (omega arith);
      cut = λ e. let (next, rest, more, full) = are.cut e in (next, rest ++ later, ap (λ (l : List Located). l ++ later) more, full);
    }

-- the first of enough nodes are the first of all
pub first_of_enough : (limits : Limits) (nodes found : List Located) (list : List KeptNode) (all : Bool) → AreEnough (Some limits.nodes) nodes found → AreFirstNodes limits found list all
    → AreFirstNodes limits nodes list all
first_of_enough limits nodes found list all enough are = first_with limits nodes found enough.0 list all enough.1 are enough.2
