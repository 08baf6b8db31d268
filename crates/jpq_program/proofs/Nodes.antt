-- Nodes that are written, one after the other.
use Rattle.jsonpath_lines.specs.Inside as lines
use Rattle.jpq_program.proofs.Words.{◌≡◌, ◌||◌, ℕ, ◌+◌, Bool, nat_lt, is_after, true, false, List, [], ◌∷◌, ◌++◌, Option, None, length, length-append, refl, sym, ap, subst, ◌∙◌, append_assoc, append-nil, arith, common_steps, nat_tests, string_bytes, Appends, Appends-trans, Bor, Some, Located, ArePieces, IsPiece, Look, look_of, up_to, is_reached, IsWithin, reached, within_further, all_below, AreEnough, take-append-le, Adds, AppendsBeginning, BeginsFirst, BeginsNodes, IfSome, TookFirst, ◌≤◌, WritesNodes, WritesNode, KeepsRest, TookNodes, FilledNodes, Showing, Written, has_nodes, suc, ◌<◌, get_or, map, take, drop, map-append, map_push, take_more, take-append-drop, drop-cons}

-- ---- what goes out

pub appends_nothing : (out : Option (List ℕ)) → Appends out out []
appends_nothing None = tt
appends_nothing (Some xs) = sym (append-nil xs)

pub adds_nothing : (out : Option (List ℕ)) (waiting : List ℕ) → Adds out waiting out waiting []
adds_nothing out waiting = ([], appends_nothing out, append-nil waiting)

pub adds_both : (out later last : Option (List ℕ)) (waiting then_waiting last_waiting text more : List ℕ)
    → Adds out waiting later then_waiting text → Adds later then_waiting last last_waiting more → Adds out waiting last last_waiting (text ++ more)
adds_both out later last waiting then_waiting last_waiting text more first second = (
  first.0 ++ second.0,
  Appends-trans out later last first.0 second.0 first.1 second.1,
  sym (append_assoc waiting text more) ∙ ap (λ t. t ++ more) first.2 ∙ append_assoc first.0 then_waiting more
      ∙ ap (λ t. first.0 ++ t) second.2 ∙ sym (append_assoc first.0 second.0 last_waiting),
)

-- of what was added a beginning is out
pub adds_begun : (out later : Option (List ℕ)) (waiting left text : List ℕ) → Adds out waiting later left text → AppendsBeginning out later (waiting ++ text)
adds_begun out later waiting left text adds = (adds.0, left, adds.2, adds.1)

pub none_begun : (out : Option (List ℕ)) (text : List ℕ) → AppendsBeginning out out text
none_begun out text = ([], text, refl, appends_nothing out)

-- the same of a text that was added, and another after it
pub begun_after : (out later last : Option (List ℕ)) (waiting left text more : List ℕ) → Adds out waiting later left text → AppendsBeginning later last (left ++ more) → AppendsBeginning out last (waiting ++ (text ++ more))
begun_after out later last waiting left text more adds begun = (
  adds.0 ++ begun.0,
  begun.1,
  sym (append_assoc waiting text more) ∙ ap (λ t. t ++ more) adds.2 ∙ append_assoc adds.0 left more ∙ ap (λ t. adds.0 ++ t) begun.2 ∙ sym (append_assoc adds.0 begun.0 begun.1),
  Appends-trans out later last adds.0 begun.0 adds.1 begun.3,
)

-- ---- nodes

-- some nodes, and others after them
pub pieces_both : (look : Look) (later : Bool) (head : List ℕ) (ns ms : List Located) (text more : List ℕ) → ArePieces look later head ns text → ArePieces look (later || nat_lt 0 (length ns)) head ms more
    → ArePieces look later head (ns ++ ms) (text ++ more)
pieces_both look later head [] ms text more h rest =
    subst (ArePieces look later head ms) (ap (λ t. t ++ more) (sym h)) (subst (λ (l : Bool). ArePieces look l head ms more) (still later) rest)
  where
    still : (b : Bool) → (b || nat_lt 0 0) ≡ b
    still b = grind (arith, nat_tests, common_steps)
pieces_both look later head (n ∷ ns) ms text more h rest = (
  h.0,
  h.1 ++ more,
  h.2,
  pieces_both look true head ns ms h.1 more h.3 (subst (λ (l : Bool). ArePieces look l head ms more) (after_one later (length ns)) rest),
  ap (λ t. t ++ more) h.4 ∙ append_assoc h.0 h.1 more,
)
  where
    after_one : (b : Bool) (k : ℕ) → (b || nat_lt 0 (suc k)) ≡ (true || nat_lt 0 k)
    after_one b k = grind (arith, nat_tests, common_steps)

-- a node that was pending, of which some went out
pub node_written : (look : Look) (later : Bool) (head : List ℕ) (n : Located) (out later_out : Option (List ℕ)) (waiting pushed left : List ℕ) → lines.Appends (IsPiece look later head n) waiting pushed
    → Adds out pushed later_out left [] → (text : List ℕ) × ArePieces look later head (n ∷ []) text × Adds out waiting later_out left text
node_written look later head n out later_out waiting pushed left node adds = (
  node.0 ++ [],
  (node.0, [], node.1, refl, refl),
  (adds.0, adds.1, ap (λ t. waiting ++ t) (append-nil node.0) ∙ sym node.2 ∙ sym (append-nil pushed) ∙ adds.2),
)

-- of a node that was pending a beginning went out
pub node_begun : (look : Look) (later : Bool) (head : List ℕ) (n : Located) (out later_out : Option (List ℕ)) (waiting pushed : List ℕ) → lines.Appends (IsPiece look later head n) waiting pushed
    → AppendsBeginning out later_out pushed → (text : List ℕ) × ArePieces look later head (n ∷ []) text × AppendsBeginning out later_out (waiting ++ text)
node_begun look later head n out later_out waiting pushed node begun =
    (node.0 ++ [], (node.0, [], node.1, refl, refl), subst (AppendsBeginning out later_out) (node.2 ∙ ap (λ t. waiting ++ t) (sym (append-nil node.0))) begun)

pub plus_zero : (n : ℕ) → n ≡ n + 0
plus_zero n = grind arith

pub zero_plus : (n : ℕ) → 0 + n ≡ n + 0
zero_plus n = grind arith

-- ---- nodes that are written

pub keeps_both : {W E : Type 0} (before old now : Written W E) → KeepsRest before old → KeepsRest old now → KeepsRest before now
keeps_both before old now first second = record {
  same = second.same ∙ first.same;
  showing = second.showing ∙ first.showing;
  head = second.head ∙ first.head;
  later = second.later ∙ first.later;
  limit = second.limit ∙ first.limit;
  outcome = second.outcome ∙ first.outcome;
  err = second.err ∙ first.err;
  total = second.total ∙ first.total;
}

still_shown : {W E : Type 0} (before old : Written W E) → KeepsRest before old → has_nodes before.showing.now.output.form ≡ true → has_nodes old.showing.now.output.form ≡ true
still_shown before old rest has = subst (λ (s : Bor Showing). has_nodes s.now.output.form ≡ true) (sym rest.showing) has

-- after so many nodes there is one before, or there was
after_nodes : {W E : Type 0} (before old : Written W E) (count : ℕ) → KeepsRest before old → old.count ≡ before.count + count → is_after old ≡ (is_after before || nat_lt 0 count)
after_nodes before old count rest many = ap (λ (later : Bool). later || nat_lt 0 old.count) rest.later ∙ ap (λ n. before.is_later || nat_lt 0 n) many ∙ counted before.is_later before.count count
  where
    counted : (later : Bool) (n m : ℕ) → (later || nat_lt 0 (n + m)) ≡ ((later || nat_lt 0 n) || nat_lt 0 m)
    counted later n m = grind (arith, nat_tests, common_steps)

-- nodes that were shown since are shown as before, after so many
nodes_since : {W E : Type 0} (before old : Written W E) (count : ℕ) (nodes : List Located) (text : List ℕ) → KeepsRest before old → old.count ≡ before.count + count → ArePieces (look_of old.showing.now) (is_after old) old.head.now nodes text
    → ArePieces (look_of before.showing.now) (is_after before || nat_lt 0 count) before.head.now nodes text
nodes_since before old count nodes text rest many are = subst (λ (later : Bool). ArePieces (look_of before.showing.now) later before.head.now nodes text) (after_nodes before old count rest many)
    (subst (λ (h : Bor (List ℕ)). ArePieces (look_of before.showing.now) (is_after old) h.now nodes text) rest.head
    (subst (λ (s : Bor Showing). ArePieces (look_of s.now) (is_after old) old.head.now nodes text) rest.showing are))

pub writes_both : {W E : Type 0} (contents : W → Option (List ℕ)) (ns ms : List Located) (before old now : Written W E) → KeepsRest before old → old.count ≡ before.count + length ns
    → WritesNodes contents ns before old → WritesNodes contents ms old now → WritesNodes contents (ns ++ ms) before now
writes_both contents ns ms before old now rest many first second has =
    let one = first has in
    let two = second (still_shown before old rest has) in (
      one.0 ++ two.0,
      pieces_both (look_of before.showing.now) (is_after before) before.head.now ns ms one.0 two.0 one.1 (nodes_since before old (length ns) ms two.0 rest many two.1),
      adds_both (contents before.streams.now.out) (contents old.streams.now.out) (contents now.streams.now.out) (string_bytes before.streams.now.pending) (string_bytes old.streams.now.pending) (string_bytes now.streams.now.pending) one.0 two.0 one.2 two.2,
    )

-- none was written
pub took_none : {W E : Type 0} (contents : W → Option (List ℕ)) (w : Written W E) → w.stop ≡ None → is_reached w.limit w.count ≡ false → TookNodes contents w [] w
took_none contents w stop more = record {
  rest = record { same = refl; showing = refl; head = refl; later = refl; limit = refl; outcome = refl; err = refl; total = refl };
  stop = stop;
  count = plus_zero w.count;
  more = more;
  written = λ has. ([], refl, adds_nothing (contents w.streams.now.out) (string_bytes w.streams.now.pending));
}

-- another is written
pub took_one : {W E : Type 0} (contents : W → Option (List ℕ)) (before : Written W E) (nodes : List Located) (n : Located) (old now : Written W E) → TookNodes contents before nodes old
    → WritesNode contents n true old now → TookNodes contents before (nodes ++ n ∷ []) now
took_one contents before nodes n old now took step = record {
  rest = keeps_both before old now took.rest step.rest;
  stop = stopped;
  count = step.count ∙ ap (λ c. c + 1) took.count ∙ further before.count nodes n;
  more = (step.further refl).1;
  written = writes_both contents nodes (n ∷ []) before old now took.rest took.count took.written (step.node took.stop stopped);
}
  where
    stopped : now.stop ≡ None
    stopped = (step.further refl).0 ∙ took.stop

    further : (count : ℕ) (nodes : List Located) (n : Located) → (count + length nodes) + 1 ≡ count + length (nodes ++ n ∷ [])
    further count nodes n = grind (arith, length-append)

-- with it there are enough, or writing failed
pub filled_by_one : {W E : Type 0} (contents : W → Option (List ℕ)) (before : Written W E) (nodes : List Located) (n : Located) (later : List Located) (old now : Written W E)
    → TookNodes contents before nodes old → WritesNode contents n false old now → FilledNodes contents before (nodes ++ (n ∷ later)) now
filled_by_one contents before nodes n later old now took step = record {
  rest = keeps_both before old now took.rest step.rest;
  count = λ none stopped. counted none ∙ ap (λ (ns : List Located). length ns) (these none stopped);
  written = λ none stopped. subst (λ ns. WritesNodes contents ns before now) (these none stopped)
      (writes_both contents nodes (n ∷ []) before old now took.rest took.count took.written (step.node took.stop stopped));
}
  where
    done : List Located
    done = nodes ++ n ∷ []

    counted : before.count ≡ 0 → now.count ≡ length done
    counted none = grind (arith, length-append, step.count, took.count, none)

    these : before.count ≡ 0 → now.stop ≡ None → done ≡ up_to before.limit (nodes ++ (n ∷ later))
    these none stopped =
        let below : is_reached before.limit old.count ≡ false = ap (λ l. is_reached l old.count) (sym took.rest.limit) ∙ took.more in
        let within : IsWithin before.limit now.count = subst (IsWithin before.limit) (sym step.count) (within_further before.limit old.count below) in
        let full : is_reached before.limit now.count ≡ true = ap (λ l. is_reached l now.count) (sym (step.rest.limit ∙ took.rest.limit)) ∙ step.enough refl stopped in
        reached before.limit done later (nodes ++ (n ∷ later)) now.count (counted none) within full (sym (append_assoc nodes (n ∷ []) later))

-- all were written, where their limit is not reached
pub filled_by_all : {W E : Type 0} (contents : W → Option (List ℕ)) (before : Written W E) (nodes : List Located) (now : Written W E) → TookNodes contents before nodes now → FilledNodes contents before nodes now
filled_by_all contents before nodes now took = record {
  rest = took.rest;
  count = λ none _. counted none ∙ ap (λ (ns : List Located). length ns) (these none);
  written = λ none _. subst (λ ns. WritesNodes contents ns before now) (these none) took.written;
}
  where
    counted : before.count ≡ 0 → now.count ≡ length nodes
    counted none = grind (arith, took.count, none)

    below : is_reached before.limit now.count ≡ false
    below = ap (λ l. is_reached l now.count) (sym took.rest.limit) ∙ took.more

    these : before.count ≡ 0 → nodes ≡ up_to before.limit nodes
    these none = all_below before.limit nodes now.count (counted none) below

-- where none is counted, none was written
pub took_nothing : {W E : Type 0} (contents : W → Option (List ℕ)) (before : Written W E) (nodes : List Located) (now : Written W E) → TookNodes contents before nodes now → before.count ≡ 0 → now.count ≡ 0 → nodes ≡ []
took_nothing contents before nodes now took fresh still = empty nodes (grind (arith, took.count, fresh, still))
  where
    empty : (ns : List Located) → length ns ≡ 0 → ns ≡ []
    empty [] is = refl
    empty (n ∷ ns) is = absurd (omega (arith, is))

-- the nodes of another query were, where of a query before it none was
pub filled_again : {W E : Type 0} (contents : W → Option (List ℕ)) (before : Written W E) (none nodes : List Located) (old now : Written W E) → TookNodes contents before none old → before.count ≡ 0 → old.count ≡ 0
    → FilledNodes contents old nodes now → FilledNodes contents before nodes now
filled_again contents before none nodes old now took fresh still filled = record {
  rest = keeps_both before old now took.rest filled.rest;
  count = λ _ stopped. filled.count still stopped ∙ ap (λ l. length (up_to l nodes)) took.rest.limit;
  written = λ _ stopped. subst (λ (ns : List Located). WritesNodes contents (ns ++ up_to before.limit nodes) before now) (took_nothing contents before none old took fresh still)
      (writes_both contents none (up_to before.limit nodes) before old now took.rest took.count took.written
      (subst (λ l. WritesNodes contents (up_to l nodes) old now) took.rest.limit (filled.written still stopped)));
}

-- those of the first places that were found are enough
pub filled_by_enough : {W E : Type 0} (contents : W → Option (List ℕ)) (before : Written W E) (nodes found : List Located) (now : Written W E) → AreEnough before.limit nodes found
    → FilledNodes contents before found now → FilledNodes contents before nodes now
filled_by_enough contents before nodes found now enough filled = record {
  rest = filled.rest;
  count = λ none stopped. filled.count none stopped ∙ ap (λ (ns : List Located). length ns) (same_beginning before.limit nodes found enough);
  written = λ none stopped. subst (λ ns. WritesNodes contents ns before now) (same_beginning before.limit nodes found enough) (filled.written none stopped);
}
  where
    same_beginning : (limit : Option ℕ) (nodes found : List Located) → AreEnough limit nodes found → up_to limit found ≡ up_to limit nodes
    same_beginning limit nodes found enough = grind (arith, nat_tests, common_steps, take-append-le, append-nil)

-- ---- nodes of which a beginning is out

pub begins_nothing : {W E : Type 0} (contents : W → Option (List ℕ)) (w : Written W E) → BeginsFirst contents w [] w
begins_nothing contents w = record {
  first = [];
  others = [];
  split = refl;
  few = λ _. no_more w.limit;
  begins = record {
    rest = record { same = refl; showing = refl; head = refl; later = refl; limit = refl; outcome = refl; err = refl; total = refl };
    written = λ _. ([], refl, none_begun (contents w.streams.now.out) (string_bytes w.streams.now.pending ++ []));
  };
}
  where
    no_more : (limit : Option ℕ) → IfSome limit (λ most. 0 ≤ most)
    no_more None = tt
    no_more (Some most) = omega arith

pub took_begun : {W E : Type 0} (contents : W → Option (List ℕ)) (before now : Written W E) (nodes : List Located) → TookNodes contents before nodes now → BeginsNodes contents nodes before now
took_begun contents before now nodes took = record {
  rest = took.rest;
  written = λ has.
      let written = took.written has in
      (written.0, written.1, adds_begun (contents before.streams.now.out) (contents now.streams.now.out) (string_bytes before.streams.now.pending) (string_bytes now.streams.now.pending) written.0 written.2);
}

-- after nodes that were written
begins_further : {W E : Type 0} (contents : W → Option (List ℕ)) (before old now : Written W E) (nodes more : List Located) → TookNodes contents before nodes old → BeginsNodes contents more old now → BeginsNodes contents (nodes ++ more) before now
begins_further contents before old now nodes more took begins = record {
  rest = keeps_both before old now took.rest begins.rest;
  written = λ has.
      let one = took.written has in
      let two = begins.written (still_shown before old took.rest has) in (
        one.0 ++ two.0,
        pieces_both (look_of before.showing.now) (is_after before) before.head.now nodes more one.0 two.0 one.1 (nodes_since before old (length nodes) more two.0 took.rest took.count two.1),
        begun_after (contents before.streams.now.out) (contents old.streams.now.out) (contents now.streams.now.out) (string_bytes before.streams.now.pending) (string_bytes old.streams.now.pending) one.0 two.0 one.2 two.2,
      );
}

few_more : (limit : Option ℕ) (count n : ℕ) → is_reached limit count ≡ false → n ≤ count + 1 → IfSome limit (λ most. n ≤ most)
few_more None count n below few = tt
few_more (Some most) count n below few = grind (arith, nat_tests, common_steps)

below_limit : {W E : Type 0} (contents : W → Option (List ℕ)) (before now : Written W E) (nodes : List Located) → TookNodes contents before nodes now → is_reached before.limit now.count ≡ false
below_limit contents before now nodes took = ap (λ l. is_reached l now.count) (sym took.rest.limit) ∙ took.more

-- of nodes that were written there are not more than are wanted
pub took_few : {W E : Type 0} (contents : W → Option (List ℕ)) (before now : Written W E) (nodes : List Located) → TookNodes contents before nodes now → before.count ≡ 0 → IfSome before.limit (λ most. length nodes ≤ most)
took_few contents before now nodes took none = few_more before.limit now.count (length nodes) (below_limit contents before now nodes took) (grind (arith, took.count, none))

-- of some nodes the first were written, and a beginning of one more, or of none, is out
pub begins_first : {W E : Type 0} (contents : W → Option (List ℕ)) (before old now : Written W E) (nodes done more others : List Located) → TookNodes contents before done old → BeginsNodes contents more old now → length more ≤ 1
    → nodes ≡ done ++ (more ++ others) → BeginsFirst contents before nodes now
begins_first contents before old now nodes done more others took begins one split = record {
  first = done ++ more;
  others = others;
  split = split ∙ sym (append_assoc done more others);
  few = λ none. few_more before.limit old.count (length (done ++ more)) (below_limit contents before old done took) (grind (arith, length-append, took.count, none, one));
  begins = begins_further contents before old now done more took begins;
}

-- the first were written
pub begins_done : {W E : Type 0} (contents : W → Option (List ℕ)) (before now : Written W E) (nodes done others : List Located) → TookNodes contents before done now → nodes ≡ done ++ others → BeginsFirst contents before nodes now
begins_done contents before now nodes done others took split = record {
  first = done;
  others = others;
  split = split;
  few = took_few contents before now done took;
  begins = took_begun contents before now done took;
}

-- the nodes of another query, where of a query before it none was written
pub begins_again : {W E : Type 0} (contents : W → Option (List ℕ)) (before old now : Written W E) (none nodes : List Located) → TookNodes contents before none old → before.count ≡ 0 → old.count ≡ 0
    → BeginsFirst contents old nodes now → BeginsFirst contents before nodes now
begins_again contents before old now none nodes took fresh still begins = record {
  first = begins.first;
  others = begins.others;
  split = begins.split;
  few = λ _. subst (λ l. IfSome l (λ most. length begins.first ≤ most)) took.rest.limit (begins.few still);
  begins = subst (λ (ns : List Located). BeginsNodes contents (ns ++ begins.first) before now) (took_nothing contents before none old took fresh still)
      (begins_further contents before old now none begins.first took begins.begins);
}

pub took_again : {W E : Type 0} (contents : W → Option (List ℕ)) (before old now : Written W E) (none nodes : List Located) → TookNodes contents before none old → before.count ≡ 0 → old.count ≡ 0
    → TookFirst contents old nodes now → TookFirst contents before nodes now
took_again {W} {E} contents before old now none nodes took fresh still later = record {
  first = later.first;
  others = later.others;
  split = later.split;
  took = subst (λ (ns : List Located). TookNodes contents before (ns ++ later.first) now) (took_nothing contents before none old took fresh still) both;
}
  where
    counted : (count : ℕ) (ns ms : List Located) → (count + length ns) + length ms ≡ count + length (ns ++ ms)
    counted count ns ms = grind (arith, length-append)

    both : TookNodes contents before (none ++ later.first) now
    both = record {
      rest = keeps_both before old now took.rest later.took.rest;
      stop = later.took.stop;
      count = later.took.count ∙ ap (λ c. c + length later.first) took.count ∙ counted before.count none later.first;
      more = later.took.more;
      written = writes_both contents none later.first before old now took.rest took.count took.written later.took.written;
    }

-- of the first places those that were found
pub begins_found : {W E : Type 0} (contents : W → Option (List ℕ)) (before now : Written W E) (nodes found : List Located) → AreEnough before.limit nodes found → BeginsFirst contents before found now → BeginsFirst contents before nodes now
begins_found contents before now nodes found enough begins = record {
  first = begins.first;
  others = begins.others ++ enough.0;
  split = enough.1 ∙ ap (λ (ns : List Located). ns ++ enough.0) begins.split ∙ append_assoc begins.first begins.others enough.0;
  few = begins.few;
  begins = begins.begins;
}

-- ---- nodes of a list

pub split_mapped : {A B : Type 0} (f : A → B) (xs : List A) (i : ℕ) (x : A) → i < length xs → x ≡ get_or xs i x → map f xs ≡ map f (take i xs) ++ (f x ∷ map f (drop (suc i) xs))
split_mapped f xs i x lt is = ap (map f) (sym (take-append-drop i xs) ∙ ap (λ l. take i xs ++ l) (drop-cons xs i x lt ∙ ap (λ y. y ∷ drop (suc i) xs) (sym is))) ∙ map-append f (take i xs) (x ∷ drop (suc i) xs)

pub further_mapped : {A B : Type 0} (f : A → B) (xs : List A) (i : ℕ) (x : A) → i < length xs → x ≡ get_or xs i x → map f (take (i + 1) xs) ≡ map f (take i xs) ++ f x ∷ []
further_mapped f xs i x lt is = ap (map f) (take_more xs i x lt ∙ ap (λ y. take i xs ++ y ∷ []) (sym is)) ∙ map_push f (take i xs) x
