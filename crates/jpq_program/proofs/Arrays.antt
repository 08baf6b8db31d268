-- What is shown of a document in one array, or for each path.
use Rattle.jpq_program.proofs.Words.{◌≡◌, ◌∙◌, ◌++◌, ◌+◌, ◌||◌, ℕ, Bool, true, false, List, [], Option, refl, sym, ap, subst, inr, append_assoc, arith, common_steps, nat_tests, codes, nat_lt, string_bytes, Adds, Answered, Answering, AnswersAll, AnswersAs, AnswersEach, AppendsBeginning, Begins, IsArrayInPart, IsArrayOf, MatchBool, Output, Shown, Streams, Writes, all_in_part_by, array_end, array_text, each_by, each_in_part_by, end_text, is_array}
use Rattle.jpq_program.proofs.Nodes.{adds_both, appends_nothing}
use Rattle.jpq_program.proofs.Shown.{answered_begun, begun_still}

-- ---- what is shown for each path

-- what is shown of a document, in one array or not
abbrev InArray : Bool → Answering → Shown
InArray array answering name number bytes before text count =
    MatchBool array (IsArrayOf answering.showing.output (each_by answering name number bytes before) text count) (each_by answering name number bytes before text count)

abbrev InArrayInPart : Bool → Answering → Shown
InArrayInPart array answering name number bytes before text count =
    MatchBool array (IsArrayInPart answering.showing.output (each_in_part_by answering name number bytes before) text count) (each_in_part_by answering name number bytes before text count)

-- what is shown for each path in no array is all that is shown
pub each_as_all : {W E : Type 0} (contents : W → Option (List ℕ)) (answering : Answering) (name : List ℕ) (number : ℕ) (bytes : List ℕ) (before now : Streams W E) → is_array answering.showing.output.form ≡ false
    → AnswersEach contents answering name number bytes before now → AnswersAll contents answering name number bytes before now
each_as_all contents answering name number bytes before now none answered = subst (λ (a : Bool). AnswersAs contents answering (InArray a answering) (InArrayInPart a answering) name number bytes before now) (sym none) answered

pub each_begun_as_all : {W E : Type 0} (contents : W → Option (List ℕ)) (answering : Answering) (name : List ℕ) (number : ℕ) (bytes : List ℕ) (before now : Streams W E) → is_array answering.showing.output.form ≡ false
    → Begins contents (each_in_part_by answering name number bytes before.total) before now → Begins contents (all_in_part_by answering name number bytes before.total) before now
each_begun_as_all contents answering name number bytes before now none begun = subst (λ (a : Bool). Begins contents (InArrayInPart a answering name number bytes before.total) before now) (sym none) begun

-- ---- arrays

-- a text that is pending after what was
pushed : {W E : Type 0} (contents : W → Option (List ℕ)) (before now : Streams W E) (text : List ℕ) → now.out ≡ before.out → string_bytes now.pending ≡ string_bytes before.pending ++ text → Writes contents before now text
pushed {W} contents before now text out pending = subst (λ (o : W). Adds (contents before.out) (string_bytes before.pending) (contents o) (string_bytes now.pending) text) (sym out) ([], appends_nothing (contents before.out), sym pending)

-- what is shown for each path, after an opening bracket and before the end, is an array
pub array_answered : {W E : Type 0} {silent : Bool} (contents : W → Option (List ℕ)) (output : Output) (Are ArePart : List ℕ → ℕ → Type 0) (before opened old now : Streams W E) → opened ≡ record before { pending = opened.pending }
    → string_bytes opened.pending ≡ string_bytes before.pending ++ codes "[" → Answered silent contents Are ArePart opened old → now ≡ record old { pending = now.pending }
    → string_bytes now.pending ≡ string_bytes old.pending ++ (array_end output.layout (nat_lt before.total old.total) ++ end_text output.end) → Answered silent contents (IsArrayOf output Are) (IsArrayInPart output ArePart) before now
array_answered {W} {E} contents output Are ArePart before opened old now bracket opening each closed closing = record {
  text = array_text output holds each.text;
  count = each.count;
  whole = λ right.
      let own = each.whole (sym (ap (λ (s : Streams W E). s.outcome.refused) closed) ∙ right) in
      (sym (ap (λ (s : Streams W E). s.outcome.refused) bracket) ∙ own.0, (each.text, own.1, refl));
  part = inr (each.text, each.part, refl);
  writes = adds_both (contents before.out) (contents opened.out) (contents now.out) (string_bytes before.pending) (string_bytes opened.pending) (string_bytes now.pending) (codes "[") (each.text ++ end)
      (pushed contents before opened (codes "[") (ap (λ (s : Streams W E). s.out) bracket) opening)
      (adds_both (contents opened.out) (contents old.out) (contents now.out) (string_bytes opened.pending) (string_bytes old.pending) (string_bytes now.pending) each.text end each.writes (pushed contents old now end (ap (λ (s : Streams W E). s.out) closed) (closing ∙ ap (λ (any : Bool). string_bytes old.pending ++ (array_end output.layout any ++ end_text output.end)) held)));
  selected = ap (λ (s : Streams W E). s.outcome.selected) closed ∙ each.selected ∙ ap (λ (s : Streams W E). s.outcome.selected || holds) bracket;
  total = ap (λ (s : Streams W E). s.total) closed ∙ counted;
  told = λ silent right. ap (λ (s : Streams W E). s.err) closed ∙ each.told silent (sym (ap (λ (s : Streams W E). s.outcome.refused) closed) ∙ right) ∙ ap (λ (s : Streams W E). s.err) bracket;
}
  where
    holds : Bool
    holds = nat_lt 0 each.count

    end : List ℕ
    end = array_end output.layout holds ++ end_text output.end

    counted : old.total ≡ before.total + each.count
    counted = each.total ∙ ap (λ (s : Streams W E). s.total + each.count) bracket

    by_count : (before total count : ℕ) → total ≡ before + count → nat_lt before total ≡ nat_lt 0 count
    by_count before total count is = grind (arith, nat_tests, common_steps)

    held : nat_lt before.total old.total ≡ holds
    held = by_count before.total old.total each.count counted

-- a beginning of what is shown for each path, after the bracket, is the beginning of an array
pub array_begun : {W E : Type 0} (contents : W → Option (List ℕ)) (output : Output) (ArePart : List ℕ → ℕ → Type 0) (before opened now : Streams W E) → opened ≡ record before { pending = opened.pending }
    → string_bytes opened.pending ≡ string_bytes before.pending ++ codes "[" → Begins contents ArePart opened now → Begins contents (IsArrayInPart output ArePart) before now
array_begun {W} {E} contents output ArePart before opened now bracket opening begun = (
  array_text output (nat_lt 0 begun.1) begun.0,
  begun.1,
  inr (begun.0, begun.2, refl),
  subst (λ (o : W). AppendsBeginning (contents o) (contents now.out) (string_bytes before.pending ++ array_text output (nat_lt 0 begun.1) begun.0)) (ap (λ (s : Streams W E). s.out) bracket)
      (begun.3.0, begun.3.1 ++ end, whole ∙ ap (λ (t : List ℕ). t ++ end) begun.3.2 ∙ append_assoc begun.3.0 begun.3.1 end, begun.3.3),
)
  where
    end : List ℕ
    end = array_end output.layout (nat_lt 0 begun.1) ++ end_text output.end

    whole : string_bytes before.pending ++ (codes "[" ++ (begun.0 ++ end)) ≡ (string_bytes opened.pending ++ begun.0) ++ end
    whole = sym (append_assoc (string_bytes before.pending) (codes "[") (begun.0 ++ end)) ∙ ap (λ (t : List ℕ). t ++ (begun.0 ++ end)) (sym opening) ∙ sym (append_assoc (string_bytes opened.pending) begun.0 end)

-- of what is shown for each path, and nothing after it, a beginning is out
pub array_left : {W E : Type 0} {silent : Bool} (contents : W → Option (List ℕ)) (output : Output) (Are ArePart : List ℕ → ℕ → Type 0) (before opened old now : Streams W E) → opened ≡ record before { pending = opened.pending }
    → string_bytes opened.pending ≡ string_bytes before.pending ++ codes "[" → Answered silent contents Are ArePart opened old → now.out ≡ old.out → Begins contents (IsArrayInPart output ArePart) before now
array_left contents output Are ArePart before opened old now bracket opening each same =
    array_begun contents output ArePart before opened now bracket opening (begun_still contents ArePart opened old now (answered_begun contents Are ArePart opened old each) same)

-- such an array is all that is shown of a document
pub array_as_all : {W E : Type 0} (contents : W → Option (List ℕ)) (answering : Answering) (name : List ℕ) (number : ℕ) (bytes : List ℕ) (before now : Streams W E) → is_array answering.showing.output.form ≡ true
    → AnswersAs contents answering (InArray true answering) (InArrayInPart true answering) name number bytes before now → AnswersAll contents answering name number bytes before now
array_as_all contents answering name number bytes before now is answered = subst (λ (a : Bool). AnswersAs contents answering (InArray a answering) (InArrayInPart a answering) name number bytes before now) (sym is) answered

pub array_begun_as_all : {W E : Type 0} (contents : W → Option (List ℕ)) (answering : Answering) (name : List ℕ) (number : ℕ) (bytes : List ℕ) (before now : Streams W E) → is_array answering.showing.output.form ≡ true
    → Begins contents (InArrayInPart true answering name number bytes before.total) before now → Begins contents (all_in_part_by answering name number bytes before.total) before now
array_begun_as_all contents answering name number bytes before now is begun = subst (λ (a : Bool). Begins contents (InArrayInPart a answering name number bytes before.total) before now) (sym is) begun
