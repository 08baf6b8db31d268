-- What is shown of the two files.
use Rattle.std.specs.Prelude.{◌≡◌, ◌≤◌, ◌++◌, ◌&&◌, ◌||◌, not, ℕ, Bool, true, false, List, [], ◌∷◌, Option, None, Some, codes, if◌then◌else◌, length, map, MatchBool, nat_eq, nat_lt, option_map, replicate}
use Rattle.std.specs.List.{flat_map}
use Rattle.std.proofs.Common.{ap, append-nil, arith, refl, suc, subst, sym, zero, ◌∙◌}
use Rattle.std.specs.Borrow.{Bor}
use Rattle.serde_json.specs.Data.{Data, array, item, member, no_items, no_members, number, object, unsigned}
use Rattle.serde_json.proofs.OnLiterals.{serde_json_on_literals}
use Rattle.serde_json.specs.Read.{read}
use Rattle.std.specs.Char.{encode_utf8}
use Rattle.std.specs.Fmt.{decimal, digits}
use Rattle.std.specs.Str.{bytes_eq, chars}
use Rattle.serde_json_path_nodes.specs.Location.{Step, by_name, by_position}
use Rattle.serde_json_path_nodes.specs.Text.{in_decimal, normal}
use Rattle.serde_json_path_functions.specs.Patterns.{builtin_functions}
use Rattle.serde_json_path_syntax.proofs.Words.{length-map}
use Rattle.serde_json_path.specs.Laws.{IsNormal, Normal}
use Rattle.serde_json_path.specs.declared.path.JsonPath.{JsonPath}
use Rattle.jsonpath_lines.specs.Output.{end_text}
use Rattle.jpq_options.specs.Options.{AsksFor}
use Rattle.jpq_options.specs.declared.options.Options.{Options}
use Rattle.jpq_options.specs.declared.options.Request.{Request}
use Rattle.jpq_program.specs.Answers.{AreAnswersOn, IsAnswerOn, IsArrayOf, look_after}
use Rattle.jpq_program.specs.Colours.{colours_for}
use Rattle.jpq_program.specs.Heads.{head_in, head_text}
use Rattle.jpq_options.specs.Options.{is_table}
use Rattle.jpq_program.specs.Looks.{Look, is_array}
use Rattle.jpq_program.specs.Rows.{IsRowOn, first_cells, header_cells, row_line}
use Rattle.jpq_program.specs.declared.colours.Colours.{Colours}
use Rattle.jpq_program.specs.Inputs.{AreInputsShown, AreKnown, IsInputShown, IsLineShown, IsNamedShown, IsUntil, Opens, Shown, has_enough}
use Rattle.jpq_program.specs.Bindings.{bindings_in}
use Rattle.jpq_program.specs.Run.{AreInputsFor, ArePaths, ComesOf, IsPathOf, IsPlainRun, IsShownFor, Reading, form_in, known_bytes, path_texts, texts_in_file, has_line_numbers, has_names, header_for, has_numbers, is_colored, is_each, look_in, names_in, opened_in, reading_in, total_for}
use Rattle.jpq_program.specs.declared.streams.Streams.{Streams}
use Rattle.std.specs.Io.KnownBytes.{Appends}
use Rattle.program_tests.proofs.AskedWords.{OptionsAre, asks_for_run, words}
use Rattle.program_tests.proofs.TwoItems.{ResultIsUnique, answer_is, line_to, plain, two_each}

-- ---- the documents

abbrev pub to_a : List Step
to_a = by_name (codes "a") ∷ []

abbrev pub to_b : List Step
to_b = by_name (codes "b") ∷ by_position 0 ∷ []

abbrev document : ℕ → ℕ → Data
document a b = object (member (codes "a") (number (unsigned a)) (member (codes "b") (array (item (number (unsigned b)) no_items)) no_members))

abbrev pub one : List ℕ
one = codes "{\"a\":1,\"b\":[2]}\n{\"b\":[4],\"a\":3}"

abbrev pub two : List ℕ
two = codes "\n{\"a\":5,\"b\":[6]}\n"

first_read : read (codes "{\"a\":1,\"b\":[2]}") ≡ Some (document 1 2)
unfolding serde_json_on_literals
first_read = refl

second_read : read (codes "{\"b\":[4],\"a\":3}") ≡ Some (document 3 4)
unfolding serde_json_on_literals
second_read = refl

third_read : read (codes "{\"a\":5,\"b\":[6]}") ≡ Some (document 5 6)
unfolding serde_json_on_literals
third_read = refl

-- what is known of the bytes of a file
abbrev pub bytes_of : List ℕ → Option (List ℕ)
bytes_of name = if bytes_eq name (codes "one") then Some one else if bytes_eq name (codes "two") then Some two else None

-- ---- what is shown of them

-- lines for these paths, with heads as these say
abbrev Shows : Look → Bool → Bool → Bool → List JsonPath → Shown
Shows look names lines numbers paths name line bytes before text count = AreAnswersOn builtin_functions paths look (head_text names lines numbers name line) bytes before text count

abbrev ShowsBoth : JsonPath → JsonPath → Shown
ShowsBoth p q = Shows plain true false true (p ∷ q ∷ [])

abbrev lines_for : List ℕ → ℕ → ℕ → List ℕ
lines_for name a b = line_to (head_text true false true name 1 1) to_a (number (unsigned a)) ++ line_to (head_text true false true name 1 2) to_b (number (unsigned b))

-- what the paths of a document are, and the laws by which they show what they do
pub record ArePathsTo (p q : JsonPath) : Type 0 where
  pub reading : Reading
  pub unbound : reading.bindings ≡ []
  pub first : IsPathOf reading (normal to_a) p
  pub second : IsPathOf reading (normal to_b) q
  pub normal_a : IsNormal to_a
  pub normal_b : IsNormal to_b
  pub unique : ResultIsUnique

document_shown : (p q : JsonPath) (name : List ℕ) (line : ℕ) (bytes : List ℕ) (before : ℕ) (text : List ℕ) (count a b : ℕ) → ArePathsTo p q → read bytes ≡ Some (document a b) → ShowsBoth p q name line bytes before text count
    → (text ≡ lines_for name a b) × (count ≡ 2)
document_shown p q name line bytes before text count a b paths reads are =
    two_each (λ number so_far path. IsAnswerOn builtin_functions path (look_after plain so_far) (nat_lt before so_far) (head_text true false true name line number) bytes) 1 before p q
    (line_to (head_text true false true name line 1) to_a (number (unsigned a))) (line_to (head_text true false true name line 2) to_b (number (unsigned b))) text 1 1 count
    (λ l t n is. answer_is to_a paths.reading builtin_functions p (nat_lt before l) (head_text true false true name line 1) bytes t n (document a b) (number (unsigned a)) paths.normal_a paths.unique paths.unbound paths.first reads refl refl is)
    (λ l t n is. answer_is to_b paths.reading builtin_functions q (nat_lt before l) (head_text true false true name line 2) bytes t n (document a b) (number (unsigned b)) paths.normal_b paths.unique paths.unbound paths.second reads refl refl is) are

one_shown : (p q : JsonPath) (before : ℕ) (text : List ℕ) (count : ℕ) → ArePathsTo p q → IsInputShown (ShowsBoth p q) true (codes "one") one before text count → (text ≡ lines_for (codes "one") 1 2 ++ lines_for (codes "one") 3 4) × (count ≡ 4)
one_shown p q before text count paths are =
    two_each (λ number so_far line. IsLineShown (ShowsBoth p q) (codes "one") number line so_far) 1 before (codes "{\"a\":1,\"b\":[2]}\n") (codes "{\"b\":[4],\"a\":3}") (lines_for (codes "one") 1 2) (lines_for (codes "one") 3 4) text 2 2 count
    (λ l t n is. document_shown p q (codes "one") 1 (codes "{\"a\":1,\"b\":[2]}") l t n 1 2 paths first_read is)
    (λ l t n is. document_shown p q (codes "one") 2 (codes "{\"b\":[4],\"a\":3}") l t n 3 4 paths second_read is) are

two_shown : (p q : JsonPath) (before : ℕ) (text : List ℕ) (count : ℕ) → ArePathsTo p q → IsInputShown (ShowsBoth p q) true (codes "two") two before text count → (text ≡ lines_for (codes "two") 5 6) × (count ≡ 2)
two_shown p q before text count paths are =
    two_each (λ number so_far line. IsLineShown (ShowsBoth p q) (codes "two") number line so_far) 1 before (codes "\n") (codes "{\"a\":5,\"b\":[6]}\n") [] (lines_for (codes "two") 5 6) text 0 2 count
    (λ l t n is. is)
    (λ l t n is. document_shown p q (codes "two") 2 (codes "{\"a\":5,\"b\":[6]}") l t n 5 6 paths third_read is) are

-- what the run writes
abbrev pub written : List ℕ
written = codes "one\t1\t$['a']\t1\none\t2\t$['b'][0]\t2\n" ++ (codes "one\t1\t$['a']\t3\none\t2\t$['b'][0]\t4\n" ++ codes "two\t1\t$['a']\t5\ntwo\t2\t$['b'][0]\t6\n")

these_lines : (lines_for (codes "one") 1 2 ++ lines_for (codes "one") 3 4) ++ lines_for (codes "two") 5 6 ≡ written
unfolding digits chars encode_utf8 in_decimal
these_lines = refl

same_bytes : (xs ys : List ℕ) → Some xs ≡ Some ys → xs ≡ ys
same_bytes xs ys same = cc

files_shown : (p q : JsonPath) (known : List ℕ → Option (List ℕ)) (text : List ℕ) (count : ℕ) → ArePathsTo p q → known (codes "one") ≡ Some one → known (codes "two") ≡ Some two
    → AreInputsShown (ShowsBoth p q) true known (codes "one" ∷ codes "two" ∷ []) 0 text count → (text ≡ written) × (count ≡ 6)
files_shown p q known text count paths is_one is_two are =
    let shown = two_each (λ number so_far name. IsNamedShown (ShowsBoth p q) true known name so_far) 1 0 (codes "one") (codes "two")
    (lines_for (codes "one") 1 2 ++ lines_for (codes "one") 3 4) (lines_for (codes "two") 5 6) text 4 2 count
    (λ l t n named. one_shown p q l t n paths (subst (λ (bytes : List ℕ). IsInputShown (ShowsBoth p q) true (codes "one") bytes l t n) (same_bytes named.0 one (sym named.1 ∙ is_one)) named.2))
    (λ l t n named. two_shown p q l t n paths (subst (λ (bytes : List ℕ). IsInputShown (ShowsBoth p q) true (codes "two") bytes l t n) (same_bytes named.0 two (sym named.1 ∙ is_two)) named.2)) are in
    (shown.0 ∙ these_lines, shown.1)

-- ---- by the options of the run

pub is_plain : (o : Options) → OptionsAre o → IsPlainRun o
is_plain o are = record {
  check = are.check;
  each = ap is_each are.shown;
}

two_named : (o : Options) → OptionsAre o → length o.files.items ≡ 2
two_named o are = sym (length-map o.files.items (λ (s : Bor (List ℕ)). s.now)) ∙ ap (λ (l : List (List ℕ)). length l) are.files

pub names_are : (o : Options) → OptionsAre o → names_in o ≡ codes "one" ∷ codes "two" ∷ []
names_are o are = λ i. if nat_eq (two_named o are i) 0 then codes "-" ∷ [] else are.files i

look_is : (o : Options) (colours : Colours) → colours.taken ≡ false → OptionsAre o → look_in o colours ≡ plain
look_is o colours none are = λ i. record {
  output = record { form = form_in (are.shown i); layout = are.layout i; end = are.end i; unique = are.unique i; most = are.most i };
  most_of_all = are.most_of_all i;
  summed = are.total i;
  unit = if are.tab i then Some (codes "\t") else option_map (λ count. replicate count 32) (are.indent i);
  ascii = are.ascii i;
  colours = if is_colored (are.color i) (none i) then Some (colours_for colours) else None;
}

has_names_is : (o : Options) → OptionsAre o → has_names o ≡ true
has_names_is o are = λ i. are.with_filename i || (nat_lt 1 (two_named o are i) && (not (are.no_filename i) && not (is_table (are.shown i))))

has_line_numbers_is : (o : Options) → OptionsAre o → has_line_numbers o ≡ false
has_line_numbers_is o are = λ i. are.line_number i || (is_array (form_in (are.shown i)) && are.lines i)

has_numbers_is : (o : Options) → OptionsAre o → has_numbers o 2 ≡ true
has_numbers_is o are = λ i. nat_lt 1 2 && (not (are.no_path_number i) && not (is_table (are.shown i)))

-- what is shown for two paths by these options is what is written
pub run_shown : (o : Options) (colours : Colours) (p q : JsonPath) (known : List ℕ → Option (List ℕ)) (text : List ℕ) (count : ℕ) → colours.taken ≡ false → OptionsAre o → ArePathsTo p q → known (codes "one") ≡ Some one → known (codes "two") ≡ Some two
    → AreInputsFor o (IsShownFor o colours (p ∷ q ∷ [])) known text count → (text ≡ written) × (count ≡ 6)
run_shown o colours p q known text count none are paths is_one is_two shown = files_shown p q known text count paths is_one is_two
    (subst (λ (names : List (List ℕ)). AreInputsShown (ShowsBoth p q) true known names 0 text count) (names_are o are)
    (subst (λ (lines : Bool). AreInputsShown (ShowsBoth p q) lines known (names_in o) 0 text count) are.lines
    (subst (λ (Is : Shown). AreInputsShown Is o.lines known (names_in o) 0 text count) shows shown)))
  where
    look : look_in o colours ≡ plain
    look = look_is o colours none are

    shows : IsUntil o.most_of_all (IsShownFor o colours (p ∷ q ∷ [])) ≡ ShowsBoth p q
    shows = λ i name line bytes before text count.
        let head = head_in (is_array (form_in (are.shown i))) (are.layout i) (has_names_is o are i) (has_line_numbers_is o are i) (has_numbers_is o are i) name line in
        let each = AreAnswersOn builtin_functions (p ∷ q ∷ []) (look i) head bytes before in
        MatchBool (has_enough (are.most_of_all i) before) ((text ≡ []) × (count ≡ 0))
        (MatchBool (is_table (are.shown i)) (IsRowOn builtin_functions (p ∷ q ∷ []) (row_line (are.shown i) (are.end i)) (first_cells (has_names_is o are i) (has_line_numbers_is o are i) name line) bytes text count)
        (MatchBool (is_array (form_in (are.shown i))) (IsArrayOf (look i).output each text count) (each text count)))

-- no row stands before
no_header : (o : Options) (texts : List (List ℕ)) → OptionsAre o → header_for o texts ≡ []
no_header o texts are = λ i. if are.header i && is_table o.shown then row_line o.shown o.end (header_cells (has_names o) (has_line_numbers o) texts) else []

-- and no sum after
no_total : (o : Options) (count : ℕ) → OptionsAre o → total_for o count ≡ []
no_total o count are = λ i. if are.total i then decimal count ++ end_text o.end else []

-- two texts were read as two paths
pub two_paths : (reading : Reading) (texts : List (List ℕ)) (paths : List JsonPath) (a b : List ℕ) → texts ≡ a ∷ b ∷ [] → ArePaths reading texts paths → (p q : JsonPath) × (paths ≡ p ∷ q ∷ []) × IsPathOf reading a p × IsPathOf reading b q
two_paths reading texts paths a b is are = of_two paths (subst (λ (t : List (List ℕ)). ArePaths reading t paths) is are)
  where
    of_two : (paths : List JsonPath) → ArePaths reading (a ∷ b ∷ []) paths → (p q : JsonPath) × (paths ≡ p ∷ q ∷ []) × IsPathOf reading a p × IsPathOf reading b q
    of_two [] are = absurd are
    of_two (p ∷ []) are = absurd are.1
    of_two (p ∷ q ∷ r ∷ rest) are = absurd are.1.1
    of_two (p ∷ q ∷ []) are = (p, q, refl, are.0, are.1.0)

-- the paths are those of the words
texts_are : (known : List ℕ → Option (List ℕ)) (o : Options) → OptionsAre o → path_texts known o ≡ codes "$['a']" ∷ codes "$['b'][0]" ∷ []
texts_are known o are =
    let words = map (λ (s : Bor (List ℕ)). s.now) o.paths.items in
    ap (λ (files : List (List ℕ)). words ++ flat_map (λ (name : List ℕ). texts_in_file (known_bytes known name)) files) are.paths_files ∙ append-nil words ∙ are.paths

-- the files are opened
opened_are : (o : Options) → OptionsAre o → opened_in o ≡ codes "one" ∷ codes "two" ∷ []
opened_are o are = ap (λ (files : List (List ℕ)). files ++ (if o.check then [] else names_in o)) are.paths_files
    ∙ ap (λ (check : Bool). if check then [] else names_in o) are.check ∙ names_are o are

-- of names that are known those that were opened are these
pub opened_named : (before now names : List (List ℕ)) (all : Bool) → before ≡ [] → all ≡ true → Opens (Some before) (if all then Some now else None) names → now ≡ names
opened_named before now names all none are opens =
    let known = subst (λ (all : Bool). Opens (Some before) (if all then Some now else None) names) are opens in
    known.2 ∙ ap (λ (earlier : List (List ℕ)). earlier ++ names) (same known.0 known.1 ∙ none)
  where
    same : (earlier : List (List ℕ)) → Some before ≡ Some earlier → earlier ≡ before
    same earlier is = cc

-- ---- what comes of the run

none_known : (known : List ℕ → Option (List ℕ)) → AreKnown known []
none_known known i within = absurd (omega (arith, within))

both_known : (known : List ℕ → Option (List ℕ)) → known (codes "one") ≡ Some one → known (codes "two") ≡ Some two → AreKnown known (codes "one" ∷ codes "two" ∷ [])
both_known known is_one is_two zero within = (one, is_one)
both_known known is_one is_two (suc zero) within = (two, is_two)
both_known known is_one is_two (suc (suc i)) within = absurd (omega (arith, within))

text_of_a : normal to_a ≡ codes "$['a']"
unfolding chars encode_utf8 in_decimal
text_of_a = refl

text_of_b : normal to_b ≡ codes "$['b'][0]"
unfolding chars encode_utf8 in_decimal
text_of_b = refl

-- what comes of words that ask for the run
pub run_comes : {I W E : Type 0} (out : W → Option (List ℕ)) (err : E → Option (List ℕ)) (known : List ℕ → Option (List ℕ)) (opened : I → Option (List (List ℕ))) (colours : Colours) (asked : Request) (inputs later : I) (before after : Streams W E) (status : ℕ) → colours.taken ≡ false → Normal → ResultIsUnique
    → AsksFor words asked → ComesOf out err known opened colours asked inputs later before after status → known (codes "one") ≡ Some one → known (codes "two") ≡ Some two → status ≤ 1
    → (status ≡ 0) × Appends (out before.out) (out after.out) written × Opens (opened inputs) (opened later) (codes "one" ∷ codes "two" ∷ [])
unfolding encode_utf8
run_comes {I} {W} {E} out err known opened colours asked inputs later before after status none normal_law unique asks comes is_one is_two few =
    let run = asks_for_run asked asks in
    let o = run.0 in
    let are = run.2 in
    let came = subst (λ (a : Request). ComesOf out err known opened colours a inputs later before after status) run.1 comes in
    let files_known = subst (λ (files : List (List ℕ)). AreKnown known files) (sym are.paths_files) (none_known known) in
    let are_known = subst (λ (names : List (List ℕ)). AreKnown known names) (sym (names_are o are)) (both_known known is_one is_two) in
    let ended = (came.1 (is_plain o are) files_known are_known).0 few in
    let answered = ended.0 in
    let both = two_paths (reading_in o) (path_texts known o) answered.paths (codes "$['a']") (codes "$['b'][0]") (texts_are known o are) answered.are in
    let paths : ArePathsTo both.0 both.1 = record {
      reading = reading_in o;
      unbound = ap bindings_in are.bindings;
      first = subst (λ (text : List ℕ). IsPathOf (reading_in o) text both.0) (sym text_of_a) both.3;
      second = subst (λ (text : List ℕ). IsPathOf (reading_in o) text both.1) (sym text_of_b) both.4;
      normal_a = normal_law to_a ((97 ∷ [], (refl, refl)), tt) tt;
      normal_b = normal_law to_b ((98 ∷ [], (refl, refl)), tt) (grind arith, tt);
      unique = unique;
    } in
    let own = answered.shown.0 in
    let rest : answered.text ≡ own = answered.shown.2 ∙ ap (λ (first : List ℕ). first ++ (own ++ total_for o answered.count)) (no_header o (path_texts known o) are)
    ∙ ap (λ (last : List ℕ). own ++ last) (no_total o answered.count are) ∙ append-nil own in
    let shown = run_shown o colours both.0 both.1 known own answered.count none are paths is_one is_two
    (subst (λ (ps : List JsonPath). AreInputsFor o (IsShownFor o colours ps) known own answered.count) both.2 answered.shown.1) in (
      answered.ends ∙ ap (λ n. if nat_lt 0 n then 0 else 1) shown.1,
      subst (λ (text : List ℕ). Appends (out before.out) (out after.out) text) (rest ∙ shown.0) answered.out,
      subst (Opens (opened inputs) (opened later)) (opened_are o are) (ended.1 are.most_of_all),
    )
