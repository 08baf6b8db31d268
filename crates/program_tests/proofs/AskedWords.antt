-- What the words of a run ask for.
use Rattle.std.specs.Prelude.{◌≡◌, true, false, List, [], ◌∷◌, None, Some, codes, map}
use Rattle.std.proofs.Common.{inl, inr, refl, subst, sym, ◌∙◌}
use Rattle.std.specs.Borrow.{Bor}
use Rattle.clap.proofs.OnLiterals.{clap_on_literals}
use Rattle.clap.specs.Words.{IsAmong, Kinds, Text, fault_of, matches_of}
use Rattle.clap.specs.declared.builder.value_parser.ValueParser.{ValueParser}
use Rattle.clap.specs.declared.builder.value_parser.ValueParser.TheVariants as parser
use Rattle.clap.specs.declared.error.kind.ErrorKind.{ErrorKind}
use Rattle.jpq_options.specs.Options.{AreOptions, AsksFor, first_form, forms, given_forms, misuse_in}
use Rattle.jpq_options.specs.Table.{IsColorParser, jpq}
use Rattle.jpq_options.specs.declared.options.Color.TheVariants.{Auto}
use Rattle.jpq_options.specs.declared.options.Options.{Options}
use Rattle.jpq_options.specs.declared.options.Request.{Request}
use Rattle.jpq_options.specs.declared.options.Request.TheVariants.{Print, Run, WrongUse}
use Rattle.jpq_options.specs.declared.options.Shown.TheVariants.{Nodes}
use Rattle.jsonpath_lines.specs.declared.forms.Form.TheVariants.{LocationAndValue}
use Rattle.jsonpath_lines.specs.declared.forms.Layout.TheVariants.{Compact}
use Rattle.jsonpath_lines.specs.declared.forms.LineEnd.TheVariants.{LineFeed}

abbrev pub words : List Text
words = codes "jpq" ∷ codes "-L" ∷ codes "-e" ∷ codes "$['a']" ∷ codes "-e" ∷ codes "$['b'][0]" ∷ codes "one" ∷ codes "two" ∷ []

-- ---- no fault is in them

head_is : (x y : Text) (xs ys : List Text) → (x ∷ xs) ≡ (y ∷ ys) → x ≡ y
head_is x y xs ys same = cc

tail_is : (x y : Text) (xs ys : List Text) → (x ∷ xs) ≡ (y ∷ ys) → xs ≡ ys
tail_is x y xs ys same = cc

abbrev NoFault : Bor (List (Bor Text)) → Bor Text → Bor Text → Bor Text → Type 0
NoFault names a b c = fault_of (jpq (parser.Names (record names { now = a ∷ b ∷ c ∷ [] }))) words ≡ []

no_fault : (names : Bor (List (Bor Text))) (a b c : Bor Text) → NoFault names (record a { now = codes "auto" }) (record b { now = codes "always" }) (record c { now = codes "never" })
unfolding clap_on_literals
no_fault names a b c = refl

-- whatever lends the names of `--color`
no_fault_of : (names : Bor (List (Bor Text))) (list : List (Bor Text)) → map (λ s. s.now) list ≡ (codes "auto" ∷ codes "always" ∷ codes "never" ∷ []) → fault_of (jpq (parser.Names (record names { now = list }))) words ≡ []
no_fault_of names [] is = absurd cc
no_fault_of names (a ∷ []) is = absurd cc
no_fault_of names (a ∷ b ∷ []) is = absurd cc
no_fault_of names (a ∷ b ∷ c ∷ d ∷ rest) is = absurd cc
no_fault_of names (a ∷ b ∷ c ∷ []) is =
    let first = head_is a.now (codes "auto") _ _ is in
    let later = tail_is a.now (codes "auto") _ _ is in
    let second = head_is b.now (codes "always") _ _ later in
    let third = head_is c.now (codes "never") _ _ (tail_is b.now (codes "always") _ _ later) in
    subst (λ (t : Text). NoFault names (record a { now = t }) b c) (sym first)
    (subst (λ (t : Text). NoFault names (record a { now = codes "auto" }) (record b { now = t }) c) (sym second)
    (subst (λ (t : Text). NoFault names (record a { now = codes "auto" }) (record b { now = codes "always" }) (record c { now = t })) (sym third) (no_fault names a b c)))

no_fault_by : (colors : ValueParser) → IsColorParser colors → fault_of (jpq colors) words ≡ []
no_fault_by colors is = subst (λ (p : ValueParser). fault_of (jpq p) words ≡ []) (sym is.1) (no_fault_of is.0 is.0.now is.2)

no_misuse : (colors : ValueParser) → misuse_in (matches_of (jpq colors) words) ≡ None
unfolding clap_on_literals
no_misuse colors = refl

-- ---- the options

pub record OptionsAre (o : Options) : Type 0 where
  pub paths : map (λ s. s.now) o.paths.items ≡ codes "$['a']" ∷ codes "$['b'][0]" ∷ []
  pub paths_files : map (λ s. s.now) o.paths_files.items ≡ []
  pub bindings : map (λ s. s.now) o.bindings.items ≡ []
  pub files : map (λ s. s.now) o.files.items ≡ codes "one" ∷ codes "two" ∷ []
  pub shown : o.shown ≡ Nodes LocationAndValue
  pub header : o.header ≡ false
  pub layout : o.layout ≡ Compact
  pub indent : o.indent ≡ None
  pub tab : o.tab ≡ false
  pub ascii : o.ascii ≡ false
  pub end : o.end ≡ LineFeed
  pub most : o.most ≡ None
  pub most_of_all : o.most_of_all ≡ None
  pub total : o.total ≡ false
  pub unique : o.unique ≡ false
  pub lines : o.lines ≡ true
  pub line_number : o.line_number ≡ false
  pub with_filename : o.with_filename ≡ false
  pub no_filename : o.no_filename ≡ false
  pub no_path_number : o.no_path_number ≡ false
  pub check : o.check ≡ false
  pub color : o.color ≡ Auto

options_are : (colors : ValueParser) (o : Options) → AreOptions (matches_of (jpq colors) words) (first_form (given_forms forms (matches_of (jpq colors) words))) o → OptionsAre o
unfolding clap_on_literals
options_are colors o are = record {
  paths = are.paths;
  paths_files = are.paths_files;
  bindings = are.bindings;
  files = are.files;
  shown = are.shown;
  header = are.header;
  layout = are.layout;
  indent = are.indent;
  tab = are.tab;
  ascii = are.ascii;
  end = are.end;
  most = are.most;
  most_of_all = are.most_of_all;
  total = are.total;
  unique = are.unique;
  lines = are.lines;
  line_number = are.line_number;
  with_filename = are.with_filename;
  no_filename = are.no_filename;
  no_path_number = are.no_path_number;
  check = are.check;
  color = are.color;
}

none_among : (kind : ErrorKind) (faults : Kinds) → faults ≡ [] → IsAmong kind faults → ⊥
none_among kind faults none among = subst (λ (ks : Kinds). IsAmong kind ks) none among

-- they ask for a run with these
pub asks_for_run : (asked : Request) → AsksFor words asked → (o : Options) × (asked ≡ Run o) × OptionsAre o
asks_for_run (Run o) h = (o, refl, options_are h.0 o h.2.2)
asks_for_run (Print text) h = absurd (none_among h.2.0 (fault_of (jpq h.0) words) (no_fault_by h.0 h.1) h.2.1)
asks_for_run (WrongUse kind text) h = elim h.2 [
  | inl fault ↦ absurd (none_among kind (fault_of (jpq h.0) words) (no_fault_by h.0 h.1) fault.0)
  | inr misuse ↦ absurd (is_none kind (sym (no_misuse h.0) ∙ misuse.1))
]
  where
    is_none : (kind : ErrorKind) → None ≡ Some kind → ⊥
    is_none kind same = cc
