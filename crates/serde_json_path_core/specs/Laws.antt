-- Laws of the definitions.
use Rattle.std.specs.Prelude.{◌≡◌, ◌≢◌, ◌≤◌, ℕ, ℤ, List, [], ◌∷◌, ◌++◌, length, map, ◌⊎◌, ◌↔◌, Some}
use Rattle.serde_json_path_core.specs.Imports.{Data, Step, child_at, StepBefore, Located, QueryKind, Query, query, current, Segments, no_segments, segment, SegmentKind, child, descendant, Segment, relation, equal, not_equal, less, less_or_equal, Operand, IsSingular, view, Value, IsInLiteralRange, FunctionSet, KeepsTypes, all_numbers, IsIn, IsInOrder, IsTyped, IsTypedComparable}
use Rattle.serde_json_path_core.specs.Compared.{Compared, nothing, value, billionths, AreEqual}
use Rattle.serde_json_path_core.specs.Height.{IsHeight}
use Rattle.serde_json_path_core.specs.Derivation.{beneath, Triple, start_of, Before}
use Rattle.serde_json_path_core.specs.Meaning.{Derives, HoldsBasic, IsResult}

-- the result of a singular query has one node at most (RFC 9535, section 2.3.5.1)
abbrev pub SingularQuerySelectsAtMostOne : Type 0
SingularQuerySelectsAtMostOne =
    (F : FunctionSet) (top : Data) (q : Query) (node : Data) (list : List Located) → IsSingular q → IsResult F top q node list → length list ≤ 1

-- `!=` holds exactly where `==` does not, under a function set that keeps types (section 2.3.5.2.2)
abbrev pub NotEqualNegatesEqual : Type 0
NotEqualNegatesEqual =
    (F : FunctionSet) (top : Data) (a b : Operand) (v : Data) → KeepsTypes F → IsTypedComparable F.signature a → IsTypedComparable F.signature b
    → HoldsBasic F top (relation a not_equal b) v ↔ (HoldsBasic F top (relation a equal b) v → ⊥)

-- by all numbers every value of a document equals itself, and so do Nothing and every literal; equal sides are equal either
-- way round, and sides that equal the same are equal (section 2.3.5.2.2)
pub record EqualityIsAnEquivalence : Type 0 where
  pub documents : (document : Value) → AreEqual all_numbers (value (view document)) (value (view document))
  pub literals : (amount : ℤ) → IsInLiteralRange amount → AreEqual all_numbers (billionths amount) (billionths amount)
  pub nothings : AreEqual all_numbers nothing nothing
  pub symmetric : (a b : Compared) → AreEqual all_numbers a b → AreEqual all_numbers b a
  pub transitive : (a b c : Compared) → AreEqual all_numbers a b → AreEqual all_numbers b c → AreEqual all_numbers a c

-- `<=` holds exactly where `<` or `==` does (section 2.3.5.2.2)
abbrev pub LessOrEqualIsEither : Type 0
LessOrEqualIsEither =
    (F : FunctionSet) (top : Data) (a b : Operand) (v : Data)
    → HoldsBasic F top (relation a less_or_equal b) v ↔ (HoldsBasic F top (relation a less b) v ⊎ HoldsBasic F top (relation a equal b) v)

-- the children of a value with their steps, each once, in document order (section 2.5.2.2)
abbrev pub AreChildren : Data → List (Step × Data) → Type 0
AreChildren v cs = IsInOrder (λ (a b : Step × Data). StepBefore a.0 b.0) cs × ((c : Step × Data) → IsIn c cs ↔ (child_at v c.0 ≡ Some c.1))

-- the results of the query at each of these nodes, below the node's location, joined
abbrev pub AreResultsAt : FunctionSet → Data → Query → List Located → List Located → Type 0
AreResultsAt F top q [] list = list ≡ []
AreResultsAt F top q (n ∷ nodes) list =
    (first later : List Located) × IsResult F top q n.value first × AreResultsAt F top q nodes later
    × (list ≡ map (beneath n.location) first ++ later)

-- the same at each of these children
abbrev pub AreSubtreeResults : FunctionSet → Data → Query → List (Step × Data) → List Located → Type 0
AreSubtreeResults F top q cs list = AreResultsAt F top q (map (λ c. record { location = c.0 ∷ []; value = c.1 }) cs) list

-- a descendant segment gives the child segment's results at the node, then those of each child's subtree (section 2.5.2.2)
abbrev pub DescendantsInDocumentOrder : Type 0
DescendantsInDocumentOrder =
    (F : FunctionSet) (top : Data) (seg : Segment) (more : Segments) (v : Data) (cs : List (Step × Data)) (list here below : List Located)
    → IsTyped F.signature (query current (segment descendant seg more))
    → IsResult F top (query current (segment descendant seg more)) v list
    → IsResult F top (query current (segment child seg more)) v here
    → AreChildren v cs → AreSubtreeResults F top (query current (segment descendant seg more)) cs below
    → list ≡ here ++ below

-- every well-typed query has a result at every node (section 2.1.2)
abbrev pub EveryQueryHasAResult : Type 0
EveryQueryHasAResult =
    (F : FunctionSet) (top : Data) (q : Query) (node : Data) → IsTyped F.signature q → (list : List Located) × IsResult F top q node list

-- one of the two holds, and not both
abbrev pub ExactlyOne : Type 0 → Type 0 → Type 0
ExactlyOne P Q = (P ⊎ Q) × (P → Q → ⊥)

-- of two different derivations of a well-typed query at one node, exactly one comes before the other
abbrev pub OrderIsTotal : Type 0
OrderIsTotal =
    (F : FunctionSet) (top : Data) (kind : QueryKind) (segs : Segments) (node : Data) (xs ys : List Triple) → IsTyped F.signature (query kind segs)
    → Derives F top segs (start_of kind top node) xs → Derives F top segs (start_of kind top node) ys → xs ≢ ys
    → ExactlyOne (Before segs xs ys) (Before segs ys xs)

-- the segments, and one more after them
abbrev pub with_segment : Segments → SegmentKind → Segment → Segments
with_segment no_segments reach seg = segment reach seg no_segments
with_segment (segment kind first more) reach seg = segment kind first (with_segment more reach seg)

-- a query with one more segment selects what that segment selects at each node of the shorter one, in order (section 2.1.2)
abbrev pub LastSegmentSelectsAtEach : Type 0
LastSegmentSelectsAtEach =
    (F : FunctionSet) (top : Data) (kind : QueryKind) (segs : Segments) (reach : SegmentKind) (seg : Segment) (node : Data) (shorter longer : List Located)
    → IsResult F top (query kind segs) node shorter → IsResult F top (query kind (with_segment segs reach seg)) node longer
    → AreResultsAt F top (query current (segment reach seg no_segments)) shorter longer

-- each document has one height
abbrev pub EachDocumentHasAHeight : Type 0
EachDocumentHasAHeight = (document : Data) → (n : ℕ) × IsHeight document n × ((m : ℕ) → IsHeight document m → m ≡ n)
