-- A plan grows by rows for the queries in a part of a tree.
use Rattle.serde_json_path_reach.proofs.Words.{AddsRow, AreRight, AsksAll, Bool, Branch, Err, Gains, IfOk, Includes, IsIn, IsRight, List, Node, Ok, Part, Plan, Query, Result, Row, SegmentKind, Segments, Step, [], a_basic, a_segment, a_selector, add-one, an_and, an_operand, an_or, and_in, ands_in, any_may_admit, ap, append-nil, argument_in, arguments_in, arith, basic_in, bit_or, branch_at, branch_in, branches_named, current, descendant, drop, drop-cons, drop_all, false, flat_map-append, get_or, in_append, inl, inr, kind_of_row, length, map-append, may_admit_by_row, no_segments, operand_in, ors_in, queries_in_and, queries_in_argument, queries_in_arguments, queries_in_basic, queries_in_branch, queries_in_branches, queries_in_operand, queries_in_or, queries_in_segment, queries_in_segments, queries_in_selector, queries_in_selectors, queries_of, query, refl, rest_of_row, root, segment, segment_in, segment_kind_in, segment_of_row, segments_at, segments_of, selector_in, selectors_in, selectors_of_row, subst, sym, take, take_more, true, ℕ, ◌++◌, ◌+◌, ◌<◌, ◌∙◌, ◌∷◌, ◌≡◌, ◌≤◌}
use Rattle.serde_json_path_reach.proofs.Rows.{meets_itself, includes_more, includes_left, includes_right}

pub if_ok : {A E : Type 0} (P Q : A → Type 0) (r : Result A E) → ((a : A) → P a → Q a) → IfOk r P → IfOk r Q
if_ok P Q (Ok a) f h = f a h
if_ok P Q (Err e) f h = h

-- ---- what a part of another kind stands for has no query in it, so what a part has is in its branch

segment_there : (b : Branch) (q : Query) → IsIn q (queries_in_segment (segment_in b)) → IsIn q (queries_in_branch b)
segment_there (a_segment kind seg) q h = h
segment_there _ q h = absurd h

selector_there : (b : Branch) (q : Query) → IsIn q (queries_in_selector (selector_in b)) → IsIn q (queries_in_branch b)
selector_there (a_selector sel) q h = h
selector_there _ q h = absurd h

and_there : (b : Branch) (q : Query) → IsIn q (queries_in_and (and_in b)) → IsIn q (queries_in_branch b)
and_there (an_and e) q h = h
and_there _ q h = absurd h

basic_there : (b : Branch) (q : Query) → IsIn q (queries_in_basic (basic_in b)) → IsIn q (queries_in_branch b)
basic_there (a_basic e) q h = h
basic_there _ q h = absurd h

operand_there : (b : Branch) (q : Query) → IsIn q (queries_in_operand (operand_in b)) → IsIn q (queries_in_branch b)
operand_there (an_operand o) q h = h
operand_there _ q h = absurd h

argument_there : (b : Branch) (q : Query) → IsIn q (queries_in_argument (argument_in b)) → IsIn q (queries_in_branch b)
argument_there (an_or e) q h = h
argument_there (an_operand o) q h = h
argument_there _ q h = absurd h

both_there : (q : Query) (xs ys us vs : List Query) → (IsIn q xs → IsIn q us) → (IsIn q ys → IsIn q vs) → IsIn q (xs ++ ys) → IsIn q (us ++ vs)
both_there q xs ys us vs f g h = (in_append q us vs).1 (elim ((in_append q xs ys).0 h) [ inl i ↦ inl (f i) | inr i ↦ inr (g i) ])

pub selectors_there : (bs : List Branch) (q : Query) → IsIn q (queries_in_selectors (selectors_in bs)) → IsIn q (queries_in_branches bs)
selectors_there [] q h = h
selectors_there (b ∷ bs) q h =
    both_there q (queries_in_selector (selector_in b)) (queries_in_selectors (selectors_in bs)) (queries_in_branch b) (queries_in_branches bs) (selector_there b q) (selectors_there bs q) h

pub ors_there : (bs : List Branch) (q : Query) → IsIn q (queries_in_or (ors_in bs)) → IsIn q (queries_in_branches bs)
ors_there [] q h = h
ors_there (b ∷ bs) q h =
    both_there q (queries_in_and (and_in b)) (queries_in_or (ors_in bs)) (queries_in_branch b) (queries_in_branches bs) (and_there b q) (ors_there bs q) h

pub ands_there : (bs : List Branch) (q : Query) → IsIn q (queries_in_and (ands_in bs)) → IsIn q (queries_in_branches bs)
ands_there [] q h = h
ands_there (b ∷ bs) q h =
    both_there q (queries_in_basic (basic_in b)) (queries_in_and (ands_in bs)) (queries_in_branch b) (queries_in_branches bs) (basic_there b q) (ands_there bs q) h

pub arguments_there : (bs : List Branch) (q : Query) → IsIn q (queries_in_arguments (arguments_in bs)) → IsIn q (queries_in_branches bs)
arguments_there [] q h = h
arguments_there (b ∷ bs) q h =
    both_there q (queries_in_argument (argument_in b)) (queries_in_arguments (arguments_in bs)) (queries_in_branch b) (queries_in_branches bs) (argument_there b q) (arguments_there bs q) h

pub sides_there : (b c : Branch) (q : Query) → IsIn q (queries_in_operand (operand_in b) ++ queries_in_operand (operand_in c)) → IsIn q (queries_in_branch b ++ queries_in_branch c)
sides_there b c q h =
    both_there q (queries_in_operand (operand_in b)) (queries_in_operand (operand_in c)) (queries_in_branch b) (queries_in_branch c) (operand_there b q) (operand_there c q) h

-- ---- gains

pub gains_none : (a : Plan) → Gains a a 0 []
gains_none a = record {
  right = λ r. r;
  grows = record { by_rows = λ places pending segs h. h; at_root = λ places segs h. h };
  covers = record { dollar = λ segs h. absurd h; at = λ segs h. absurd h };
}

pub gains_some : (a b : Plan) (m : ℕ) (qs rs : List Query) → ((q : Query) → IsIn q rs → IsIn q qs) → Gains a b m qs → Gains a b m rs
gains_some a b m qs rs among h = record {
  right = h.right;
  grows = h.grows;
  covers = record { dollar = λ segs i. h.covers.dollar segs (among (query root segs) i); at = λ segs i. h.covers.at segs (among (query current segs) i) };
}

pub gains_both : (a b c : Plan) (m n : ℕ) (qs rs : List Query) → Gains a b m qs → Gains b c n rs → Gains a c (bit_or m n) (qs ++ rs)
gains_both a b c m n qs rs g h = record {
  right = λ r. h.right (g.right r);
  grows = record {
    by_rows = λ places pending segs i. h.grows.by_rows places pending segs (g.grows.by_rows places pending segs i);
    at_root = λ places segs i. h.grows.at_root places segs (g.grows.at_root places segs i);
  };
  covers = record {
    dollar = λ segs i. elim ((in_append (query root segs) qs rs).0 i) [ inl j ↦ h.grows.at_root false segs (g.covers.dollar segs j) | inr j ↦ h.covers.dollar segs j ];
    at = λ segs i. elim ((in_append (query current segs) qs rs).0 i) [
      | inl j ↦ includes_left c.rows.items m n false segs (h.grows.by_rows false m segs (g.covers.at segs j))
      | inr j ↦ includes_right c.rows.items m n false segs (h.covers.at segs j)
    ];
  };
}

-- a query by `@` is pending where it is asked
pub gains_current : (a b : Plan) (first asked : ℕ) (segs : Segments) → Includes b.rows.items first false segs → Gains a b asked (queries_in_segments segs)
    → Gains a b (bit_or first asked) (queries_of (query current segs))
gains_current a b first asked segs here h = record {
  right = h.right;
  grows = h.grows;
  covers = record {
    dollar = λ more. elim [ inl e ↦ absurd cc | inr i ↦ h.covers.dollar more i ];
    at = λ more. elim [
      | inl e ↦ let same : segs ≡ more = cc in includes_left b.rows.items first asked false more (subst (Includes b.rows.items first false) same here)
      | inr i ↦ includes_right b.rows.items first asked false more (h.covers.at more i)
    ];
  };
}

-- what more is pending at the root
pub gains_more : (a b c : Plan) (first asked : ℕ) (qs : List Query) → c.rows.items ≡ b.rows.items → c.at_root ≡ bit_or b.at_root first → Gains a b asked qs → Gains a c asked qs
gains_more a b c first asked qs rows at_root h =
    let kept = λ (p : Bool) (pending : ℕ) (more : Segments) (i : Includes b.rows.items pending p more). subst (λ (rs : List Row). Includes rs pending p more) (sym rows) i in
    let added = λ (p : Bool) (more : Segments) (i : Includes b.rows.items (bit_or b.at_root first) p more). subst (λ (bits : ℕ). Includes c.rows.items bits p more) (sym at_root) (kept p (bit_or b.at_root first) more i) in
    record {
      right = λ r. subst AreRight (sym rows) (h.right r);
      grows = record {
        by_rows = λ p pending more i. kept p pending more (h.grows.by_rows p pending more i);
        at_root = λ p more i. added p more (includes_left b.rows.items b.at_root first p more (h.grows.at_root p more i));
      };
      covers = record {
        dollar = λ more i. added false more (includes_left b.rows.items b.at_root first false more (h.covers.dollar more i));
        at = λ more i. kept false asked more (h.covers.at more i);
      };
    }

-- the same of a query by `$` in a filter
pub gains_root : (a b c : Plan) (first asked : ℕ) (segs : Segments) → c.rows.items ≡ b.rows.items → c.at_root ≡ bit_or b.at_root first
    → Includes b.rows.items first false segs → Gains a b asked (queries_in_segments segs) → Gains a c asked (queries_of (query root segs))
gains_root a b c first asked segs rows at_root here h =
    let g = gains_more a b c first asked (queries_in_segments segs) rows at_root h in
    let there : Includes c.rows.items c.at_root false segs = rw (rows, at_root) (includes_right b.rows.items b.at_root first false segs here) in
    record {
      right = g.right;
      grows = g.grows;
      covers = record {
        dollar = λ more. elim [ inl e ↦ let same : segs ≡ more = cc in subst (Includes c.rows.items c.at_root false) same there | inr i ↦ g.covers.dollar more i ];
        at = λ more. elim [ inl e ↦ absurd cc | inr i ↦ g.covers.at more i ];
      };
    }

-- one more row
module _ (rows : List Row) (row : Row) where
  among : (r : Row) → IsIn r rows → IsIn r (rows ++ row ∷ [])
  among r i = (in_append r rows (row ∷ [])).1 (inl i)

  pub still_included : (places : Bool) (pending : ℕ) (segs : Segments) → Includes rows pending places segs → Includes (rows ++ row ∷ []) pending places segs
  still_included places pending = includes_more rows (rows ++ row ∷ []) pending pending among (λ m g. g) places

  still_right : (r : Row) → IsRight rows r → IsRight (rows ++ row ∷ []) r
  still_right r h = record { next = record { rest = still_included r.places r.next _ h.next.rest; asked = λ segs i. still_included false r.next segs (h.next.asked segs i) }; again = h.again; named = h.named }

  all_right : IsRight rows row → AreRight rows → AreRight (rows ++ row ∷ [])
  all_right here right r i = elim ((in_append r rows (row ∷ [])).0 i) [
    | inl j ↦ still_right r (right r j)
    | inr j ↦ elim j [ inl e ↦ subst (IsRight (rows ++ row ∷ [])) (sym e) (still_right row here) | inr never ↦ absurd never ]
  ]

pub gains_row : (a b : Plan) (row : Row) → b.rows.items ≡ a.rows.items ++ row ∷ [] → b.at_root ≡ a.at_root → IsRight a.rows.items row → Gains a b 0 []
gains_row a b row rows at_root right =
    let kept = λ (places : Bool) (pending : ℕ) (segs : Segments) (i : Includes a.rows.items pending places segs).
    subst (λ (rs : List Row). Includes rs pending places segs) (sym rows) (still_included a.rows.items row places pending segs i) in
    record {
      right = λ r. subst AreRight (sym rows) (all_right a.rows.items row right r);
      grows = record { by_rows = kept; at_root = λ places segs i. subst (λ (bits : ℕ). Includes b.rows.items bits places segs) (sym at_root) (kept places a.at_root segs i) };
      covers = record { dollar = λ segs h. absurd h; at = λ segs h. absurd h };
    }

pub adds_row : (a b : Plan) (before : List Row) (row : Row) → b.rows.items ≡ before ++ row ∷ [] → before ≡ a.rows.items → b.at_root ≡ a.at_root → 0 < row.bit → (kind_of_row row ≡ descendant → row.again ≡ row.bit)
    → ((s : Step) → any_may_admit (selectors_of_row row) s ≡ true → may_admit_by_row row s ≡ true) → AddsRow a b (kind_of_row row) (segment_of_row row) (rest_of_row row) row.places row.next row.bit
adds_row a b before row grown same at_root some again named next = let rows = grown ∙ ap (λ rs. rs ++ row ∷ []) same in (
  gains_row a b row rows at_root (record { next = next; again = λ down. rw (again down) (meets_itself row.bit some); named = named }),
  inr (row, subst (IsIn row) (sym rows) ((in_append row a.rows.items (row ∷ [])).1 (inr (inl refl))), refl, meets_itself row.bit some, refl),
)

-- a segment, its filters' queries and its row
pub gains_segment : (a b c d : Plan) (places : Bool) (m n first bit : ℕ) (branch : Branch) (kind : SegmentKind) (more : Segments)
    → Gains a b m (queries_in_segments more) → Includes b.rows.items first places more → Gains b c n (queries_in_branch branch)
    → AddsRow c d kind (segment_in branch) more places (bit_or first n) bit
    → Gains a d (bit_or m n) (queries_in_segment (segment_in branch) ++ queries_in_segments more) × Includes d.rows.items bit places (segment kind (segment_in branch) more)
gains_segment a b c d places m n first bit branch kind more g here h adds =
    let (k, pending) = adds (record {
      rest = includes_left c.rows.items first n places more (h.grows.by_rows places first more here);
      asked = λ segs i. includes_right c.rows.items first n false segs (h.covers.at segs (segment_there branch (query current segs) i));
    }) in
    let both = gains_both a b c m n (queries_in_segments more) (queries_in_branch branch) g h in
    let swapped = gains_some a c (bit_or m n) (queries_in_segments more ++ queries_in_branch branch) (queries_in_segment (segment_in branch) ++ queries_in_segments more) (λ q i.
    (in_append q (queries_in_segments more) (queries_in_branch branch)).1 (elim ((in_append q (queries_in_segment (segment_in branch)) (queries_in_segments more)).0 i) [
      | inl j ↦ inr (segment_there branch q j)
      | inr j ↦ inl j
    ])) both in (
      record {
        right = λ r. k.right (swapped.right r);
        grows = record {
          by_rows = λ p pending segs i. k.grows.by_rows p pending segs (swapped.grows.by_rows p pending segs i);
          at_root = λ p segs i. k.grows.at_root p segs (swapped.grows.at_root p segs i);
        };
        covers = record { dollar = λ segs i. k.grows.at_root false segs (swapped.covers.dollar segs i); at = λ segs i. k.grows.by_rows false (bit_or m n) segs (swapped.covers.at segs i) };
      },
      pending,
    )

-- ---- parts in order

pub one_more_part : (bs : List Branch) (parts : List Part) (i : ℕ) (d : Part) → i < length parts
    → queries_in_branches (branches_named bs (take (i + 1) parts)) ≡ queries_in_branches (branches_named bs (take i parts)) ++ queries_in_branch (branch_in bs (get_or parts i d).number)
one_more_part bs parts i d h = ap (λ ps. queries_in_branches (branches_named bs ps)) (take_more parts i d h) ∙ simp (map-append, flat_map-append, append-nil)

pub first_part : (nodes : List Node) (parts : List Part) (i : ℕ) (d : Part) → i < length parts
    → segments_at nodes (drop i parts) ≡ segment (segment_kind_in (branch_at nodes (get_or parts i d).number)) (segment_in (branch_at nodes (get_or parts i d).number)) (segments_at nodes (drop (i + 1) parts))
first_part nodes parts i d h = rw (add-one, drop-cons parts i d) refl

pub no_part : (nodes : List Node) (parts : List Part) → segments_at nodes (drop (length parts) parts) ≡ no_segments
no_part nodes parts = let end : length parts ≤ length parts = omega arith in ap (segments_at nodes) (drop_all (length parts) parts end)

-- ---- paths in order

pub asks_more : (a b : Plan) (places : Bool) (asked : ℕ) (qs : List Query) (q : Query) → AsksAll a places qs → Gains a b asked (queries_in_segments (segments_of q))
    → Includes b.rows.items b.at_root places (segments_of q) → AsksAll b places (qs ++ q ∷ [])
asks_more a b places asked qs q before g here = record {
  themselves = λ r i. elim ((in_append r qs (q ∷ [])).0 i) [
    | inl j ↦ g.grows.at_root places (segments_of r) (before.themselves r j)
    | inr j ↦ elim j [ inl e ↦ subst (λ (x : Query). Includes b.rows.items b.at_root places (segments_of x)) (sym e) here | inr never ↦ absurd never ]
  ];
  inside = λ r segs i k. elim ((in_append r qs (q ∷ [])).0 i) [
    | inl j ↦ g.grows.at_root false segs (before.inside r segs j k)
    | inr j ↦ elim j [ inl e ↦ g.covers.dollar segs (subst (λ (x : Query). IsIn (query root segs) (queries_in_segments (segments_of x))) e k) | inr never ↦ absurd never ]
  ];
}
