-- What a reader's loops over items and members have shown so far.
use Rattle.serde_json_path_reach.proofs.Words.{AreRight, Bool, Data, Includes, Items, Leads, List, Members, None, Option, Row, Segments, Shows, Some, Step, Then, ap, arith, array, by_name, by_position, bytes_eq, bytes_eq-Decides, cases_Bool, child_at, false, get_item, get_member, get_member-put, get_member-put_other, in_stead, inl, inr, is_whole, item, items_len, no_items, no_members, none-some, null, object, put, refl, same_Some, subst, suc, sym, true, true≢false, zero, ℕ, ◌+◌, ◌<◌, ◌∙◌, ◌≡◌, ◌≤◌, ◌⊎◌}
use Rattle.serde_json_path_reach.proofs.Rows.{led, nothing_met, nothing_pending, stead_shown, whole_asked, whole_shown}
use Rattle.serde_json_path_reach.proofs.Shows.{assembled, in_place, itself, shows_less, unasked}
use Rattle.serde_json_path_reach.proofs.Tokens.{joined, joined-nil, joined-joined}

-- ---- items

abbrev pub nulls : ℕ → Items
nulls zero = no_items
nulls (suc n) = item null (nulls n)

pub len_joined : (a b : Items) → items_len (joined a b) ≡ items_len a + items_len b
len_joined no_items b = omega arith
len_joined (item d a) b = let later = len_joined a b in omega (arith, later)

len_nulls : (n : ℕ) → items_len (nulls n) ≡ n
len_nulls zero = refl
len_nulls (suc n) = ap suc (len_nulls n)

pub next_place : (a : Items) (d : Data) → items_len (joined a (item d no_items)) ≡ suc (items_len a)
next_place no_items d = refl
next_place (item e a) d = ap suc (next_place a d)

same_or_not : (p n : ℕ) → (p ≡ n) ⊎ (p ≡ n → ⊥)
same_or_not zero zero = inl refl
same_or_not zero (suc n) = inr (λ e. cc)
same_or_not (suc p) zero = inr (λ e. cc)
same_or_not (suc p) (suc n) = elim (same_or_not p n) [ inl e ↦ inl (ap suc e) | inr apart ↦ inr (λ e. apart (omega (arith, e))) ]

item_there : (ds : Items) (p : ℕ) → p < items_len ds → (d : Data) × (get_item p ds ≡ Some d)
item_there no_items p h = absurd (omega arith)
item_there (item d ds) zero h = (d, refl)
item_there (item d ds) (suc p) h = item_there ds p (omega arith)

item_past : (ds : Items) (p : ℕ) → items_len ds ≤ p → get_item p ds ≡ None
item_past no_items p h = refl
item_past (item d ds) zero h = absurd (omega arith)
item_past (item d ds) (suc p) h = item_past ds p (omega arith)

item_last : (ds : Items) (d : Data) → get_item (items_len ds) (joined ds (item d no_items)) ≡ Some d
item_last no_items d = refl
item_last (item e ds) d = item_last ds d

item_before : (ds : Items) (d : Data) (p : ℕ) → (p ≡ items_len ds → ⊥) → get_item p (joined ds (item d no_items)) ≡ get_item p ds
item_before no_items d zero apart = absurd (apart refl)
item_before no_items d (suc p) apart = refl
item_before (item e ds) d zero apart = refl
item_before (item e ds) d (suc p) apart = item_before ds d p (λ e. apart (ap suc e))

module _ (A : Bool → Segments → Type 0) where
  -- what is found shows the items that are done
  abbrev pub ItemsShown : Items → Items → Type 0
  ItemsShown done found = (p : ℕ) → Shows (Then (by_position p) A) (get_item p done) (get_item p found)

  dropped_item : (done found : Items) (d : Data) → ItemsShown done found → items_len found ≤ items_len done → Shows (Then (by_position (items_len done)) A) (Some d) None
      → ItemsShown (joined done (item d no_items)) found
  dropped_item done found d h few l p = elim (same_or_not p (items_len done)) [
    | inl is ↦ rw (is, item_last done d, item_past found (items_len done) few) l
    | inr apart ↦ rw (item_before done d p apart) (h p)
  ]

  null_item : (done found : Items) → ItemsShown done found → items_len found < items_len done → ItemsShown done (joined found (item null no_items))
  null_item done found h less p = elim (same_or_not p (items_len found)) [
    | inl is ↦
        let (d, there) = item_there done (items_len found) less in
        let gone = item_past found (items_len found) (omega arith) in
        let before = subst (λ o. Shows (Then (by_position (items_len found)) A) o None) there (subst (Shows (Then (by_position (items_len found)) A) (get_item (items_len found) done)) gone (h (items_len found))) in
        rw (is, there, item_last found null) (in_place (Then (by_position (items_len found)) A) d before)
    | inr apart ↦ rw (item_before found null p apart) (h p)
  ]

  padded : (n : ℕ) (done found : Items) → ItemsShown done found → items_len found + n ≤ items_len done → ItemsShown done (joined found (nulls n))
  padded zero done found h few = rw (joined-nil found) h
  padded (suc n) done found h few =
      let next = null_item done found h (omega (arith, few)) in
      let len = len_joined found (item null no_items) in
      rw (← joined-joined found (item null no_items) (nulls n)) (padded n done (joined found (item null no_items)) next (omega (arith, few, len)))

  found_item : (done found : Items) (d e : Data) → ItemsShown done found → items_len found ≡ items_len done → Shows (Then (by_position (items_len done)) A) (Some d) (Some e)
      → ItemsShown (joined done (item d no_items)) (joined found (item e no_items))
  found_item done found d e h same l p = elim (same_or_not p (items_len done)) [
    | inl is ↦ let last : get_item (items_len done) (joined found (item e no_items)) ≡ Some e = rw (← same) (item_last found e) in rw (is, item_last done d, last) l
    | inr apart ↦ rw (item_before done d p apart, item_before found e p (λ at_end. apart (at_end ∙ same))) (h p)
  ]

  array_kids : (done found : Items) → ItemsShown done found → (s : Step) → Shows (Then s A) (child_at (array done) s) (child_at (array found) s)
  array_kids done found h (by_position p) = h p
  array_kids done found h (by_name k) = itself _ None

module _ (rows : List Row) (pending : ℕ) where
  -- So many of the items that are done are passed: after those that are found they are shown by nothing.
  pub record AreSoFar (done found : Items) (passed : ℕ) : Type 0 where
    pub len : items_len found + passed ≡ items_len done
    pub shown : AreRight rows → ItemsShown (Includes rows pending) done found
    pub whole : AreRight rows → is_whole pending ≡ true → found ≡ done

  pub none_so_far : AreSoFar no_items no_items 0
  none_so_far = record { len = refl; shown = λ right p. itself _ None; whole = λ right w. refl }

  -- what is shown of a child shows what is asked of it
  shown_below : AreRight rows → (s : Step) (next : ℕ) (d : Data) (o : Option Data) → Leads rows s pending next → Shows (Includes rows next) (Some d) o → Shows (Then s (Includes rows pending)) (Some d) o
  shown_below right s next d o leads = shows_less (Then s (Includes rows pending)) (Includes rows next) (Some d) o (led rows right s pending next leads)

  -- where all is kept nothing is passed
  all_found : (done found : Items) (passed : ℕ) → AreSoFar done found passed → AreRight rows → is_whole pending ≡ true → joined found (nulls passed) ≡ done
  all_found done found passed i right w =
      let none : passed ≡ 0 = let same = ap items_len (i.whole right w) in omega (arith, same, i.len) in
      rw none (joined-nil found ∙ i.whole right w)

  pub passed_one : (done found : Items) (passed next : ℕ) (d : Data) → AreSoFar done found passed → Leads rows (by_position (items_len done)) pending next
      → (AreRight rows → Shows (Includes rows next) (Some d) None) → AreSoFar (joined done (item d no_items)) found (suc passed)
  passed_one done found passed next d i leads l = record {
    len = let more = len_joined done (item d no_items) in omega (arith, more, i.len);
    shown = λ right. dropped_item (Includes rows pending) done found d (i.shown right) (omega (arith, i.len)) (shown_below right (by_position (items_len done)) next d None leads (l right));
    whole = λ right w. absurd (none-some d (whole_shown rows next d None (leads.stays w) (l right)));
  }

  pub found_one : (done found : Items) (passed next : ℕ) (d e : Data) → AreSoFar done found passed → Leads rows (by_position (items_len done)) pending next
      → (AreRight rows → Shows (Includes rows next) (Some d) (Some e)) → AreSoFar (joined done (item d no_items)) (joined found (joined (nulls passed) (item e no_items))) 0
  found_one done found passed next d e i leads l =
      let padding = len_nulls passed in
      let before = len_joined found (nulls passed) in
      let so_far : AreSoFar (joined done (item d no_items)) (joined (joined found (nulls passed)) (item e no_items)) 0 = record {
        len = let a = len_joined (joined found (nulls passed)) (item e no_items) in let b = len_joined done (item d no_items) in omega (arith, a, b, before, padding, i.len);
        shown = λ right. found_item (Includes rows pending) done (joined found (nulls passed)) d e (padded (Includes rows pending) passed done found (i.shown right) (omega (arith, i.len))) (omega (arith, before, padding, i.len))
            (shown_below right (by_position (items_len done)) next d (Some e) leads (l right));
        whole = λ right w. rw (all_found done found passed i right w, same_Some e d (whole_shown rows next d (Some e) (leads.stays w) (l right))) refl;
      } in
      rw (← joined-joined found (nulls passed) (item e no_items)) so_far

  pub array_dropped : (done : Items) (passed : ℕ) → AreSoFar done no_items passed → is_whole pending ≡ false → AreRight rows → Shows (Includes rows pending) (Some (array done)) (in_stead pending)
  array_dropped done passed i e right = stead_shown rows pending (array done) e kids
    where
      kids : (s : Step) → Shows (Then s (Includes rows pending)) (child_at (array done) s) None
      kids (by_position p) = i.shown right p
      kids (by_name k) = itself _ None

  pub array_shown : (done found : Items) (passed : ℕ) → AreSoFar done found passed → AreRight rows → Shows (Includes rows pending) (Some (array done)) (Some (array (joined found (nulls passed))))
  array_shown done found passed i right =
      assembled (Includes rows pending) (array done) (array (joined found (nulls passed)))
      (array_kids (Includes rows pending) done (joined found (nulls passed)) (padded (Includes rows pending) passed done found (i.shown right) (omega (arith, i.len))))
      (λ ends. ap array (all_found done found passed i right (whole_asked pending ends))) (λ s c to. ap Some (let a = len_joined found (nulls passed) in let b = len_nulls passed in omega (arith, a, b, i.len)))

  -- ---- members

  pub record MembersShown (done found : Members) : Type 0 where
    pub shown : AreRight rows → (k : List ℕ) → Shows (Then (by_name k) (Includes rows pending)) (get_member k done) (get_member k found)
    pub whole : AreRight rows → is_whole pending ≡ true → found ≡ done

  pub no_members_shown : MembersShown no_members no_members
  no_members_shown = record { shown = λ right k. itself _ None; whole = λ right w. refl }

  -- one more member, and what is found afterwards
  one_member : (done found others : Members) (k : List ℕ) (d : Data) → MembersShown done found → ((q : List ℕ) → (q ≡ k → ⊥) → get_member q others ≡ get_member q found)
      → (AreRight rows → Shows (Then (by_name k) (Includes rows pending)) (Some d) (get_member k others)) → (AreRight rows → is_whole pending ≡ true → others ≡ put k d done)
      → MembersShown (put k d done) others
  one_member done found others k d i same l whole = record { shown = shown; whole = whole }
    where
      shown : AreRight rows → (q : List ℕ) → Shows (Then (by_name q) (Includes rows pending)) (get_member q (put k d done)) (get_member q others)
      shown right q = elim (cases_Bool (bytes_eq q k)) [
        | inl e ↦ let is = (bytes_eq-Decides q k).0 e in rw (is, get_member-put k d done) (l right)
        | inr e ↦ let apart = λ (is : q ≡ k). true≢false (sym ((bytes_eq-Decides q k).1 is) ∙ e) in rw (get_member-put_other q k d done apart, same q apart) (i.shown right q)
      ]

  module _ (done found : Members) (k : List ℕ) (next : ℕ) (d : Data) (i : MembersShown done found) (leads : Leads rows (by_name k) pending next) where
    pub member_put : (e : Data) → (AreRight rows → Shows (Includes rows next) (Some d) (Some e)) → MembersShown (put k d done) (put k e found)
    member_put e l = one_member done found (put k e found) k d i (λ q. get_member-put_other q k e found)
        (λ right. rw (get_member-put k e found) (shown_below right (by_name k) next d (Some e) leads (l right)))
        (λ right w. rw (i.whole right w, same_Some e d (whole_shown rows next d (Some e) (leads.stays w) (l right))) refl)

    passed : (AreRight rows → Shows (Includes rows next) (Some d) (get_member k found)) → (AreRight rows → is_whole pending ≡ true → ⊥) → MembersShown (put k d done) found
    passed l never = one_member done found found k d i (λ q apart. refl) (λ right. shown_below right (by_name k) next d (get_member k found) leads (l right)) (λ right w. absurd (never right w))

    -- a member at which nothing is pending
    pub member_unasked : next ≡ 0 → MembersShown (put k d done) found
    member_unasked is = passed (λ right. rw is (unasked (Includes rows 0) (Some d) (get_member k found) (nothing_pending rows)))
        (λ right w. true≢false (sym (leads.stays w) ∙ rw is (nothing_met 1)))

    -- a member of which nothing is shown, where there was none of its name
    pub member_passed : get_member k found ≡ None → (AreRight rows → Shows (Includes rows next) (Some d) None) → MembersShown (put k d done) found
    member_passed none l = passed (λ right. rw none (l right)) (λ right w. none-some d (whole_shown rows next d None (leads.stays w) (l right)))

  object_kids : AreRight rows → (done found : Members) → MembersShown done found → (s : Step) → Shows (Then s (Includes rows pending)) (child_at (object done) s) (child_at (object found) s)
  object_kids right done found i (by_name k) = i.shown right k
  object_kids right done found i (by_position p) = itself _ None

  pub object_dropped : (done : Members) → MembersShown done no_members → is_whole pending ≡ false → AreRight rows → Shows (Includes rows pending) (Some (object done)) (in_stead pending)
  object_dropped done i e right = stead_shown rows pending (object done) e kids
    where
      kids : (s : Step) → Shows (Then s (Includes rows pending)) (child_at (object done) s) None
      kids (by_name k) = i.shown right k
      kids (by_position p) = itself _ None

  pub object_shown : (done found : Members) → MembersShown done found → AreRight rows → Shows (Includes rows pending) (Some (object done)) (Some (object found))
  object_shown done found i right =
      assembled (Includes rows pending) (object done) (object found) (object_kids right done found i) (λ ends. ap object (i.whole right (whole_asked pending ends))) (λ s c to. refl)
