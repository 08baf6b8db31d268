-- Values that show what is asked of others, put together from their children, and at locations.
use Rattle.serde_json_path_reach.proofs.Words.{Bool, Data, List, None, Option, Segments, Shows, Some, Step, Then, [], along, array_len, at, below, child_at, false, inl, inr, no_segments, none-some, null, option_and_then_some, refl, same_Some, subst, sym, ◌++◌, ◌∙◌, ◌∷◌, ◌≡◌}

-- ---- what is asked

abbrev pub AsksNothing : (Bool → Segments → Type 0) → Type 0
AsksNothing A = (places : Bool) (segs : Segments) → A places segs → ⊥

abbrev pub AsksLess : (Bool → Segments → Type 0) → (Bool → Segments → Type 0) → Type 0
AsksLess A B = (places : Bool) (segs : Segments) → A places segs → B places segs

then_less : (s : Step) (A B : Bool → Segments → Type 0) → AsksLess A B → AsksLess (Then s A) (Then s B)
then_less s A B f places segs (inl (kind, seg, h, may)) = inl (kind, seg, f places _ h, may)
then_less s A B f places segs (inr (inl (seg, more, is, h))) = inr (inl (seg, more, is, f places segs h))
then_less s A B f places segs (inr (inr (is, (ends, kind, seg, more, h, i)))) = inr (inr (is, (ends, kind, seg, more, f ends _ h, i)))

pub along_less : (steps : List Step) (A B : Bool → Segments → Type 0) → AsksLess A B → AsksLess (along steps A) (along steps B)
along_less [] A B f places segs h = f places segs h
along_less (s ∷ steps) A B f places segs h = along_less steps (Then s A) (Then s B) (then_less s A B f) places segs h

then_nothing : (s : Step) (A : Bool → Segments → Type 0) → AsksNothing A → AsksNothing (Then s A)
then_nothing s A none places segs (inl (kind, seg, h, may)) = none places _ h
then_nothing s A none places segs (inr (inl (seg, more, is, h))) = none places segs h
then_nothing s A none places segs (inr (inr (is, (ends, kind, seg, more, h, i)))) = none ends _ h

along_nothing : (steps : List Step) (A : Bool → Segments → Type 0) → AsksNothing A → AsksNothing (along steps A)
along_nothing [] A none places segs h = none places segs h
along_nothing (s ∷ steps) A none places segs h = along_nothing steps (Then s A) (then_nothing s A none) places segs h

pub along_joined : (a b : List Step) (A : Bool → Segments → Type 0) → AsksLess (along b (along a A)) (along (a ++ b) A)
along_joined [] b A places segs h = h
along_joined (s ∷ a) b A places segs h = along_joined a b (Then s A) places segs h

-- ---- what shows it

-- where nothing is asked, anything does
pub unasked : (A : Bool → Segments → Type 0) (o p : Option Data) → AsksNothing A → Shows A o p
unasked A o p none = record {
  ends = λ steps places d asked is. absurd (along_nothing steps A none places no_segments asked);
  back = λ steps places segs e asked is. absurd (along_nothing steps A none places segs asked);
  lens = λ steps places segs d e c s asked is there to. absurd (along_nothing steps A none places segs asked);
}

pub shows_less : (A B : Bool → Segments → Type 0) (o p : Option Data) → AsksLess A B → Shows B o p → Shows A o p
shows_less A B o p f l = record {
  ends = λ steps places d asked. l.ends steps places d (along_less steps A B f places no_segments asked);
  back = λ steps places segs e asked. l.back steps places segs e (along_less steps A B f places segs asked);
  lens = λ steps places segs d e c s asked. l.lens steps places segs d e c s (along_less steps A B f places segs asked);
}

pub itself : (A : Bool → Segments → Type 0) (o : Option Data) → Shows A o o
itself A o = record {
  ends = λ steps places d asked is. (d, is, λ values. refl);
  back = λ steps places segs e asked is. (e, is);
  lens = λ steps places segs d e c s asked is there to. let same = same_Some d e (sym is ∙ there) in rw same refl;
}

module _ (A : Bool → Segments → Type 0) (d : Data) where
  -- a value of whose children nothing is shown, and at which no query ends
  pub dropped : ((s : Step) → Shows (Then s A) (child_at d s) None) → ((places : Bool) → A places no_segments → ⊥) → Shows A (Some d) None
  dropped kids none = record { ends = ends; back = λ steps places segs e asked is. absurd (none-some e is); lens = λ steps places segs v e c s asked is there to. absurd (none-some e there) }
    where
      ends : (steps : List Step) (places : Bool) (v : Data) → along steps A places no_segments → below (Some d) steps ≡ Some v → (e : Data) × (below None steps ≡ Some e) × (places ≡ false → e ≡ v)
      ends [] places v asked is = absurd (none places asked)
      ends (s ∷ steps) places v asked is = (kids s).ends steps places v asked is

  -- a value that shows what is asked of the children
  pub assembled : (e : Data) → ((s : Step) → Shows (Then s A) (child_at d s) (child_at e s)) → (A false no_segments → e ≡ d) → ((s : Step) (c : Data) → child_at e s ≡ Some c → array_len e ≡ array_len d)
      → Shows A (Some d) (Some e)
  assembled e kids whole len = record { ends = ends; back = back; lens = lens }
    where
      ends : (steps : List Step) (places : Bool) (v : Data) → along steps A places no_segments → below (Some d) steps ≡ Some v → (x : Data) × (below (Some e) steps ≡ Some x) × (places ≡ false → x ≡ v)
      ends [] places v asked is = (e, refl, λ values. whole (subst (λ p. A p no_segments) values asked) ∙ same_Some d v is)
      ends (s ∷ steps) places v asked is = (kids s).ends steps places v asked is

      back : (steps : List Step) (places : Bool) (segs : Segments) (x : Data) → along steps A places segs → below (Some e) steps ≡ Some x → (v : Data) × (below (Some d) steps ≡ Some v)
      back [] places segs x asked is = (d, refl)
      back (s ∷ steps) places segs x asked is = (kids s).back steps places segs x asked is

      lens : (steps : List Step) (places : Bool) (segs : Segments) (v x c : Data) (s : Step) → along steps A places segs → below (Some d) steps ≡ Some v → below (Some e) steps ≡ Some x
          → child_at x s ≡ Some c → array_len x ≡ array_len v
      lens [] places segs v x c s asked is there to = rw (← same_Some d v is, ← same_Some e x there) (len s c (subst (λ (y : Data). child_at y s ≡ Some c) (sym (same_Some e x there)) to))
      lens (t ∷ steps) places segs v x c s asked is there to = (kids t).lens steps places segs v x c s asked is there to

  -- null in the place of a value of which nothing is shown
  pub in_place : Shows A (Some d) None → Shows A (Some d) (Some null)
  in_place l = record { ends = λ steps places v asked is. absurd (let (e, there, same) = l.ends steps places v asked is in none-some e there); back = back; lens = lens }
    where
      back : (steps : List Step) (places : Bool) (segs : Segments) (x : Data) → along steps A places segs → below (Some null) steps ≡ Some x → (v : Data) × (below (Some d) steps ≡ Some v)
      back [] places segs x asked is = (d, refl)
      back (s ∷ steps) places segs x asked is = absurd (none-some x is)

      lens : (steps : List Step) (places : Bool) (segs : Segments) (v x c : Data) (s : Step) → along steps A places segs → below (Some d) steps ≡ Some v → below (Some null) steps ≡ Some x
          → child_at x s ≡ Some c → array_len x ≡ array_len v
      lens [] places segs v x c s asked is there to = absurd (none-some c (subst (λ (y : Data). child_at y s ≡ Some c) (sym (same_Some null x there)) to))
      lens (t ∷ steps) places segs v x c s asked is there to = absurd (none-some x there)

-- ---- at children and locations

pub shown_child : (A : Bool → Segments → Type 0) (v w : Data) (s : Step) (c e : Data) → Shows A (Some v) (Some w) → child_at v s ≡ Some c → child_at w s ≡ Some e → Shows (Then s A) (Some c) (Some e)
shown_child A v w s c e l here there = subst (λ o. Shows (Then s A) o (Some e)) here (subst (Shows (Then s A) (child_at v s)) there below_here)
  where
    below_here : Shows (Then s A) (child_at v s) (child_at w s)
    below_here = record { ends = λ steps. l.ends (s ∷ steps); back = λ steps. l.back (s ∷ steps); lens = λ steps. l.lens (s ∷ steps) }

pub shown_at : (steps : List Step) (A : Bool → Segments → Type 0) (v w d u : Data) → Shows A (Some v) (Some w) → at v steps ≡ Some d → at w steps ≡ Some u → Shows (along steps A) (Some d) (Some u)
shown_at [] A v w d u l here there = subst (λ o. Shows A o (Some u)) here (subst (Shows A (Some v)) there l)
shown_at (s ∷ steps) A v w d u l here there =
    option_and_then_some (λ c. at c steps) (child_at v s) d here (λ c is later. option_and_then_some (λ e. at e steps) (child_at w s) u there (λ e to further.
    shown_at steps (Then s A) c e d u (shown_child A v w s c e l is to) later further))

-- what stands at a location stands below something
pub at_split : (a b : List Step) (v d : Data) → at v (a ++ b) ≡ Some d → (c : Data) × (at v a ≡ Some c) × (at c b ≡ Some d)
at_split [] b v d e = (v, refl, e)
at_split (s ∷ a) b v d e = option_and_then_some (λ c. at c (a ++ b)) (child_at v s) d e (λ c is there. let (x, here, later) = at_split a b c d there in (x, rw is here, later))

pub at_joined : (a b : List Step) (v d : Data) → at v a ≡ Some d → at v (a ++ b) ≡ at d b
at_joined [] b v d e = rw (same_Some v d e) refl
at_joined (s ∷ a) b v d e = option_and_then_some (λ c. at c a) (child_at v s) d e (λ c is there. rw is (at_joined a b c d there))

pub at_step : (s : Step) (v c : Data) → child_at v s ≡ Some c → at v (s ∷ []) ≡ Some c
at_step s v c e = rw e refl

pub step_at : (s : Step) (v c : Data) → at v (s ∷ []) ≡ Some c → child_at v s ≡ Some c
step_at s v c e = option_and_then_some (λ x. at x []) (child_at v s) c e (λ x is same. is ∙ same)
