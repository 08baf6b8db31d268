-- Frames of a walk: their arrivals, and what they pass.
use Rattle.serde_json_path_core.proofs.Words.{arith, nat_tests, common_steps, ◌≡◌, ℕ, ◌+◌, List, [], ◌∷◌, ◌++◌, map, flat_map, refl, ap, ◌∙◌, sym, append_assoc, drop, Some, inl, inr, subst, map-append, Data, Step, SegmentKind, child, descendant, Selector, candidates, lower, opened, arrivals, child_at, FunctionSet, name, wildcard, index, slice, Stage, AreChildrenOf, Frame, admitted, unfiltered, EndsIn, Skips, IsAtAdmitted, Passes, IsDone, IsAtArrival, by_name, in_append}
use Rattle.serde_json_path_core.proofs.Meaning.ChildSteps.{in_children, in_child_by, in_item_at}
use Rattle.serde_json_path_core.proofs.Meaning.SlicePositions.{in_sliced}

-- ---- the arrivals of a frame, a step at a time

module _ (admit : Selector → List (Step × Data) → List (Step × Data)) (number : ℕ) (kind : SegmentKind) (v : Data) where
  -- a child for the next segment, and one for this segment
  abbrev pub onward : Step × Data → ℕ × (Step × Data)
  onward c = (number + 1, c)

  abbrev pub downward : Step × Data → ℕ × (Step × Data)
  downward c = (number, c)

  abbrev all_of : List Selector → List (Step × Data)
  all_of sels = flat_map (λ s. admit s (candidates s v)) sels

  -- where a segment begins
  pub next_opened : (sels : List Selector) → map onward (all_of sels) ++ map downward (lower kind v) ≡ arrivals admit number kind sels (opened kind sels v) v
  next_opened sels = grind (arith, nat_tests, common_steps)

  -- the selector at work passes some that it admits
  pub skips_over : (sels : List Selector) (sel : Selector) (more : List Selector) (cs ds front : List (Step × Data))
      → sels ≡ sel ∷ more → admit sel cs ≡ front ++ admit sel ds → arrivals admit number kind sels cs v ≡ map onward front ++ arrivals admit number kind sels ds v
  skips_over sels sel more cs ds front e a = grind (arith, nat_tests, common_steps, map-append)

  -- the next selector begins, past what this one still admits
  pub turns_over : (sels : List Selector) (sel : Selector) (more : List Selector) (cs ds : List (Step × Data))
      → sels ≡ sel ∷ more → ds ≡ opened kind more v → arrivals admit number kind sels cs v ≡ map onward (admit sel cs) ++ arrivals admit number kind more ds v
  turns_over sels sel more cs ds e d = grind (arith, nat_tests, common_steps, map-append, next_opened)

  -- after the last selector, a child to go down to
  pub goes_down : (sels : List Selector) (cs ds : List (Step × Data)) (c : Step × Data)
      → kind ≡ descendant → sels ≡ [] → cs ≡ c ∷ ds → arrivals admit number kind sels cs v ≡ downward c ∷ arrivals admit number kind sels ds v
  goes_down sels cs ds c k e a = grind (arith, nat_tests, common_steps)

  -- after the last selector there is nothing left
  pub is_done : (sels : List Selector) (cs : List (Step × Data)) → sels ≡ [] → (kind ≡ descendant → cs ≡ []) → arrivals admit number kind sels cs v ≡ []
  is_done sels cs e h = grind (arith, nat_tests, common_steps)

-- ---- ends of lists

pub ends-trans : {A : Type 0} (xs ys zs : List A) → EndsIn xs ys → EndsIn ys zs → EndsIn xs zs
ends-trans xs ys zs a b = (a.0 ++ b.0, a.1 ∙ ap (λ more. a.0 ++ more) b.1 ∙ sym (append_assoc a.0 b.0 zs))

-- ---- children of the value

end-of : (v : Data) (front cs : List (Step × Data)) → AreChildrenOf v (front ++ cs) → AreChildrenOf v cs
unfolding AreChildrenOf
end-of v front cs h = λ c i. h c ((in_append c front cs).1 (inr i))

first-of : (v : Data) (c : Step × Data) (cs : List (Step × Data)) → AreChildrenOf v (c ∷ cs) → child_at v c.0 ≡ Some c.1
unfolding AreChildrenOf
first-of v c cs h = h c (inl refl)

-- the children with which a selector begins are of the value
pub candidates-of : (sel : Selector) (v : Data) → AreChildrenOf v (candidates sel v)
unfolding AreChildrenOf
candidates-of sel v = grind (arith, nat_tests, common_steps, in_child_by, in_item_at, in_sliced, in_children)

pub opened-of : (kind : SegmentKind) (sels : List Selector) (v : Data) → AreChildrenOf v (opened kind sels v)
unfolding AreChildrenOf
opened-of descendant [] v = candidates-of wildcard v
opened-of kind sels v = grind (arith, nat_tests, common_steps, candidates-of)

-- ---- frames

-- a frame at the selector of that number, with these children left
abbrev pub at_selector : Frame → ℕ → List (Step × Data) → Frame
at_selector p number left = record { step = p.step; value = p.value; segment = p.segment; selector = number; left = left }

module _ (F : FunctionSet) (top : Data) (stage : Stage) where
  -- the selector at work admits no more of them, and the next one begins
  pub passes-over : (old mid : Frame) (sel : Selector) (left : List (Step × Data)) → Passes F top stage old mid
      → drop mid.selector stage.selectors ≡ sel ∷ drop (mid.selector + 1) stage.selectors → (admitted F top sel mid.left ≡ [])
      → left ≡ opened stage.kind (drop (mid.selector + 1) stage.selectors) mid.value
      → Passes F top stage old (at_selector mid (mid.selector + 1) left)
  passes-over old mid sel left before here none is =
      let more = drop (mid.selector + 1) stage.selectors in (
        (before.0.0, before.0.1, before.0.2, λ h. subst (AreChildrenOf mid.value) (sym is) (opened-of stage.kind more mid.value)),
        before.1 ∙ turns_over (admitted F top) mid.segment stage.kind mid.value (drop mid.selector stage.selectors) sel more mid.left left here is
            ∙ ap (λ cs. map (onward (admitted F top) mid.segment stage.kind mid.value) cs ++ arrivals (admitted F top) mid.segment stage.kind more left mid.value) none,
        ends-trans _ _ _ before.2
            (map (onward unfiltered mid.segment stage.kind mid.value) mid.left, turns_over unfiltered mid.segment stage.kind mid.value (drop mid.selector stage.selectors) sel more mid.left left here is),
      )

  -- the selector at work passes some children that it does not admit
  pub passes-skipped : (old mid : Frame) (sel : Selector) (more : List Selector) (left : List (Step × Data)) → Passes F top stage old mid
      → drop mid.selector stage.selectors ≡ sel ∷ more → Skips F top sel mid.left left → Passes F top stage old (at_selector mid mid.selector left)
  passes-skipped old mid sel more left before here skips = (
    (before.0.0, before.0.1, before.0.2, λ h. end-of mid.value skips.1.0 left (subst (AreChildrenOf mid.value) skips.1.1 (before.0.3 h))),
    before.1 ∙ skips_over (admitted F top) mid.segment stage.kind mid.value (drop mid.selector stage.selectors) sel more mid.left left [] here skips.0,
    ends-trans _ _ _ before.2
        (map (onward unfiltered mid.segment stage.kind mid.value) skips.1.0, skips_over unfiltered mid.segment stage.kind mid.value (drop mid.selector stage.selectors) sel more mid.left left skips.1.0 here skips.1.1),
  )

  -- the first child that is left is one that the selector at work admits
  pub at-onward : (p : Frame) (sel : Selector) (more : List Selector) (c : Step × Data)
      → drop p.selector stage.selectors ≡ sel ∷ more → IsAtAdmitted F top sel p.left (Some c) → IsAtArrival F top stage p (Some (p.segment + 1, c))
  at-onward p sel more c here at = (
    (refl, refl, refl, λ h. end-of p.value (c ∷ []) (drop 1 p.left) (subst (AreChildrenOf p.value) at.0 h)),
    skips_over (admitted F top) p.segment stage.kind p.value (drop p.selector stage.selectors) sel more p.left (drop 1 p.left) (c ∷ []) here at.1,
    ([], skips_over unfiltered p.segment stage.kind p.value (drop p.selector stage.selectors) sel more p.left (drop 1 p.left) (c ∷ []) here at.0),
    λ h. first-of p.value c (drop 1 p.left) (subst (AreChildrenOf p.value) at.0 h),
  )

  -- after the last selector, the first child that is left is one to go down to
  pub at-downward : (p : Frame) (c : Step × Data) → drop p.selector stage.selectors ≡ [] → stage.kind ≡ descendant → p.left ≡ c ∷ drop 1 p.left
      → IsAtArrival F top stage p (Some (p.segment, c))
  at-downward p c here kind is = (
    (refl, refl, refl, λ h. end-of p.value (c ∷ []) (drop 1 p.left) (subst (AreChildrenOf p.value) is h)),
    goes_down (admitted F top) p.segment stage.kind p.value (drop p.selector stage.selectors) p.left (drop 1 p.left) c kind here is,
    ([], goes_down unfiltered p.segment stage.kind p.value (drop p.selector stage.selectors) p.left (drop 1 p.left) c kind here is),
    λ h. first-of p.value c (drop 1 p.left) (subst (AreChildrenOf p.value) is h),
  )

  -- after the last selector there is nothing left to go down to
  pub done : (p : Frame) → drop p.selector stage.selectors ≡ [] → (stage.kind ≡ descendant → p.left ≡ []) → IsDone F top stage p
  done p here none = is_done (admitted F top) p.segment stage.kind p.value (drop p.selector stage.selectors) p.left here none
