-- A line so far, in colours.
use Rattle.jsonpath_lines.proofs.Words.{◌≡◌, ◌||◌, ℕ, Bool, true, false, List, [], ◌∷◌, ◌++◌, refl, sym, ap, subst, ◌∙◌, append_assoc, append-nil, bytes_eq, bytes_eq-Decides, codes, list_any, list_any_at, Contains, Form, IsColoured, IsTrue, IsUnseen, Raw, byte, empty, is_sequence, sequence, unseen}
use Rattle.jsonpath_lines.specs.declared.colours.Place.{Place}
use Rattle.jsonpath_lines.specs.declared.colours.Place.TheVariants.{Between}

-- ---- sequences

-- the sequence that ends a colour is not seen
pub unseen_end : (parameters : List (List ℕ)) → IsUnseen parameters (sequence (codes "0"))
unseen_end parameters = record { shows = λ line text shown. unseen (sequence (codes "0")) line text refl shown }

-- nor is one with one of the parameters
pub unseen_part : (parameters : List (List ℕ)) (own : List ℕ) → Contains parameters own → IsUnseen parameters (sequence own)
unseen_part parameters own is = record { shows = λ line text shown. unseen (sequence own) line text among shown }
  where
    test : List ℕ → Bool
    test other = bytes_eq (sequence own) (sequence other)

    passes : test own ≡ true
    passes = (bytes_eq-Decides (sequence own) (sequence own)).1 refl

    either : (a b : Bool) → b ≡ true → (a || b) ≡ true
    either true b holds = refl
    either false b holds = holds

    among : IsTrue (is_sequence parameters (sequence own))
    among = either (test (codes "0")) (list_any test parameters) (list_any_at test parameters is.0 own is.1 (ap test is.2 ∙ passes))

-- nor is the first with another after it
pub unseen_both : (parameters : List (List ℕ)) (own : List ℕ) → Contains parameters own → IsUnseen parameters (sequence (codes "0") ++ sequence own)
unseen_both parameters own is = record { shows = λ line text shown. rw (append_assoc (sequence (codes "0")) (sequence own) text) ((unseen_end parameters).shows line (sequence own ++ text) ((unseen_part parameters own is).shows line text shown)) }

-- ---- a line in colours

module _ (parameters : List (List ℕ)) where
  -- bytes of the line are seen
  seen : (bytes line text : List ℕ) → IsColoured parameters line text → IsColoured parameters (bytes ++ line) (bytes ++ text)
  seen [] line text shows = shows
  seen (b ∷ bs) line text shows = byte b _ _ (seen bs line text shows)

  -- what is seen of the text, and what is left, are the whole line
  abbrev pub IsSeenUpTo : List ℕ → List ℕ → List ℕ → Type 0
  IsSeenUpTo line text left =
      (done : List ℕ) × (line ≡ done ++ left) × ((rest more : List ℕ) → IsColoured parameters rest more → IsColoured parameters (done ++ rest) (text ++ more))

  -- the line, one character further, before which a sequence may stand
  pub seen_further : (line text change bytes left left' : List ℕ) → IsUnseen parameters change → left ≡ bytes ++ left' → IsSeenUpTo line text left → IsSeenUpTo line ((text ++ change) ++ bytes) left'
  seen_further line text change bytes left left' hidden is before =
      let done = before.0 in (
        done ++ bytes,
        before.1 ∙ ap (λ (t : List ℕ). done ++ t) is ∙ sym (append_assoc done bytes left'),
        λ rest more shows.
            rw (append_assoc done bytes rest, append_assoc (text ++ change) bytes more, append_assoc text change (bytes ++ more))
            (before.2 (bytes ++ rest) (change ++ (bytes ++ more)) (hidden.shows (bytes ++ rest) (bytes ++ more) (seen bytes rest more shows))),
      )

  -- the whole line is seen, whatever sequence ends it
  pub seen_whole : (line text change : List ℕ) → IsUnseen parameters change → IsSeenUpTo line text [] → IsColoured parameters line (text ++ change)
  seen_whole line text change hidden before =
      subst (λ (l : List ℕ). IsColoured parameters l (text ++ change)) (sym before.1)
      (subst (λ (t : List ℕ). IsColoured parameters (before.0 ++ []) (text ++ t)) (append-nil change) (before.2 [] (change ++ []) (hidden.shows [] [] empty)))

-- ---- lines that have no colours

-- of a form without colours the text is the line so far, and no colour stands open
abbrev pub IsPlainUpTo : Form → Place → List ℕ → List ℕ → List ℕ → Type 0
IsPlainUpTo form place line text left = form ≡ Raw → (place ≡ Between) × (line ≡ text ++ left)

pub plain_begun : (form : Form) (line text left : List ℕ) → text ≡ [] → left ≡ line → IsPlainUpTo form Between line text left
plain_begun form line text left none whole = λ raw. (refl, sym whole ∙ ap (λ (t : List ℕ). t ++ left) (sym none))

-- one character further
pub plain_further : (form : Form) (place next : Place) (line text changed pushed bytes left left' : List ℕ) → (form ≡ Raw → next ≡ Between) → (place ≡ Between → next ≡ Between → changed ≡ text) → pushed ≡ changed ++ bytes → left ≡ bytes ++ left'
    → IsPlainUpTo form place line text left → IsPlainUpTo form next line pushed left'
plain_further form place next line text changed pushed bytes left left' is none adds splits before = λ raw.
    let old = before raw in (
      is raw,
      old.1 ∙ ap (λ (t : List ℕ). text ++ t) splits ∙ sym (append_assoc text bytes left')
          ∙ ap (λ (t : List ℕ). t ++ left') (ap (λ (t : List ℕ). t ++ bytes) (sym (none old.0 (is raw))) ∙ sym adds),
    )

pub plain_whole : (form : Form) (place : Place) (line text changed left : List ℕ) → form ≡ Raw → (place ≡ Between → changed ≡ text) → left ≡ [] → IsPlainUpTo form place line text left → changed ≡ line
plain_whole form place line text changed left raw same none before =
    let old = before raw in
    same old.0 ∙ sym (append-nil text) ∙ ap (λ (t : List ℕ). text ++ t) (sym none) ∙ sym old.1
