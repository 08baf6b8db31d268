-- Lines that are dressed, character by character.
use Rattle.jpq_program.proofs.Words.{◌≡◌, ◌∙◌, ◌==◌, ◌&&◌, ◌++◌, ◌∷◌, ℕ, Bool, true, false, List, [], ap, refl, sym, append-nil, if◌then◌else◌, encode_utf8, led_by, Data, Dress, IsLine, IsLook, Located, Look, None, Option, Showing, dressed, end_text, escaped, has_escapes, indented, look_of, look_with, subst, IsUtf8, IsUtf8-past_char, append_assoc, chars, chars-nil, chars_past_char, flat_map, length, nil_from_length}
use Rattle.jsonpath_lines.specs.Inside as lines

-- a character that is not at the start of a line
pub within_step : (unit : List ℕ) (c : ℕ) (cs : List ℕ) → led_by unit false (c ∷ cs) ≡ encode_utf8 c ++ led_by unit (c == 10) cs
within_step unit c [] = sym (append-nil (encode_utf8 c))
within_step unit c (d ∷ cs) = refl

-- one that is, and is no space
pub start_step : (unit : List ℕ) (c : ℕ) (cs : List ℕ) → (c == 32) ≡ false → led_by unit true (c ∷ cs) ≡ encode_utf8 c ++ led_by unit (c == 10) cs
start_step unit c [] other = sym (append-nil (encode_utf8 c))
start_step unit c (d ∷ cs) other = ap (λ (is : Bool). if true && (is && (d == 32)) then unit ++ led_by unit true cs else encode_utf8 c ++ led_by unit (c == 10) (d ∷ cs)) other

-- one that is no space, after one space there
pub after_step : (unit : List ℕ) (c : ℕ) (cs : List ℕ) → (c == 32) ≡ false → led_by unit true (32 ∷ c ∷ cs) ≡ encode_utf8 32 ++ (encode_utf8 c ++ led_by unit (c == 10) cs)
after_step unit c cs other = ap (λ (is : Bool). if true && (true && is) then unit ++ led_by unit true cs else encode_utf8 32 ++ led_by unit false (c ∷ cs)) other
    ∙ ap (λ (t : List ℕ). encode_utf8 32 ++ t) (within_step unit c cs)

-- ---- what is made of each character

-- one more character of a text
pub each_further : (f : ℕ → List ℕ) (left later done now whole : List ℕ) (c : ℕ) → IsUtf8 left → left ≡ encode_utf8 c ++ later → now ≡ done ++ f c → done ++ flat_map f (chars left) ≡ whole → IsUtf8 later × (now ++ flat_map f (chars later) ≡ whole)
each_further f left later done now whole c utf8 parts more so_far = (
  IsUtf8-past_char left later c utf8 parts,
  ap (λ (t : List ℕ). t ++ flat_map f (chars later)) more ∙ append_assoc done (f c) (flat_map f (chars later)) ∙ ap (λ (cs : List ℕ). done ++ flat_map f cs) (sym (chars_past_char left later c utf8 parts)) ∙ so_far,
)

-- all of them
pub each_done : (f : ℕ → List ℕ) (left done whole : List ℕ) → length left ≡ 0 → done ++ flat_map f (chars left) ≡ whole → done ≡ whole
each_done f left done whole none so_far = sym (append-nil done) ∙ ap (λ (bs : List ℕ). done ++ flat_map f bs) (sym (ap chars (nil_from_length left none) ∙ chars-nil)) ∙ so_far

-- ---- a node's line

-- what is neither indented nor escaped is as it is
pub bare_line : (look : Look) (d : Data) (line : List ℕ) → look.unit ≡ None → look.ascii ≡ false → dressed look d line ≡ line
bare_line look d line unit ascii = by_case (has_escapes look.output.form d)
  where
    by_case : (escapes : Bool) → (if escapes then escaped look.ascii (indented look.unit line) else line) ≡ line
    by_case true = ap (λ (a : Bool). escaped a (indented look.unit line)) ascii ∙ ap (λ (u : Option (List ℕ)). indented u line) unit
    by_case false = refl

-- a line that is not dressed
pub bare_look : (showing : Showing) (head : List ℕ) (n : Located) (old new : List ℕ) → showing.dress ≡ None → lines.Appends (IsLine showing.output head n) old new → lines.Appends (IsLook (look_of showing) head n) old new
bare_look showing head n old new none is = subst (λ (dress : Option Dress). lines.Appends (IsLook (look_with showing.output showing.most_of_all showing.summed dress) head n) old new) (sym none) (is.0, (line, line, (own.0, own.1, refl), sym (bare_line bare n.value line refl refl), own.2), is.2)
  where
    bare : Look
    bare = look_with showing.output showing.most_of_all showing.summed None

    own : IsLine showing.output head n is.0
    own = is.1

    line : List ℕ
    line = own.0 ++ end_text showing.output.end
