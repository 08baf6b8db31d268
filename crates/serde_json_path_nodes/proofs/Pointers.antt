-- A name in a pointer, character by character.
use Rattle.serde_json_path_nodes.proofs.Words.{◌≡◌, ◌≢◌, ℕ, List, ◌++◌, arith, append_assoc, flat_map, nat_tests, flat_map-append, in_pointer}
use lib.Utf8.{encode}

-- a text that stands for itself
abbrev Copies : List ℕ → Type 0
Copies bs = flat_map in_pointer bs ≡ bs

-- a character other than `~` and `/` stands for itself
in_pointer-encode : (c : ℕ) → c ≢ 126 → c ≢ 47 → Copies (encode c)
unfolding encode
in_pointer-encode c tilde slash = grind (arith, nat_tests)

-- the name, one character further
pub pointer_more : (written rest rest' : List ℕ) (c : ℕ) → c ≢ 126 → c ≢ 47 → rest ≡ encode c ++ rest'
    → (written ++ encode c) ++ flat_map in_pointer rest' ≡ written ++ flat_map in_pointer rest
pointer_more written rest rest' c tilde slash step = grind (arith, nat_tests, flat_map-append, in_pointer-encode, append_assoc)
