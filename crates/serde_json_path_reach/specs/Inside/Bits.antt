-- What is pending at a value, as the bits of a number.
use Rattle.std.specs.Prelude.{◌==◌, ◌||◌, ◌&&◌, ℕ, Bool, not}
use Rattle.std.specs.Int.Bits.{bit_and}

-- some bit of the two is the same
unfoldable pub meets : ℕ → ℕ → Bool
meets a b = not (bit_and a b == 0)

-- the lowest bit is set: a query may end at the value, so all of it is kept
abbrev pub is_whole : ℕ → Bool
is_whole pending = meets pending 1

-- the next one is: a query of which places are enough may end at the value, so its place is kept
abbrev pub is_place : ℕ → Bool
is_place pending = meets pending 2

-- a query may end at the value, whose place may be enough
abbrev pub is_end : Bool → ℕ → Bool
is_end places pending = is_whole pending || (places && is_place pending)
