-- What is observed of a source: its text, how often it was looked at, and the farthest byte.
use Rattle.std.specs.Prelude.{ℕ, ◌+◌, ◌-◌, ◌^◌, List, if◌then◌else◌, nat_lt, max}

-- the greatest number of a place: a text of so many bytes has no number for its end
abbrev pub greatest_usize : ℕ
greatest_usize = 2 ^ 64 - 1

-- the text's bytes, the number of looks, and the number of the farthest byte looked at, from 1,
-- or 0
pub record Observed : Type 0 where
  pub text : List ℕ
  pub looks : ℕ
  pub farthest : ℕ

-- the source after a look at the byte at that index, from 0; at the greatest count the looks stay
abbrev pub looked : Observed → ℕ → Observed
looked observed index = record {
  text = observed.text;
  looks = if nat_lt observed.looks (2 ^ 128 - 1) then observed.looks + 1 else observed.looks;
  farthest = max observed.farthest (index + 1);
}
