-- Conditions and slips as the code reads them, through references: what they are in a table.
use Rattle.std.specs.Prelude.{ℕ, List, map}
use Rattle.std.specs.Borrow.{Bor}
use Rattle.serde_json_path_hints.specs.declared.condition.Condition.{Condition}
use Rattle.serde_json_path_hints.specs.declared.condition.Condition.TheVariants.{Any, Empty, Starts, Ends, Holds, Word, Near, Call, Name, Dashed, Digit, EndsInName, EndsInLetter, EndsInDigit}
use Rattle.serde_json_path_hints.specs.Conditions.{Text, Texts}
use Rattle.serde_json_path_hints.specs.Hints.{Slip}

abbrev pub LentTexts : Type 0
LentTexts = Bor (List (Bor (List ℕ)))

abbrev pub text_of : Bor (List ℕ) → Text
text_of text = record { now = text.now }

abbrev pub texts_of : LentTexts → Texts
texts_of texts = record { now = map text_of texts.now }

abbrev pub condition_of : Condition LentTexts → Condition Texts
condition_of Any = Any
condition_of Empty = Empty
condition_of (Starts starts) = Starts (texts_of starts)
condition_of (Ends ends) = Ends (texts_of ends)
condition_of (Holds parts) = Holds (texts_of parts)
condition_of (Word words) = Word (texts_of words)
condition_of (Near names) = Near (texts_of names)
condition_of Call = Call
condition_of Name = Name
condition_of Dashed = Dashed
condition_of Digit = Digit
condition_of EndsInName = EndsInName
condition_of EndsInLetter = EndsInLetter
condition_of EndsInDigit = EndsInDigit

abbrev pub slip_of : Condition LentTexts × Condition LentTexts × Bor (List ℕ) → Slip
slip_of s = (condition_of s.0, condition_of s.1, text_of s.2)
