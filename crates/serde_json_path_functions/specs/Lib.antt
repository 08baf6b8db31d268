-- What public contracts cite; the rest is in `Inside`.
-- Functions: function sets, what they promise, one before another, and the built-in names.
-- Patterns: what `match` and `search` mean, which patterns may be refused, what a set keeps of them, and the built-in set.
-- Terms: what contracts see of arguments, answers and signatures.
-- Errors: the texts of errors.
-- OwnSets: lemmas for a set of your own, that it keeps types and patterns.
-- Kept: what contracts see of the patterns that are kept.
-- Inside: that the sets here keep theirs, as a law of a trait may cite `specs` alone, and the built-in functions' names.
-- Words: the words of contracts, here and in the crates above, from one place.
pub mod Functions
pub mod Patterns
pub mod Terms
pub mod Errors
pub mod OwnSets
pub mod Kept
pub mod Inside
pub mod Words
