-- What public contracts cite; the rest is in `Inside`.
-- Info: what is known of a node without its document.
-- Kept: what a list keeps of its nodes.
-- Lists: what contracts see of lists that stand in one vector.
-- Inside: what contracts of private functions, invariants and proofs cite alone.
-- Words: the words of contracts, from one place.
pub mod Info
pub mod Kept
pub mod Lists
pub mod Inside
pub mod Words
