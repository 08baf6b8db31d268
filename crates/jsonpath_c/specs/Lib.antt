-- What public contracts cite; the rest is in `Inside`.
-- Words: what clauses and definitions take from the crates below.
-- Clauses: what clauses cite, from one place.
-- Exports: what the exports answer that keep nothing, and what they write.
-- Handles: what handles hold, and what calls answer of it.
-- Inside: what contracts of private functions and proofs cite alone.
pub mod Exports
pub mod Handles
pub mod Inside
pub mod Words
pub mod Clauses
