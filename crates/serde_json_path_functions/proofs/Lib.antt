-- Lemmas; the folders have the proofs of functions.
-- RegexAgrees: `regex` finds a pattern exactly where its specification does.
-- SameSignatures: the test of two signatures decides whether they are equal.
-- Sets: a function set before itself is that set.
pub mod Lengths
pub mod RegexAgrees
pub mod SameSignatures
pub mod Sets
