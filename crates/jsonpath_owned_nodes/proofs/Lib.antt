-- Lemmas; the folders have the proofs of functions.
-- Words: what proofs cite, from one place.
-- Cuts: lists that stand one after the other, each up to its end.
-- Kept: what a list keeps of its nodes, read from its parts.
-- Names: names in a text that all of them share, and that grows.
mod Cuts
mod Kept
mod Names
mod Words
