-- Lemmas; the folders have the proofs of functions.
-- Runs: what the steps of a run show of its words, its input and its refusals.
-- Words: the words of definitions and lemmas, from one place.
pub mod Runs
mod Words
