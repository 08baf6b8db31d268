-- Lemmas; the folders have the proofs of functions.
-- Words: the words of definitions and lemmas, from one place.
-- NormalTexts: the normalised path of a location is accepted, with a tree that goes down its steps and selects the node alone.
pub mod NormalTexts
pub mod Words
