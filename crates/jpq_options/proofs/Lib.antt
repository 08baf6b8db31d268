-- Lemmas; the folders have the proofs of functions.
-- Answered: what is answered, by what was found or by what `clap` says.
-- Commands: what `clap` reads of a command as it is built.
-- Found: what the getters of `clap` give, by rows.
-- Pairs: pairs of options in order.
-- Words: the words of definitions and lemmas, from one place.
pub mod Answered
pub mod Commands
pub mod Found
pub mod Pairs
mod Words
