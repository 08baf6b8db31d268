-- Lemmas; the folders have the proofs of functions.
-- Floats: comparisons of floats as facts, and the laws.
-- Ratios: a double that is not below zero, as a ratio beside integers.
-- Orders: an integer and a double, by the double's whole part and fraction.
-- Forms: numbers by what holds them; integers keep their order.
-- Digits: digits written from the last to the first.
-- Finite: numbers of literals are in range, and finite.
-- Fewest: the fewest digits, one less after the other.
-- Numerals: digits, and the fewest that are read as a double.
-- ReadBack: the text of a decimal is read as that decimal.
-- Whole: a literal of whole billions of billionths is that integer.
-- Places: the places after the point of a decimal.
-- Words: the words of definitions and lemmas, from one place.
mod Digits
pub mod Finite
pub mod Floats
pub mod Forms
pub mod Fewest
pub mod Numerals
pub mod ReadBack
mod Orders
mod Places
mod Ratios
pub mod Whole
mod Words
