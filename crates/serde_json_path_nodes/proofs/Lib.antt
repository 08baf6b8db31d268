-- Lemmas; the folders have the proofs of functions.
-- Words: what proofs cite, here and in the crates above, from one place.
-- Equal: the derived `==` of elements is the test of their steps.
-- Quotes: a text in quotes, written character by character.
-- Steps: a location, written step by step.
-- Pointers: a name in a pointer, written character by character.
-- TextsApart: locations are read back from their normalised paths.
-- Orders: the orders of steps and of locations are total.
-- KeptBySorting: what sorting by an order, removing repeats and sorting back leaves.
-- FirstPlaces: for numbered nodes, that is `first_places`.
mod Equal
mod FirstPlaces
mod KeptBySorting
mod Orders
mod Pointers
mod Quotes
mod Steps
mod TextsApart
pub mod Words
