-- Lemmas; the folders have the proofs of functions.
-- Pieces: what is written of some nodes, with that of another node after it; the lines that the pieces make up.
-- Chosen: the nodes that a walk is asked for, and a line sink that has enough.
-- EachOnce: nodes of which each location is taken once.
-- Seen: a line so far, in colours.
-- Scalars: the texts of null, truth values and integers are their JSON in each layout.
-- Quoted: texts without escapes in JSON, and the strings that they are.
-- Arrays: the array of nodes, written item by item, is its JSON.
-- Appended: what writes leave, one after the other.
-- Beginnings: what a write leaves, and beginnings of texts.
-- Words: the words of definitions and lemmas, from one place.
pub mod Pieces
pub mod Chosen
pub mod EachOnce
pub mod Seen
pub mod Scalars
pub mod Quoted
pub mod Arrays
pub mod Appended
pub mod Beginnings
pub mod Words
