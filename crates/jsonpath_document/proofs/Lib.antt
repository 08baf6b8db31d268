-- Lemmas; the folders have the proofs of functions.
-- Along: a text that is read byte by byte, what follows so much of it, and what begins none.
pub mod Along
-- Beginnings: blanks alone are the beginning of a document.
pub mod Beginnings
-- Steps: a text completes a document where what follows its first byte does, from where that byte leads. Bytes, Numbers and Strings
-- are of its cases; Parsed does the same of tokens.
mod Steps
mod Bytes
mod Numbers
mod Strings
mod Parsed
-- Fills: some text completes a document from each place. Endings and Growth are of numbers: which can end within the floats (Range), by
-- their parts (Shapes) and what is scanned of these (Scans), and which only grow.
mod Fills
mod Endings
mod Growth
mod Range
mod Shapes
mod Scans
-- Edges: a text breaks between characters only. Characters: which bytes after a text end within a character, and which are of none.
mod Edges
mod Characters
-- Levels: what is open, of levels in an array.
mod Levels
