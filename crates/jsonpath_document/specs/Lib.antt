-- What contracts cite:
-- Document: which value bytes are, and what may be told of a place in a text that is no document.
pub mod Document
-- Place: lines and columns, what is open at a place, and what stands before it.
pub mod Place
-- Begins: what a text begins by, as from a place on.
pub mod Begins
-- Completes and Reading: which tokens, and which texts, complete a document from a place in it.
pub mod Completes
pub mod Reading
