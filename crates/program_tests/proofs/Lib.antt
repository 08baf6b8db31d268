-- Lemmas; the folder has the proofs of functions.
-- TwoItems: what is shown of two items, and of a document by a normalised path.
-- AskedWords: what the words of a run ask for.
-- FilesShown: what is shown of the two files.
mod TwoItems
mod AskedWords
mod FilesShown
