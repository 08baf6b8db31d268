-- What public contracts cite, in the terms of RFC 9535; the rest is in `Inside`.

-- a value from which queries select the same as from a document
pub mod Alike
-- what contracts of private functions and proofs cite alone
pub mod Inside
-- what contracts see of a reader of documents
pub mod Readers
