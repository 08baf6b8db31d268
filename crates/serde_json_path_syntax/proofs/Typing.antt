-- Typing.

-- well-typedness is decided, so that it can be recovered from its truncation
pub mod Typings
-- well-typedness rests on the signatures of the called names alone
pub mod TypedByNames
