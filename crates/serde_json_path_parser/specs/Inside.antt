-- What contracts of private functions, and proofs, cite alone.

-- a reader of a text, what is read at a level, and what a function of the parser gives
pub mod Giving
-- what the bytes ahead tell, what was looked at, and stretches of characters
pub mod Looking
-- the words of contracts of private functions, from one place
pub mod Words
