-- the words of definitions, from one place
pub mod Words
-- the computed list of a query is its result, and no other list is
pub mod Meaning
-- a walk gives the computed list
pub mod Walks
-- what an evaluation stands on
pub mod Sound
-- steps of the code
pub mod Steps
-- whole numbers are compared by their billionths
pub mod Whole
