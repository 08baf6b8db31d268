-- the words of definitions, from one place
pub mod Words
-- values that show what is asked of others
pub mod Shows
-- what is asked at the end of a derivation
pub mod Pending
-- queries select the same from a value that shows what they ask
pub mod Same
-- what the loops over items and members have shown so far
pub mod Reading
-- values, items and members are read one token after another
pub mod Tokens
-- lists of values and entries as data
pub mod Values
-- what is asked at a value is pending there
pub mod Rows
-- a plan grows by rows
pub mod Plans
-- selectors that may admit a step
pub mod Selectors
-- what queries select from what is read of a document
pub mod Documents
-- a number of few bytes is not beyond doubles
pub mod Small
