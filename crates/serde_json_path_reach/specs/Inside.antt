-- What contracts of private functions, and proofs, cite alone.

-- the queries inside a query
pub mod Queries
-- what is pending at a value, as bits
pub mod Bits
-- a value that shows what is asked of another
pub mod Shows
-- steps that a selector may admit
pub mod Steps
-- the rows of a plan: what is pending, and what is after a step
pub mod Rows
-- values that are no arrays and no objects, by their tokens
pub mod Leaves
-- what is read of tokens
pub mod Tokens
