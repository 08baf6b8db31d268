-- What contracts of private functions, and proofs, cite alone.

-- ---- what the code computes, on plain data

-- what a query selects, computed
pub mod Computed
-- the nodes that remain of a walk, and how a frame moves on
pub mod Rest
-- ---- the code's values as the definitions see them

-- children, cursors, slice positions and frames as the definitions see them
pub mod Views
-- where a query goes on after segments that select one child at most
pub mod SingleChildren
-- the sides of a comparison as the definitions see them
pub mod Sides
-- comparisons, by how their sides are found
pub mod Comparisons
-- what all parts of an evaluation share, and what it asks of the query
pub mod Scopes
-- the words of the functions that evaluate
pub mod Evaluates
-- the words of contracts of private functions, from one place
pub mod Words
