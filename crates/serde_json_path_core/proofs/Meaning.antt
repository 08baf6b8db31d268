-- The computed list of a query is its result, and no other list is.

-- the computed children of a value are those that a step leads to, in document order
pub mod ChildSteps
-- the computed children of a slice are those at the positions that it selects, in its order
pub mod SlicePositions
-- the computed values below a value are those at its locations, in document order
pub mod Descents
-- the computed comparisons answer as the definitions say
pub mod Comparisons
-- well-typed calls have answers, and under a function set that keeps types these and the computed arguments have their declared types
pub mod AnswerKinds
-- where derivations end, and what is beneath
pub mod DerivationEnds
-- derivations are in an order
pub mod Order
-- the computed ends are those of the derivations, and the computed tests hold where the defined ones do
pub mod Derived
