-- What contracts of private functions, and proofs, cite alone.

-- the orders by which `dedup` sorts
pub mod NodeOrder
pub mod StepOrder
