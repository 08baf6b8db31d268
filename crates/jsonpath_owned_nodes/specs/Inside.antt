-- What contracts of private functions, invariants and proofs cite alone.

-- how the lists stand in one vector
pub mod Cut
-- how locations are stored
pub mod Stored
