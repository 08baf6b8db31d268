-- Trees of growing vectors.

-- parts that nodes name: their bounds, their kinds, and what stands for them
pub mod NamedParts
-- the tree of a vector of nodes, as it grows and is copied, and that its nodes fit
pub mod Growing
-- the tree of a vector of nodes in which texts of literals stand for others
pub mod Bound
