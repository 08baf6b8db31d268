-- What no promise rests on: proofs of laws, which may cite `specs` alone, and what private functions cite.

-- one set before another keeps types and patterns
pub mod BothTypes
-- so does the built-in set
pub mod BuiltinTypes
-- the names of the built-in functions
pub mod BuiltinNames
