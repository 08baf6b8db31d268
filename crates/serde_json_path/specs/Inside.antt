-- What no promise rests on: proofs of laws, which may cite `specs` alone.

-- the test of two paths is an equivalence
pub mod SamePaths
