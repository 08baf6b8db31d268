-- What no promise rests on: what contracts of private functions cite, and proofs of laws, which must stand in `specs`.

-- what a copy of a node keeps
pub mod Copies
-- what is printed before a selector in brackets
pub mod Openings
-- the test of two trees is true exactly where they are equal, so it is an equivalence
pub mod SameLaws
