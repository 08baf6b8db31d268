-- What public contracts cite, in the terms of RFC 9535; the rest is in `Inside`.

-- which positions of an array a slice selects (RFC 9535, section 2.3.4.2)
pub mod Slices
-- comparison of values (RFC 9535, section 2.3.5.2.2)
pub mod Compared
-- derivations of a query
pub mod Derivation
-- what a query selects (RFC 9535, sections 2.1 to 2.5), under a function set and at the root of a document
pub mod Meaning
-- the calls by a pattern that `regex` reads, which alone may be refused for it
pub mod PatternCalls
-- what the calls that evaluate promise: which nodes are selected, and when a call is refused
pub mod Selects
-- walks as contracts see them; `rest` may be read as opaque, as the clauses of `walk` and `next` say what it is
pub mod Walks
-- what a sink makes of a node
pub mod Sinks
-- how far down a value goes
pub mod Height
-- laws of the definitions
pub mod Laws
-- what contracts of private functions and proofs cite alone
pub mod Inside
-- what the definitions take from the crates below, from one place
pub mod Imports
