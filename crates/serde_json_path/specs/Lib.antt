-- What public contracts cite; the rest is in `Inside`.
-- Paths: what contracts see of a path.
-- Fitting: paths that fit the built-in functions.
-- FromJson: what reading a path from a JSON value answers.
-- Laws: a normalised path is accepted with one tree, and selects its node alone.
-- Inside: that the test of two paths is an equivalence. A law of a trait may cite `specs` alone.
-- Words: the words of contracts, from one place.
pub mod Paths
pub mod Fitting
pub mod FromJson
pub mod Laws
pub mod Inside
pub mod Words
