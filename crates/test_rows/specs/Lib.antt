-- The function sets of the tests.
pub mod TestSets
