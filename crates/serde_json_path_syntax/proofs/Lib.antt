-- the words that proofs cite, here and in the crates above, from one place
pub mod Words
-- trees of growing vectors
pub mod Tree
-- typing
pub mod Typing
-- the names that a query calls
pub mod Names
-- lists and tests
pub mod Lists
-- printed texts
pub mod Printing
-- equality
pub mod Equality
-- queries in which texts stand for others
pub mod Bound
-- what a text stands for, binding by binding
pub mod Bindings
