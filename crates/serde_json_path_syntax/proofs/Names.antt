-- The names that a query calls.

-- names that a query calls, each once
pub mod Once
-- when the calls of a builder let a query be finished
pub mod Finishing
