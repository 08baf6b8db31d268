-- Steps of the code.

-- a call of a set answers what is computed, and is refused for its pattern only where it goes by one
pub mod Answered
-- what the code looks up: names of a map in order, operands, and known cases
pub mod Lookups
-- the positions of a slice, and how they go on by one
pub mod Positions
