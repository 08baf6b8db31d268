-- A walk gives the computed list.

-- a child is lower than its value
pub mod Heights
-- frames of a walk: their arrivals, and what they pass
pub mod Frames
-- turns of a walk: what the last frame comes to
pub mod Turns
-- a query goes down by segments that select one child at most
pub mod SingleChildren
-- stacks of frames: what is left of a walk, and the stack with which one begins
pub mod Stacks
-- chains of frames in a document, and where they stand
pub mod Chains
