-- What contracts cite:
-- Hints: which slip is told.
-- Conditions: what is said of the text on one side of a place.
-- Inside: what only private functions cite.
pub mod Conditions
pub mod Hints
pub mod Inside
