-- What contracts cite:
-- Output: which nodes are shown, and what is shown of them in each form.
-- Distinct: enough nodes, each location once.
-- Coloured: lines in colours.
-- Sent: texts that went out, or beginnings of them.
-- Inside: what contracts of private functions cite alone.
-- Words: the words of contracts, from one place.
pub mod Output
pub mod Distinct
pub mod Coloured
pub mod Sent
pub mod Inside
pub mod Words
