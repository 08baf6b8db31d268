-- Lent: the slips of which the code tells the first.
pub mod Lent
