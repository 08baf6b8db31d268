-- What contracts cite:
-- Held: what the pointer of a handle owns.
-- Shown: what the pointer shows of a value that is lent.
pub mod Held
pub mod Shown
