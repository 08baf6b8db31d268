-- Lemmas; the folders have the proofs of functions.
-- Words: what proofs cite, from one place.
-- Owners: a struct of one pointer is made of what it owns and taken apart. Assumes `Logic`.
-- Held: what the pointer of a nullable box owns is nothing or a box's.
-- Shown: what the pointer of a nullable reference shows is nothing or a value's.
-- HeapBox: a box of the heap, as what is known of boxes takes it.
-- Moved: functions that move a pointer, with what it owns, from a struct into another.
-- Sent: what a handle's pointer owns, and what it shows, says the same to every thread.
pub mod Held
pub mod HeapBox
pub mod Moved
pub mod Owners
pub mod Sent
pub mod Shown
mod Words
