-- Lemmas; the folders have the proofs of functions.
-- Words: what proofs cite, from one place.
-- Firsts: the first of some nodes, as many as limits allow.
-- Owners: the handles, as structs of one pointer.
-- Reached: what is known of a document, by what is read of it for a path.
-- Sent: what handles hold may go to another thread, and be read in several.
pub mod Firsts
pub mod Owners
pub mod Reached
pub mod Sent
mod Words
