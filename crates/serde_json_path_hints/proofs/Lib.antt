-- Lemmas; the folders have the proofs of functions.
-- Tables: the first slip of two tables, one after the other.
mod Tables
