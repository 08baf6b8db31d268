-- What contracts cite:
-- Table: the options of `jpq`, and the command by which its words are read.
-- Options: what is asked for by what was found, and which words are wrong use.
-- Pairs: which options may not be used together, or not alone.
-- Paths: the paths of a file.
pub mod Options
pub mod Pairs
pub mod Paths
pub mod Table
