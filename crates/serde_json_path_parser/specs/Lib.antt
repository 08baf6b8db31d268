-- ---- which texts are accepted, each with which tree

-- names, integers, numbers and strings in the text
pub mod Lexical
-- which text has which tree
pub mod Grammar
-- which text is accepted, and with which tree
pub mod Accepted
-- acceptance: what a parse answers of which text
pub mod Parse
-- a text has one tree at most, and a printed tree reads back
pub mod Laws
-- ---- what contracts see of sources and errors

-- one text, and how it was looked at
pub mod Source
-- what the source of a text in memory tells
pub mod TextSources
-- what contracts see of a refusal, and its message
pub mod Errors
-- ---- which refusal is reported

-- which refusal a parse reports: the one that the computed reading meets first
pub mod Reported
-- the computed reading, on lists of characters: what reading a piece gives, and how pieces follow
-- one another
pub mod Parsed
-- string literals
pub mod Strings
-- number literals
pub mod Numbers
-- names, integers, slices, selectors, brackets and segments
pub mod Parsing
-- what a filter compares or tests, and how it may be used
pub mod Operands
-- logical expressions, calls, and the whole path
pub mod Filters
-- ---- what no public contract cites

-- the vocabulary of private functions and of proofs
pub mod Inside
-- what the definitions take from the crates below, from one place
pub mod Imports
