-- What contracts cite:
-- Report: the text of a path's result on a document.
-- Run: the statuses of the program, and its one word.
-- Words: the words of contracts, from one place.
pub mod Report
pub mod Run
pub mod Words
