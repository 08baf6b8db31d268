-- What contracts cite:
-- Run: what comes of a run.
-- Bindings: the texts in paths for which there are values.
-- Heads: what lines begin with.
-- Colours: the colours of lines.
-- Looks: how the line of a node looks.
-- Answers: what is shown of a document.
-- Rows: rows of tables.
-- Inputs: what is shown of inputs.
-- Inside: what contracts of private functions cite alone.
pub mod Run
pub mod Bindings
pub mod Heads
pub mod Colours
pub mod Looks
pub mod Answers
pub mod Rows
pub mod Inputs
pub mod Inside
