-- Lemmas; the folders have the proofs of functions.
-- Nodes: nodes that are written, one after the other.
-- Shown: what was written of a document is what its paths show.
-- Dressed: lines that are indented and escaped.
-- Named: the colours that a text of the environment names.
-- Cells: rows of tables, cell by cell.
-- Commas: rows with commas are UTF-8.
-- Arrays: what is shown of a document in one array, or for each path.
-- Read: what is shown of what was read is what is shown of the document.
-- Parsed: the paths of words, one after the other.
-- Bound: paths with values in them.
-- Asked: what options ask for, as documents are answered.
-- Sending: what is sent of inputs, one after the other.
-- Opened: which inputs are opened, one after the other.
-- Wanted: which inputs are opened where so many nodes are wanted of all.
-- Ended: how a run ends.
-- Quiet: runs that show nothing, and answer whether there is a node.
-- Checked: paths that are checked, one after the other.
-- Words: the words of definitions and lemmas, from one place.
mod Nodes
mod Shown
mod Dressed
mod Named
mod Cells
mod Commas
mod Arrays
mod Read
mod Parsed
mod Bound
mod Asked
mod Sending
mod Opened
mod Wanted
mod Ended
mod Quiet
mod Checked
mod Words
