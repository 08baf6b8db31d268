-- the words of definitions, from one place
pub mod Words
-- texts and their bytes
pub mod Texts
-- reading lists of characters, whatever is read: runs at the start, items one after another, and what a reader gives
pub mod Reading
-- items in a row, with a sign and blanks between them
pub mod Rows
-- the grammar, by subject: what is read is in the grammar, what is in the grammar is read, where a refusal stands
pub mod Grammar
-- steps of the code
pub mod Steps
-- printed texts read back
pub mod Printing
