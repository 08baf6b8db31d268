-- The grammar, by subject: what is read is in the grammar, what is in the grammar is read, where a refusal stands.

-- integers and number literals: what is read is one, each is read, and where a refusal of one stands
pub mod Numbers
-- numerals of any length, and number literals by either rule
pub mod Numerals
-- what reads by whole numbers reads by all numbers
pub mod ReadMore
-- string literals
pub mod Strings
-- selectors, brackets with them, and segments
pub mod Segments
-- trees whose filters are good: what may follow an operand or an expression, how each begins, and filters by what holds one level deeper
pub mod LogicalForms
-- operands, comparisons and tests, by what holds one level deeper
pub mod Comparisons
-- logical expressions, by what holds one level deeper
pub mod LogicalExpressions
-- arguments and calls, by what holds one level deeper; and the laws of these pieces at every level
pub mod Calls
-- whole paths, and the promises of a parse
pub mod Paths
