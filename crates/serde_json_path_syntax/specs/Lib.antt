-- ---- what contracts cite, in the terms of RFC 9535

-- syntax trees (RFC 9535, sections 2.1 to 2.5)
pub mod Tree
-- well-typed queries (RFC 9535, section 2.4.3)
pub mod Typing
-- how many filters, parentheses and calls stand within each other at most
pub mod Depth
-- the calls that a query makes
pub mod Calls
-- the names that a query calls, each with the signature under which the query is well-typed; the limit of its depth
pub mod Used
-- the text in which a query is printed, as the bytes of its UTF-8
pub mod Text
-- whether two trees are the same, as a computed test
pub mod SameTree
-- a query in which texts of literals stand for others
pub mod Bound
-- the range of the numbers in a tree, and the double of a decimal
pub mod WellFormed
-- what is in a list, and lists in an order
pub mod Lists
-- ---- what contracts see of builders and finished trees

-- the parts that a builder has made and the finished tree, as contracts see them
pub mod Parts
-- the trees that one part of a builder may stand for
pub mod Branch
-- literals and comparison operators as the definitions see them
pub mod Literals
-- the bindings of the program as the definitions see them
pub mod Bindings
-- a slice selector of the program as the definitions see it
pub mod SliceView
-- ---- how a vector of nodes stands for a tree

-- the trees of a vector of nodes, each of which names earlier ones
pub mod Flat
-- the kinds of branches, and which kind stands at each place of a node
pub mod Kinds
-- bounds of the numbers of parts
pub mod PartBounds
-- the segments of a tree as a walk takes them: each with its kind and the list of its selectors
pub mod Stages
-- ---- what no public contract cites

-- the vocabulary of private functions and of proofs
pub mod Inside
-- the words of contracts and proofs, from one place
pub mod Words
