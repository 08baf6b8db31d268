-- What public contracts cite; the rest is in `Inside`.
-- Numbers: exact numbers of documents and literals, and how they compare.
-- Decimals: doubles as decimals of few digits, and their texts.
-- Numerals: what a number literal of any length is worth.
-- Laws: equality is an equivalence, less is a strict order that agrees with it; integers keep their order.
-- Views: what contracts see of an exact number.
-- Inside: what contracts of private functions cite alone.
pub mod Decimals
pub mod Inside
pub mod Laws
pub mod Numbers
pub mod Numerals
pub mod Views
