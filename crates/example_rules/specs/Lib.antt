-- what the set's name means, and that it keeps types and patterns
pub mod Prefixes
