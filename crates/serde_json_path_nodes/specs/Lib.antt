-- What public contracts cite; the rest is in `Inside`.
-- Location: steps into a value, locations, the order of a document.
-- Text: escapes, normalised paths, JSON pointers.
-- Lists: what the calls of a list answer; `first_places`, which `dedup` leaves.
-- Laws: texts tell locations apart.
-- Views: what contracts see of the types.
-- Same: the computed test whether steps and locations are equal.
-- Inside: what contracts of private functions and proofs cite alone.
-- Words: the words of contracts, here and in the crates above, from one place.
pub mod Laws
pub mod Lists
pub mod Location
pub mod Same
pub mod Text
pub mod Views
pub mod Inside
pub mod Words
