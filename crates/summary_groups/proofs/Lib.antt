-- Laws that the proofs of several functions cite, and those for the crates above.
pub mod Ends
pub mod Halves
pub mod Joins
pub mod Places
mod Rounds
