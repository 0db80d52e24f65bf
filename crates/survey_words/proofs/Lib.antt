-- Laws that the proofs of several functions cite, and those for the crates above.
mod Apart
mod Counting
mod Full
pub mod Joining
mod Prepending
mod Short
mod Words
