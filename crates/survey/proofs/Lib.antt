-- Laws that the proofs of several functions cite, and those for the crates above.
pub mod Blocks
mod Passing
mod Rule
mod Taken
mod Words
