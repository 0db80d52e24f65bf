-- Laws that the proofs of several functions cite, and those for the crates above.
pub mod Bytes
mod Edges
pub mod Ends
pub mod Meeting
