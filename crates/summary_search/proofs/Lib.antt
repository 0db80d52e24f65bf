-- Laws that the proofs of several functions cite, and those for the crates above.
mod Bounds
mod Ways
mod Near
mod Places
pub mod Searches
mod Telling
pub mod Turns
