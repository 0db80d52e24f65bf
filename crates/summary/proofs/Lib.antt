-- Laws that the proofs of several functions cite, and those for the crates above.
mod Checking
mod Idle
pub mod Numbers
pub mod Own
pub mod Rebuilding
pub mod Sites
pub mod Updates
pub mod Usable
mod Width
