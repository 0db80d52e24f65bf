-- Laws that the proofs of several functions cite, and those for the crates above.
pub mod Bits
pub mod Fits
pub mod Least
pub mod Maps
pub mod Masks
pub mod Runs
