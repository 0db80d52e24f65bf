-- What the contracts of `block_bytes`, and of crates above it, cite.
pub mod Numbers
pub mod Replaced
