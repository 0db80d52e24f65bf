-- Laws for other crates too: stored numbers, bytes replaced, and what stores leave of a slice.
pub mod Numbers
pub mod Replaced
pub mod Stores
