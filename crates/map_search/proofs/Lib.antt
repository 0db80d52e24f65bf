-- Laws that the proofs of several functions cite.
pub mod Ored
pub mod Window
pub mod Words
