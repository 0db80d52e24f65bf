-- Laws that the proofs of `look` and of complete cite.
pub mod Fillings
