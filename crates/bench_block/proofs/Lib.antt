-- The contracts of the functions.
pub mod Contracts
