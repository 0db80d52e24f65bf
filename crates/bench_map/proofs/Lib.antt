-- The limits of a map, and what is answered within and outside them (Limits); the contracts of the functions (Contracts).
pub mod Limits
pub mod Contracts
