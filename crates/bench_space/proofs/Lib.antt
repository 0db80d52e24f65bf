-- What is answered within the limits of a map, and outside them (Limits); the contract of the function (Contracts).
pub mod Limits
pub mod Contracts
