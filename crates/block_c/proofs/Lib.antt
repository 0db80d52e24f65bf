-- The contracts of seal and check as C calls them.
pub mod Contracts
