-- The contracts of search and survey as C calls them.
pub mod Contracts
