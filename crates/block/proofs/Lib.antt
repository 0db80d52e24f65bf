-- The answers of seal and check, their contracts, and what a contract theorem says.
pub mod Answers
pub mod Clauses
pub mod Contracts
