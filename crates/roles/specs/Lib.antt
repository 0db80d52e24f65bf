-- What the contracts of `roles`, and of crates above it, cite.
pub mod Names
pub mod Roles
pub mod Rows
