-- The laws of what is found and stored.
pub mod Storing
