-- What the contracts of `summary` cite.
pub mod Summary
pub mod Updates
pub mod Walks
