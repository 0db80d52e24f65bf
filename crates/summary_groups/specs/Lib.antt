-- What the contracts of `summary_groups` cite, and those of the crates above.
pub mod Groups
pub mod Places
pub mod Words
