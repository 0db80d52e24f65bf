-- What the contracts of `calendar`, and of crates above it, cite.
pub mod Calendar
pub mod Days
pub mod Term
