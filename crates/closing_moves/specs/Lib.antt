-- What the contracts of `closing_moves` cite.
pub mod Moved
