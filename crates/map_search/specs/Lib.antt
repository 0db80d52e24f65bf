-- What the contracts of `search` cite.
pub mod Search
