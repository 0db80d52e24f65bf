-- What the contracts of `summary_write` cite.
pub mod Climbs
