-- What the contracts of `map_blocks` cite.
pub mod Blocks
pub mod Maps
pub mod Words
