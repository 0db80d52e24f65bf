-- What a sealed block is, which the contracts here and of the crates above cite.
pub mod Sealed
