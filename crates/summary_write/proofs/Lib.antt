-- Laws that the proofs of several functions cite.
mod Levels
mod Climbs
mod Stored
