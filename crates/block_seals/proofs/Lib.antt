-- Laws of the definitions of specs/, for other crates too: the sums, blank blocks, sealed blocks.
pub mod Checksum
pub mod Blank
pub mod Sealed
pub mod Sealing
