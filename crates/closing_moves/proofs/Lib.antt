-- Laws of cards whose blocks have their bytes of other blocks, for other crates too.
pub mod Moved
