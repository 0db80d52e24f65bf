-- Laws of the definitions of specs/, for other crates too: the body that an image carries, numbers and words stored in it, the
-- frames of a body, and what is read back from them.
pub mod Bodies
pub mod Numbered
pub mod Stored
pub mod Framing
pub mod Recovered
pub mod Ranges
