-- What a customer reads: a sound state, and the scratch of save and load. Then how soundness is tested.
pub mod Sound
pub mod Scratch
pub mod Windows
