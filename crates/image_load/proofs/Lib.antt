-- The rows of a load, what stands at the head, and what a load gives and leaves.
pub mod LoadRows
pub mod Heads
pub mod Loads
