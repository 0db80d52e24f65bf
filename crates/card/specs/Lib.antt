-- What the contracts of `card` cite: every public call and what it comes to; and what a function ensures of that.
pub mod Calls
pub mod Closings
pub mod Leaves
pub mod Public
pub mod Ends
