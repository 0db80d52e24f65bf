-- What the contracts of `block` cite: the two calls from C.
pub mod Calls
