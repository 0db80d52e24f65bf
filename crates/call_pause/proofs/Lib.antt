-- The law of a call that changes a mark.
pub mod Changing
