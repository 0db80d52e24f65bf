-- The laws of numbers in decimal and of what is written.
pub mod Decimals
pub mod Written
pub mod Lines
pub mod Room
