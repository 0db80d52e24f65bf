-- The sum of a wing's lengths.
pub mod Sums
