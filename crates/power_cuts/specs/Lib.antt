-- What a customer reads: what the sheets of a state hold, what each call is to that, and lists of calls; then the theorems'
-- statements.
pub mod Held
pub mod Sorts
pub mod Writes
pub mod Images
pub mod OlderImage
pub mod Own
pub mod Rule
pub mod WithClosings
pub mod Worked
