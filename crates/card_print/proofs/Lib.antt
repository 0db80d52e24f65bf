-- What is printed follows from what load and the survey come to; it is printed whole; what is printed of a worked
-- image; and the contracts of the functions.
pub mod Prints
pub mod Whole
pub mod Example
pub mod Contracts
