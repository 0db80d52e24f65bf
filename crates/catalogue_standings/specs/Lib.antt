-- What an entry says, the limits of row 1, the first rows, and the answers.
pub mod Answers
pub mod Limits
pub mod Openings
pub mod Rows
pub mod Searches
pub mod Standings
pub mod Refusals
