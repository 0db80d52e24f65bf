-- Laws for the crates above too: limits, entries, the first rows; and that no unfinished sheet passes for a pause.
pub mod Entries
pub mod Followed
pub mod Limits
pub mod Openings
pub mod Pauses
pub mod Rows
pub mod Tested
