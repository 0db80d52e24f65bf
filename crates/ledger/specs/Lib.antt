-- The ledger, lists of public calls, and what is claimed of them.
pub mod Calls
pub mod Ledger
pub mod Answers
pub mod Lists
pub mod Claim
pub mod Pauses
pub mod Terms
pub mod Shares
pub mod Closings
pub mod Never
pub mod Summaries
