-- That the contracts of the C library are what they are meant to be.
pub mod Contracts
pub mod DayContracts
pub mod SummaryContracts
