-- What a refusal leaves, what is saved and loaded, what an offer is worth, said of the contracts; that images written before
-- load as they did; and that the contracts are those of the specs.
pub mod Before
pub mod Closings
pub mod Contracts
pub mod SummaryContracts
pub mod EveryRefusal
pub mod Images
pub mod Offers
pub mod Promises
pub mod Refusals
pub mod TurnedAway
