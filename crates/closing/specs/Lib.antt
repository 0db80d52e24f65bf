-- What a customer reads: a card with its gaps closed, the rows of closing, what it answers and leaves, and what is claimed of
-- that. Then how closing goes.
pub mod Closed
pub mod Table
pub mod Effects
pub mod Claim
pub mod Rounds
