-- Laws of closing: what the tests decide, the rounds one by one, what they come to, and what closing keeps.
pub mod Members
pub mod Below
pub mod Steps
pub mod Rounded
pub mod Picks
pub mod Packing
pub mod Moving
pub mod Placing
pub mod Cards
pub mod Closing
pub mod Kept
pub mod Contents
pub mod Fitting
pub mod Taken
pub mod Twice
pub mod Closes
pub mod Claimed
