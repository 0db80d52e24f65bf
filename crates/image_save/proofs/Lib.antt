-- The rows of a save, and what the writing of an image comes to.
pub mod SaveRows
pub mod Saves
