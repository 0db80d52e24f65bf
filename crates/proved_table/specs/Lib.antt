-- The theorem that document 01 asks for, and the figures of a worked block in it.
pub mod Table
pub mod WorkedSums
