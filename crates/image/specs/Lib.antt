-- What a customer reads: the image of a state, the rows of save and load, what they leave, and images written before.
pub mod Image
pub mod Table
pub mod Effects
pub mod Before
