-- What the card printer prints of an image.
pub mod Printed
