-- Numbers in decimal, and what it is to write bytes to a lent text.
pub mod Decimal
pub mod Writing
pub mod Lines
pub mod Text
pub mod ExampleFigures
pub mod Printed
