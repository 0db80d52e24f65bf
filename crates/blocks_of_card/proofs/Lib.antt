-- Laws of the definitions of specs/, for other crates too.
pub mod Card
