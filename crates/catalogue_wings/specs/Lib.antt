-- What a reader must believe: the wing of a sheet, and what it holds.
pub mod Wings
