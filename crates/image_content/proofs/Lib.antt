-- The entries that stand in an image, passed in order; and the windows of its map.
pub mod EntriesFrom
pub mod Passing
pub mod Filling
pub mod Contents
