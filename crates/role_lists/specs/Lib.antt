-- What the roles guarantee.
pub mod Rows
pub mod Carers
pub mod Service
