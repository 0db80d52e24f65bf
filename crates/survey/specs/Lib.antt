-- What the contracts of `survey` cite.
pub mod Survey
pub mod Words
