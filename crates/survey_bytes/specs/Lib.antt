-- What the contracts of `survey_bytes` cite.
pub mod Bytes
pub mod Runs
