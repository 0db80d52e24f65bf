-- What the contracts of `call_summary` cite.
pub mod Answers
