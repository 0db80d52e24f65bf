-- What the contracts of `call_search` cite.
pub mod Answers
