-- What the contracts of `summary_search` cite.
pub mod SearchBy
pub mod Seeking
