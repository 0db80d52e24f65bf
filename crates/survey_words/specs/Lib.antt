-- What the contracts of `survey_words` cite.
pub mod Passing
