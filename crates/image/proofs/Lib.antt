-- A worked image; laws of limits, verdicts and refusals, for save and load; the theorems of the return journey; of images
-- written before; and that the answers do not hang on the scratch.
pub mod ExampleFigures
pub mod Example
pub mod Fitting
pub mod Verdicts
pub mod Refused
pub mod Journey
pub mod ReturnJourney
pub mod Before
pub mod SameAnswers
