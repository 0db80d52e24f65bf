-- What the contracts of `bench_placed` cite.
pub mod Answers
