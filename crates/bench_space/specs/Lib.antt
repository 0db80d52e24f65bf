-- What the contracts of `bench_space` cite.
pub mod Answers
