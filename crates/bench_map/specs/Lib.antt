-- What the contracts of `bench_map` cite.
pub mod Answers
