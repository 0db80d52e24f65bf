-- What the proofs of `word` use.
mod Doubling
