-- What the proofs of `run` use.
mod Freshness
mod Rewrite
mod Test
