-- What the proofs alone need, and not a reader of the contracts.
pub mod Moved
