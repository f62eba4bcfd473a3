-- Laws that the code cites, which takes nothing from the proofs of its own crate.
pub mod Denotes
pub mod Kept
