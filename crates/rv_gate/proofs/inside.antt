-- What is proved of the states that the code alone keeps.
pub mod Mirrors
pub mod Ones
pub mod WordLemmas
pub mod GateLemmas
pub mod CircuitLemmas
