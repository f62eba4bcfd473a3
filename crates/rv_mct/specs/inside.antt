-- What the code alone needs, and not a reader of the contracts.
pub mod Long
pub mod Marking
pub mod LadderLines
