-- What the code alone needs, and not a reader of the contracts.
pub mod Standing
