pub mod Placement
pub mod Moves
pub mod Routed
pub mod inside
