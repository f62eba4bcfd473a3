pub mod Lines
pub mod Computed
pub mod Bounds
pub mod inside
pub mod Points
