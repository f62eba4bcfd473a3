pub mod Parities
pub mod Folded
pub mod inside
