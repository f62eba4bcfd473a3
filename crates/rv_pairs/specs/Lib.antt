pub mod Commuting
pub mod Cancelled
pub mod inside
