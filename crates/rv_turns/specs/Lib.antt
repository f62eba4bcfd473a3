pub mod Joined
pub mod inside
