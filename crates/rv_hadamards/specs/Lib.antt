pub mod Turned
pub mod Becomes
pub mod inside
