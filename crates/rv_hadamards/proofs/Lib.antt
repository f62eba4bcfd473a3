pub mod Exchanging
pub mod Becoming
pub mod inside
