pub mod OnAllLines
pub mod Realizing
pub mod inside
