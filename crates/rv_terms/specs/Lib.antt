pub mod Products
pub mod Phases
pub mod inside
