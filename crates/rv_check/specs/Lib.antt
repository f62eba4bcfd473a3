pub mod Reduced
pub mod Check
pub mod Laws
pub mod inside
