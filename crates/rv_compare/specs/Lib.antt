pub mod Compare
pub mod inside
