pub mod Finding
pub mod inside
