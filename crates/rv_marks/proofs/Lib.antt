mod Examples
pub mod inside
