pub mod Within
pub mod Plain
