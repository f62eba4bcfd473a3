pub mod Contained
pub mod One
pub mod Two
