pub mod Contents
pub mod Formats
pub mod Reading
