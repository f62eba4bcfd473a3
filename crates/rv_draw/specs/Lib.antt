pub mod Symbols
pub mod Drawing
pub mod Reading
pub mod Networks
pub mod Layout
