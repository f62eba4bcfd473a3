pub mod Rows
pub mod Texts
mod Examples
pub mod FreeEntries
pub mod inside
