pub mod AllFlips
mod Marks
mod Rewriting
pub mod inside
