pub mod Symbols
mod Searches
pub mod Terms
pub mod Sums
mod Outputs
mod Exorlinks
mod Turns
mod ReducedFor
pub mod Dashes
pub mod Steps
pub mod Reduced
pub mod Irreducible
pub mod inside
