pub mod Carrying
pub mod Circuits
pub mod Flips
pub mod Generated
pub mod Kept
pub mod Laws
mod Examples
pub mod inside
pub mod Found
