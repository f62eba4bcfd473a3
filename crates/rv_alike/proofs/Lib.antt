pub mod Roots
pub mod Sums
pub mod Inverting
pub mod Alike
pub mod Told
pub mod Deciding
