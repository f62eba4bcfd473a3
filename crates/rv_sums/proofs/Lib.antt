pub mod Findings
pub mod Turns
pub mod Sums
pub mod Paths
pub mod Roots
pub mod inside
