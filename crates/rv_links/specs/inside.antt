pub mod Ring
pub mod Chains
pub mod Used
pub mod Index
pub mod Blocks
