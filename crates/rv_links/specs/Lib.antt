pub mod Order
pub mod Nodes
pub mod Seeking
pub mod inside
pub mod Doubt
