pub mod Classes
pub mod LeastBelow
pub mod Filled
pub mod Embedding
pub mod Realizes
pub mod Least
pub mod Embeds
pub mod inside
