pub mod Library
pub mod Shortest
pub mod Circuit
pub mod inside
