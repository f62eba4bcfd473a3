pub mod Examples
pub mod Rising
pub mod Ones
pub mod Walks
pub mod Names
pub mod Decomposition
pub mod inside
