pub mod Ones
pub mod Turning
pub mod Turned
pub mod Methods
mod Examples
pub mod inside
