pub mod Making
pub mod Naming
pub mod Products
pub mod Sending
pub mod Simulating
pub mod Told
