mod Accepted
pub mod Alike
mod Asked
pub mod Completeness
mod Examples
mod Found
mod Held
pub mod Laws
mod Statuses
pub mod inside
