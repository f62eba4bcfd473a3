pub mod Values
pub mod Turning
pub mod Restarts
pub mod Walking
pub mod Amplitudes
pub mod Counts
pub mod Settled
pub mod Joining
pub mod Neighbours
pub mod Laws
mod Examples
pub mod inside
