pub mod InPlace
pub mod Words
pub mod Coefficients
pub mod Back
pub mod Comparing
pub mod Terms
mod Examples
pub mod inside
