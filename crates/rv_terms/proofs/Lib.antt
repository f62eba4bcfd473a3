pub mod Products
pub mod Parities
pub mod Puts
pub mod Totals
pub mod Powers
