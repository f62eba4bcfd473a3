pub mod Found
pub mod Tables
pub mod Free
pub mod Lists
pub mod Sums
pub mod Weight
