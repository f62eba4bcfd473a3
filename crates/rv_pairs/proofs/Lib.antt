pub mod Bits
pub mod Passing
pub mod Undoing
pub mod inside
