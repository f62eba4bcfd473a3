-- What is proved of the states that the code alone keeps.
pub mod Bits
pub mod Collecting
pub mod Digits
pub mod Ends
pub mod Filling
pub mod Lines
pub mod Octets
pub mod Reading
pub mod Taking
