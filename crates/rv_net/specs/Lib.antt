pub mod Cyclotomic
pub mod Op
pub mod Amplitude
pub mod Denotes
pub mod Network
pub mod Mapping
