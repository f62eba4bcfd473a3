pub mod Adding
pub mod Pieces
pub mod Sent
pub mod Shorts
pub mod Written
pub mod inside
