pub mod Rules
pub mod FirstFault
pub mod Given
pub mod Gives
pub mod Feeding
pub mod inside
pub mod Files
