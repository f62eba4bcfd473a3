-- What is proved of the states that the code alone keeps.
pub mod WiresBack
pub mod SheetBack
pub mod ReadBack
pub mod CircuitBack
pub mod LaidOut
