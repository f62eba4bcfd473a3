-- What is proved of the states that the code alone keeps.
pub mod Bits
pub mod Passing
pub mod Moving
pub mod SlotLaws
pub mod Loops
pub mod Slots
pub mod Follow
pub mod Standing
pub mod Laws
