pub mod Pauli
pub mod Slots
pub mod Standing
pub mod Without
