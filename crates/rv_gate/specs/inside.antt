pub mod NamesView
pub mod CircuitView
pub mod GateView
pub mod Mirror
pub mod laws
