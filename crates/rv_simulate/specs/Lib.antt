pub mod Simulation
pub mod SimulationEnds
pub mod inside
