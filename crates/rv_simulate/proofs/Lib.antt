pub mod Asked
mod SimulationExamples
pub mod FirstWrong
pub mod inside
