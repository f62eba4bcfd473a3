pub mod Walk
pub mod Singles
pub mod Steps
pub mod Runs
pub mod Meaning
pub mod inside
