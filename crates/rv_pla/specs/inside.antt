pub mod Next
pub mod State
pub mod Steps
pub mod Table
pub mod Written
pub mod laws
