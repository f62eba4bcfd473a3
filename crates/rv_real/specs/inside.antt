-- What the code alone keeps.
pub mod State
pub mod Steps
pub mod Directives
pub mod HeaderSteps
pub mod BodySteps
pub mod ByName
pub mod LineByLine
pub mod Kept
pub mod LabelRows
pub mod Operands
pub mod Texts
pub mod Places
pub mod laws
