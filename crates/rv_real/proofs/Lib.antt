pub mod Controls
pub mod ControlsBack
pub mod ControlWalk
mod Examples
pub mod GateTexts
pub mod Headers
pub mod InOrder
pub mod LabelTokens
pub mod NameLemmas
pub mod LineSets
pub mod PlainWords
pub mod inside
