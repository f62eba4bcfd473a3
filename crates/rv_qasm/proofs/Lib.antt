mod Examples
mod ReadingExamples
mod RuleExamples
pub mod Bytes
pub mod Cut
pub mod Denoted
pub mod BackFaults
pub mod BackLaws
pub mod WrittenTokens
pub mod QubitTexts
pub mod inside
