pub mod Images
pub mod Rows
pub mod MarkTexts
pub mod Masks
pub mod Marks
mod Examples
mod TextExamples
pub mod inside
