pub mod LineLemmas
pub mod CompleteLemmas
pub mod TableLemmas
pub mod ImageLemmas
pub mod Circuits
pub mod Embeds
mod Examples
pub mod inside
