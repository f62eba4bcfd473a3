pub mod FileLemmas
pub mod FirstBelow
pub mod inside
