pub mod Same
pub mod Resynthesis
pub mod inside
