pub mod Column
pub mod Square
