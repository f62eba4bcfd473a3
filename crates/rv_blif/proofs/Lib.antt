pub mod RowLaws
pub mod NodeLaws
pub mod NameLaws
pub mod PlacingLaws
pub mod ValueLaws
mod Examples
