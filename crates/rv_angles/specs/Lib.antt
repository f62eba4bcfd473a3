pub mod Matrix
pub mod Standard
pub mod Form
pub mod Ops
pub mod Exact
pub mod Decimal
pub mod Angle
pub mod Named
