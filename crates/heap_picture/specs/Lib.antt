pub mod Drawn
pub mod Drawing
pub mod Held
pub mod below
