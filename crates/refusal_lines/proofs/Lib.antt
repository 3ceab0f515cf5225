mod Lines
pub mod below
