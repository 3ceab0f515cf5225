pub mod Left
pub mod below
