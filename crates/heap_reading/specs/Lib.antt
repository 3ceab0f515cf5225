pub mod HeldNames
pub mod Image
pub mod below
