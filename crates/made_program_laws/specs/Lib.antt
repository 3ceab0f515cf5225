pub mod Laws
pub mod below
