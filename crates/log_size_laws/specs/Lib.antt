pub mod Small
pub mod below
