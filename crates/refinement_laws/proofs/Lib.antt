pub mod parts
pub mod notes
pub mod whole
pub mod below
mod Common
