pub mod objects
pub mod changes
pub mod notes
pub mod below
mod Common
