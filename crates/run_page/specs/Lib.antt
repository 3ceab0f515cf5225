pub mod Page
pub mod below
