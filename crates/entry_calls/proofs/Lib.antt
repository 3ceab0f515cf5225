pub mod below
