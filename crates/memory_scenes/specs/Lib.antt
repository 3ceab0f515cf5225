pub mod Fit
pub mod below
