pub mod Verdict
pub mod below
