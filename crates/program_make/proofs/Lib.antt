mod Functions
pub mod Lengths
