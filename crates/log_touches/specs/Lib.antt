pub mod Accesses
pub mod Strands
pub mod Chains
pub mod Limits
pub mod below
