pub mod Lends
pub mod ReservedVecValue
pub mod Members
pub mod Options
