pub mod Precedence
pub mod Effect
pub mod Names
pub mod Step
pub mod Tree
pub mod PathLaw
pub mod Found
pub mod Machine
pub mod Calculations
pub mod Store
pub mod Closed
pub mod Counts
pub mod Ends
pub mod NextLaw
pub mod below
mod Common
