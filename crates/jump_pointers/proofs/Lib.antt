pub mod Walks
pub mod Ranks
pub mod Costs
pub mod Growth
pub mod Lists
mod Common
