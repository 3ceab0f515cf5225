pub mod Lists
pub mod Lowering
pub mod Standing
pub mod Reports
pub mod Exactness
pub mod Heights
pub mod Continuing
mod Common
