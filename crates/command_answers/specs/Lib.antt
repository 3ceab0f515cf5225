pub mod CommandStatus
pub mod Input
pub mod Runs
pub mod Answers
pub mod Delivery
pub mod Laws
pub mod Headline
pub mod below
mod Common
