pub mod Parts
mod Noting
mod Accepted
pub mod Standing
pub mod Adding
pub mod Answering
pub mod Whole
pub mod Going
pub mod Making
mod Telling
mod Unborn
mod Common
pub mod below
