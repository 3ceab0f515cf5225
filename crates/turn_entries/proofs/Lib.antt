mod Turning
mod Coming
mod Paying
mod Going
pub mod Stepping
mod Free
pub mod below
mod Common
