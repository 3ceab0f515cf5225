pub mod Stretches
pub mod Places
pub mod Numbers
pub mod Blocks
pub mod Runs
pub mod Counting
pub mod Laws
