pub mod Reaching
mod Common
