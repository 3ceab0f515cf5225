pub mod Loops
mod Made
mod Steps
mod Slices
mod Held
mod Common
