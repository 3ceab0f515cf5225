mod Spaced
mod Words
mod Lines
mod Told
mod Splits
mod Tables
mod Passes
mod Family
mod States
mod Owners
mod Placed
mod Leads
mod Steps
mod Had
pub mod Faultless
mod Sample
pub mod below
mod Common
