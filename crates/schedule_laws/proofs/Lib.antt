mod StoreSteps
mod Swapping
mod Moves
mod Apart
mod Commuting
mod Lows
mod Forked
mod Crossed
mod Siblings
mod SideBySide
mod Accessed
mod Beside
mod Fields
mod Leaving
mod Commute
mod Carrying
mod Composed
mod Splits
mod Fronts
mod Said
pub mod Schedules
pub mod CanGoOn
pub mod RaceFree
mod Example
mod Common
