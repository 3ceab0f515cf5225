pub mod Pieces
pub mod Digits
pub mod Within
pub mod Letters
mod Among
mod Feeds
pub mod Again
mod Common
