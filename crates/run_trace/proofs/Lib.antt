pub mod Numbers
pub mod Words
pub mod TraceLine
pub mod ReadAgain
mod Common
