pub mod Form
pub mod ImageData
pub mod Text
pub mod Told
pub mod below
