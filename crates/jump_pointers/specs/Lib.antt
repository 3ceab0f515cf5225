pub mod Walk
pub mod Links
pub mod Laws
pub mod Lists
