pub mod Renaming
pub mod Alike
pub mod Places
pub mod PlaceLaw
pub mod Laws
