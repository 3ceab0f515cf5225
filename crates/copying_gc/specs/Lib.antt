pub mod Survivors
pub mod CollectorValue
pub mod Near
pub mod Search
pub mod Laid
pub mod Packed
pub mod Copying
pub mod Redirected
pub mod Exchanged
pub mod Collected
pub mod Evacuated
pub mod Lists
pub mod Laws
mod Common
