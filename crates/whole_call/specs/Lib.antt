pub mod CallStatus
pub mod Input
pub mod Output
pub mod Streams
pub mod Call
