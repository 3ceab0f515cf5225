pub mod Walk
pub mod TaskNode
pub mod Links
pub mod Paired
pub mod Pairs
pub mod Laws
