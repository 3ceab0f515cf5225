pub mod Next
pub mod WorldValue
pub mod Applied
pub mod Together
pub mod Replay
pub mod below
