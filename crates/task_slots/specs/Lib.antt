pub mod TaskSlotsValue
pub mod RestingHeaps
pub mod below
