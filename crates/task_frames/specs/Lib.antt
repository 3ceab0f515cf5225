pub mod FramesLends
pub mod FramesValue
