pub mod Marking
pub mod Bordering
pub mod Tiling
pub mod Ends
mod Gaps
pub mod Finding
pub mod Cutting
pub mod Along
pub mod Counted
pub mod Numbering
pub mod Linking
pub mod Blocks
mod Common
