pub mod App
pub mod FaultsLine
pub mod PageLine
pub mod ViewLine
