mod Entries
mod WasHeld
mod Holding
mod HoldingCauses
mod Standing
mod Aside
mod Together
mod Making
mod BegunPart
mod Applying
mod Replayed
pub mod below
mod Common
