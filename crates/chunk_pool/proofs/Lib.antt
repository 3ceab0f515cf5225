mod UnitLemmas
mod Numbering
pub mod OwnerLaws
mod Common
