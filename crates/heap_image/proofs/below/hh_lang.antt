-- Re-exports from `hh_lang` for the crates above.
pub use Rattle.hh_lang.proofs.Tests.{fits_passes}
