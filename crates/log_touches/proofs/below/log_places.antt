-- What crates above cite of `log_places`.
pub use Rattle.log_places.proofs.Along.{marked_are_cut}
