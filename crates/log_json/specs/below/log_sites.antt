-- Re-exports from `log_sites` for the crates above.
pub use Rattle.log_sites.specs.Names.{name_of, site_name}
