pub mod hh_model
