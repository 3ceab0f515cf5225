pub mod hh_model
pub mod hh_lang
