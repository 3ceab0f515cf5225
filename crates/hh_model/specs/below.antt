pub mod plain_vec
pub mod hh_lang
