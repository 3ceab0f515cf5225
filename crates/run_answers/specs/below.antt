pub mod command_answers
pub mod hh_lang
pub mod read_write_all
