pub mod command_answers
