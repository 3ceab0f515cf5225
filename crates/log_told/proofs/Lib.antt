pub mod Tables
mod Common
