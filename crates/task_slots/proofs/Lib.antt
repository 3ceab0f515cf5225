mod Contents
mod Led
mod Places
pub mod below
mod Common
