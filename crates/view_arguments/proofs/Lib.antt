mod Refused
mod FirstTitle
mod Common
