mod Gathering
mod Exact
mod Common
