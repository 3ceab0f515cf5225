mod Fitting
mod Lettered
mod Works
mod Weighing
mod Common
