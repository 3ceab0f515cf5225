mod Labels
mod Held
pub mod LabelSteps
pub mod Written
mod Stops
mod Stopped
mod Compared
mod Clashes
mod Few
mod Wholes
mod Keys
mod Scans
mod Alike
mod BoundLaws
mod Exact
mod SeenLabels
mod Reported
mod StepCounts
mod Watched
pub mod Raceless
pub mod below
mod Common
