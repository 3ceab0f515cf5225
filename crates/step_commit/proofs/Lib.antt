mod NextPrivateSteps
mod WordsFew
mod NextStepEnds
pub mod LastKinds
pub mod TaskDepths
pub mod LastSteps
pub mod LastStepEntry
mod OutputEntered
mod RunHalted
pub mod TaskEnds
mod RunDone
pub mod AloneEntries
mod FormByOutline
mod PartBelongings
mod StepsCounted
mod FitsAfterSteps
pub mod MoreSteps
pub mod TaskNotOut
pub mod OtherStepKinds
pub mod below
mod Common
