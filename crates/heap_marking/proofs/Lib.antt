pub mod HeapAsked
pub mod HeapClosed
mod MarkBegun
mod MarkingEntered
mod MarkingGoesOn
mod MarkCounts
pub mod MarkCauses
pub mod WaitingSlot
pub mod MarkedHeap
pub mod MarkEntries
mod FrameReferences
mod MarkingStarts
mod StepsKeepForks
mod ForksStay
pub mod PaceKeeps
pub mod PaceOwes
pub mod ForksTold
mod SweptCells
mod SweptChunks
mod SweptPlaces
mod SweptForm
mod SweptStart
pub mod SweptUnits
mod SweptBelongings
pub mod SweepEntered
pub mod SweptRefusals
pub mod below
mod Common
