pub mod FirstCauses
pub mod SameLength
pub mod ObjectCounts
pub mod HeapForms
pub mod Packs
pub mod BeforeTheEnd
pub mod HeapCounts
pub mod SmallWords
pub mod HeapWords
pub mod EntryMade
pub mod StepsMade
pub mod JournalGoesOn
mod OneAccount
pub mod NothingMoves
pub mod TaskTaken
pub mod CausesTold
pub mod StepAccounts
pub mod StepsEntered
pub mod FirstValue
pub mod CellsRead
pub mod Levels
pub mod PartFitsMachine
pub mod OutlineKept
pub mod NextStepAsks
pub mod CollectionUnderWay
pub mod FreeChunks
pub mod RootsHeld
pub mod RootsByAccounts
pub mod PlacedForm
pub mod HeapLaidOut
pub mod HeldTasks
pub mod ObjectRewritten
mod FieldsLedTogether
pub mod FieldsLed
pub mod FieldsNoted
pub mod UnitsMeasured
pub mod below
mod Common
