-- The names of lower crates that these specifications use. Declares nothing.
pub use Rattle.refinement.specs.LeafCollectionBegins.{HoldsAt, IsRememberedRoot, LeadsAt}
pub use Rattle.refinement.specs.Changes.{Moves, KeepsJust, SameBut, SameObjects, gone_on}
pub use Rattle.refinement.specs.Copies.{PartFits, CopyFits, EndsAt, part_before}
pub use Rattle.refinement.specs.Counts.{CountsGo, IsQuiet, IsMarked}
pub use Rattle.refinement.specs.EntryMakes.{EntryMakes, taken_by, BelongingsAfter, StepsTo}
pub use Rattle.refinement.specs.Fits.{with_belongings, part_for, Part}
pub use Rattle.refinement.specs.Frames.{with_all_belongings, all_ahead}
pub use Rattle.refinement.specs.Marking.{MarksStand}
pub use Rattle.refinement.specs.Marks.{Marks}
pub use Rattle.refinement.specs.Memory.{Belongings, Memory, In, object_name, objects, no_belongings}
pub use Rattle.refinement.specs.RanCounts.{RanCounts}
pub use Rattle.refinement.specs.ReadsReference.{FrameIsRead}
pub use Rattle.refinement.specs.Since.{AllNoted, MarksOn, NotesStay, OthersNotes, kept}
pub use Rattle.refinement.specs.MemoryStands.{MemoryStands, LiesWithOwner}
pub use Rattle.refinement.specs.Whole.{StandsForAll, handed, TreeCounts, TreeCountsStand, StandsFor, BegunBy}
pub use Rattle.refinement.specs.Worker.{WorkerFits, IsBy, WorkersFit}
pub use Rattle.refinement.specs.below.hh_lang.{ProgramText, IsProgram}
pub use Rattle.refinement.specs.below.hh_model.{Running, Task, Name, Done, Frame}
pub use Rattle.refinement.specs.below.ledger_step_laws.{Rests, rested, RunsPrivateSteps, LedgerIsKnown, StepsAlone, onward_with, stepped_by}
pub use Rattle.refinement.specs.below.object_layout.{Addr, Located}
pub use Rattle.refinement.specs.below.run_ledger.{Heap, Ledger, heap_of, with_heap, collected, held_in, left_in, is_name, SoundLedger, ledger_of, is_legal, refusal, after, out_from, task_steps}
pub use Rattle.refinement.specs.below.run_trace.{SettingsValue, EntryValue, Took, Ran, Sweep, End}
pub use Rattle.refinement.specs.below.task_frames.{CallFrame}
pub use Rattle.refinement.specs.below.walk_laws.{IsReached}
