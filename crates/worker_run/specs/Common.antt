-- The names of lower crates that these specifications use. Declares nothing.
pub use Rattle.atomic_table.specs.Seated.{TableId}
pub use Rattle.copied_part_laws.specs.below.core_invariant.{IsSharedValue, SharedValue}
pub use Rattle.copied_part_laws.specs.below.hh_lang.{ProgramText}
pub use Rattle.copied_part_laws.specs.below.run_ledger.{is_legal, is_paced}
pub use Rattle.copied_part_laws.specs.below.run_trace.{EntryValue, SettingsValue, Kind}
pub use Rattle.steal_scheduler.specs.Hands.{AreNewHands, ChangesAt, KeepsOwn, PutOnDeque, PutOnList, SameHand, TookFromDeque, TookFromList, TookNone, empty_pops, thefts}
pub use Rattle.steal_scheduler.specs.Thefts.{SameTheft, Stole, StoleNone}
pub use Rattle.steal_scheduler.specs.declared.hand.Hand.{Hand}
pub use Rattle.steal_scheduler.specs.declared.theft.Theft.{Theft}
pub use Rattle.turn_entries.specs.Acts.{Acts}
pub use Rattle.turn_entries.specs.Parts.{GrowsTo, WasCopied}
pub use Rattle.turn_entries.specs.Values.{journal_of, setup_of, worker_of, is_over, EntersOne, FitsSnapshot}
pub use Rattle.turn_entries.specs.below.turn_lock.{NoneBy, entries_by, view, own_entries, AreAllSeats, HasNoTurn, HasTurn, Knows, SameWorker}
pub use Rattle.turn_entries.specs.declared.act.TurnOutcome.TheVariants.{Entered, Same}
pub use Rattle.turn_entries.specs.declared.between_turns.Collecting.{Collecting}
pub use Rattle.turn_entries.specs.declared.between_turns.Next.{Next}
pub use Rattle.turn_entries.specs.declared.between_turns.Next.TheVariants.{Idle, Stop, Running, Copied, Found, Forked, Resumed, Waits}
pub use Rattle.turn_entries.specs.declared.between_turns.Ready.{Ready}
pub use Rattle.turn_entries.specs.declared.between_turns.Ready.TheVariants.{Paused, OutOfMemory}
pub use Rattle.turn_entries.specs.declared.run.Run.{Run}
