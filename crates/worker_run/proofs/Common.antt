-- The names of lower crates and of the specifications that these proofs use. Declares nothing.
pub use Rattle.atomic_table.specs.Seated.{TableId}
pub use Rattle.atomic_table.specs.declared.shared.Seat.{Seat}
pub use Rattle.copied_part_laws.proofs.CopyBegins.{begun_is_copying}
pub use Rattle.copied_part_laws.proofs.CopyHanded.{begun, copied_fits}
pub use Rattle.copied_part_laws.proofs.CopySays.{begun_can_copy}
pub use Rattle.copied_part_laws.proofs.below.core_invariant.{status}
pub use Rattle.copied_part_laws.proofs.below.plain_vec.{got_map, map_got}
pub use Rattle.copied_part_laws.specs.Copied.{CanCopy}
pub use Rattle.copied_part_laws.specs.Handed.{IsCopying}
pub use Rattle.copied_part_laws.specs.below.copying_gc.{Moved, CanTake, IsCollected, IsSoundReference, as_reference, outside}
pub use Rattle.copied_part_laws.specs.below.core_invariant.{WorkerPartFits, CopyingHasBegun, SharedValue, accounts, value_of, IsSharedValue}
pub use Rattle.copied_part_laws.specs.below.hh_lang.{ProgramText}
pub use Rattle.copied_part_laws.specs.below.leaf_collections.{FitsCopied}
pub use Rattle.copied_part_laws.specs.below.leaf_heap.{LeafHeapValue}
pub use Rattle.copied_part_laws.specs.below.ledger_step_laws.{aside}
pub use Rattle.copied_part_laws.specs.below.object_layout.{ChunkValue, number_of}
pub use Rattle.copied_part_laws.specs.below.run_ledger.{is_legal, is_paced}
pub use Rattle.copied_part_laws.specs.below.run_trace.{EntryValue, SettingsValue, Kind, private_limit}
pub use Rattle.copied_part_laws.specs.below.task_frames.{FramesValue}
pub use Rattle.copied_part_laws.specs.below.task_machine.{Begun, Private}
pub use Rattle.std.proofs.Common.{◌≡◌, ℕ, All, List, map, ap, sym, subst, ◌∙◌, ◌≢◌, ◌⊎◌, inl, inr, zero, suc, ◌+◌, ◌-◌, ◌*◌, ◌/◌, ◌%◌, ◌<◌, ◌≤◌, [], ◌∷◌, length, slice_get, slice_index_or, slice_set, get_or, refl, arith, Option, Some, None, ◌^◌, ◌==◌, Bool, true, false, cond, ap₂, ◌++◌, take, drop, take_all, drop_of_length-le, remove, append_assoc, append-nil, rules, vec_len, length-append, replicate}
pub use Rattle.std.proofs.Math.Nat.{mul-le-mul_left}
pub use Rattle.std.proofs.lemmas.Bool.{cases_order, or_right}
pub use Rattle.std.proofs.lemmas.List.{map-append, length-map}
pub use Rattle.std.proofs.lemmas.Option.{slice_get_within, slice_get-get_or, same_Some, none-some, slice_get_read, get_or_from_slice_get}
pub use Rattle.std.proofs.lemmas.Result.{IfErr-weaker, on_ok_weaker}
pub use Rattle.std.specs.Prelude.{is_some}
pub use Rattle.std.specs.declared.snapshot.Snapshot.{Snapshot}
pub use Rattle.steal_scheduler.specs.Hands.{AreNewHands, ChangesAt, KeepsOwn, SameHand, TookNone, empty_pops, thefts}
pub use Rattle.steal_scheduler.specs.Thefts.{SameTheft, StoleNone}
pub use Rattle.steal_scheduler.specs.declared.hand.Hand.{Hand}
pub use Rattle.steal_scheduler.specs.declared.theft.Theft.{Theft}
pub use Rattle.turn_entries.proofs.Stepping.{few_then, fits_some, grows}
pub use Rattle.turn_entries.proofs.below.turn_lock.{own_of_taken, first_there, new_are_all, kept_are_all, removed_first, emptied}
pub use Rattle.turn_entries.specs.Acts.{ComesNext, Acts}
pub use Rattle.turn_entries.specs.Parts.{MayCopy, RunGoesOn, ComesWith, BringsTo, GoesWith, KeepsPart, Sight, TakesFrom, WasCopied, AtSome, HasGrown, MayRun}
pub use Rattle.turn_entries.specs.Values.{EntersOne, FitsSnapshot, NoEntryMade, journal_of, setup_of, worker_of, is_over}
pub use Rattle.turn_entries.specs.below.entry_calls.{EntryCallsGhosts}
pub use Rattle.turn_entries.specs.below.turn_lock.{entries_by, view, Extends, HasTurn, IsAlike, Knows, own_entries, with_taken, HasNoTurn, HasOwnEntries, SameWorker, AreNewSeats, AreAllSeats, IsFinalFor, identity, opening_view}
pub use Rattle.turn_entries.specs.contracts.run.RunKept.TheImpl.{ghosts}
pub use Rattle.turn_entries.specs.declared.act.TurnOutcome.TheVariants.{Entered}
pub use Rattle.turn_entries.specs.declared.between_turns.Collecting.{Collecting}
pub use Rattle.turn_entries.specs.declared.between_turns.CollectionLists.{CollectionLists}
pub use Rattle.turn_entries.specs.declared.between_turns.Next.{Next}
pub use Rattle.turn_entries.specs.declared.between_turns.Next.TheVariants.{Running, Forked, Resumed, Idle, Waits, Stop}
pub use Rattle.turn_entries.specs.declared.between_turns.Ready.{Ready}
pub use Rattle.turn_entries.specs.declared.between_turns.Ready.TheVariants.{Paused, Copied, Found, OutOfMemory}
pub use Rattle.turn_entries.specs.declared.run.Run.{Run}
pub use Rattle.turn_entries.specs.declared.run.Setup.{Setup}
pub use Rattle.worker_run.specs.Outcomes.{IsRunOf, WasGivenBack}
pub use Rattle.worker_run.specs.Rounds.{GoesRound, MakesRound, AllGoRound}
pub use Rattle.worker_run.specs.Tasks.{Finds, HaveRoot, Looks, Puts, SharesRight, TriedBefore, after_it, Prepares}
pub use Rattle.worker_run.specs.WorkerStates.{AreHands, HasEntry, IsWorkerState, DoesOnce, HasStopped, TakesTurn, AreAllWorkerStates, AreNewWorkerStates, AreOpened, HasOfEach, HaveSeen, HaveStopped, SameWorkerState, entries_of}
pub use Rattle.worker_run.specs.declared.worker_state.WorkerState.{WorkerState}
