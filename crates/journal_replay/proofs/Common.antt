-- The names of lower crates and of the specifications that these proofs use. Declares nothing.
pub use Rattle.copied_part_laws.proofs.CopyBegins.{begun_is_copying}
pub use Rattle.copied_part_laws.proofs.CopyHanded.{begun, copied_fits}
pub use Rattle.copied_part_laws.proofs.CopySays.{begun_can_copy}
pub use Rattle.copied_part_laws.proofs.below.heap_marking.{entered_accounts}
pub use Rattle.copied_part_laws.proofs.below.leaf_collections.{unless_true, end_free}
pub use Rattle.copied_part_laws.specs.Copied.{CanCopy}
pub use Rattle.copied_part_laws.specs.Handed.{IsCopying}
pub use Rattle.copied_part_laws.specs.below.leaf_collections.{FitsCopied}
pub use Rattle.journal_replay.specs.Applied.{AnswersAll, AnswersApart, AnswersFor, RefusesAll, SameButReserved, SameButRoomier, WantsAll, is_own, copied_cause, idle_cause, EntersFor, MakesFor, RefusesFor, holding_of, Applies, WantedMemory, IsStoppedBy, AppliesTo}
pub use Rattle.journal_replay.specs.Next.{PausesNext, standing_by}
pub use Rattle.journal_replay.specs.Replay.{HasCome}
pub use Rattle.journal_replay.specs.Together.{AreParts, HoldsOneOf, IsPartIn, PartsStand, StandsTogether, with_parts}
pub use Rattle.journal_replay.specs.WorldValue.{AllHold, WorkerHolds, HoldsCopy, HoldsPart, WorldValue, IsWhole}
pub use Rattle.journal_replay.specs.declared.out_part.Made.{Made}
pub use Rattle.journal_replay.specs.declared.out_part.OutPart.{OutPart}
pub use Rattle.journal_replay.specs.declared.out_part.OutPart.TheVariants.{Nothing, Copied}
pub use Rattle.heap_reading.proofs.below.core_invariant.{refused_is, status, beyond_machine, entry_on, worker_by_end, at_part, begun_is, on_is, asks_is, asks_two, counted_is, since_is, fits_now, some_flat}
pub use Rattle.fork_join_commit.proofs.JoinPlaces.{same_world}
pub use Rattle.heap_reading.proofs.IdleTasks.{done_idles}
pub use Rattle.heap_reading.proofs.below.journal_laws.{journals_are_counted, not_refused}
pub use Rattle.heap_reading.proofs.below.ledger_step_laws.{legal_knows, rested_knows, rested_worker, heap_then, with_at, with_off}
pub use Rattle.heap_reading.proofs.below.plain_vec.{got_other, got_same, none_some, got_within, got_some}
pub use Rattle.heap_reading.proofs.below.refinement.{object_kept, task_kept}
pub use Rattle.heap_reading.proofs.below.refinement_laws.{handed_on, all_fit_together}
pub use Rattle.heap_reading.proofs.below.run_ledger.{heap_end, steps_are_bounded, tasks_are_out_once}
pub use Rattle.legal_calls.proofs.FirstLedger.{first_worker}
pub use Rattle.fork_join_commit.proofs.below.step_commit.{apart_cause, unless_false, alone_free, few_more, fits_on, next_on}
pub use Rattle.heap_reading.proofs.below.task_machine.{lacks_same}
pub use Rattle.heap_reading.specs.below.copying_gc.{Moved, ToChunks, CanTake, IsCollected, IsSoundReference, as_reference}
pub use Rattle.heap_reading.specs.below.core_invariant.{NotEntered, NoMemory, Refuses, first_cause, or_else, refused, EachPartStillFits, IsSharedValue, SharedValue, accounts, rest_at, Enters, WorkerPartFits, CopyingHasBegun, value_of, beyond, FitsFirst, OthersFit, task_asked, EntersOrRefuses, IsCaused, IsSamePart, next_line, part_of, refusal_of_result}
pub use Rattle.legal_calls.specs.below.entry_calls.{Done, Ended, Forked, Over, RanTo, LeavesBy, LeavesPart, LentTo, end_cause}
pub use Rattle.fork_join_commit.specs.Joins.{IsSameRest, SameButPlaces, IsUnchanged}
pub use Rattle.fork_join_commit.specs.NoTask.{HoldsNone}
pub use Rattle.heap_reading.specs.below.hh_lang.{ProgramText}
pub use Rattle.heap_reading.specs.below.hh_model.{Name, MachineState, row_of, is_running, asked, Entangled, Trapped, TaskStatus, Running, Waiting, Joined, Task, can_step, is_left, step}
pub use Rattle.heap_reading.specs.below.leaf_heap.{LeafHeapValue}
pub use Rattle.heap_reading.specs.below.ledger_step_laws.{LedgerIsKnown, aside, ArePrivate, Rests}
pub use Rattle.heap_reading.specs.below.object_layout.{Addr, ChunkValue, number_of}
pub use Rattle.heap_reading.specs.below.plain_vec.{option_is}
pub use Rattle.heap_reading.specs.below.refinement.{Part, BelongingsStand, IsSource, LiesWithOwner, MemoryStands, Memory, WorkerFits, handed, ahead, NotOf, all_ahead, In, WorkersFit, by_end}
pub use Rattle.heap_reading.specs.below.remembered_set.{RefField}
pub use Rattle.heap_reading.specs.below.run_ledger.{Refused, is_fuel, kind_refusal, Ledger, take_of, within, after, heap_of, TasksAreOut, Collecting, Count, Due, NotCollecting, NotNeeded, NotOut, PoolEnough, PoolShort, ends_as, is_out, is_pool_enough, long_at, on_due, on_running, refused_if, refused_unless, end_numbers, in_use, is_due, is_in_need, most_steps, standing, refusal, first_refused, first_refused_from, is_legal, ledger_of, opening, refused_or, Long, lacks_room, is_private, on_asked, task_step, task_steps, let_go, RunEnd, Machine, Pool, Heap, after_kind, chunk_units, with_chunk, chunk_words, collected, emptied, forked_heap, fresh, is_small_size, merged, or_fresh, with_allocation, put_last, swept_heap, with_heap, allocated_by, allocated_in, at_fork, join_heaps, moved_on, moved_to, settled, stepped_to}
pub use Rattle.heap_reading.specs.below.run_trace.{EntryValue, Kind, Took, Ran, Chunk, Begin, End, PutOff, Mark, More, Sweep, Fuel, SettingsValue, private_limit}
pub use Rattle.fork_join_commit.specs.below.step_commit.{GoesAlone, HaltsAlone, alone_entry, IsShared, machine_after}
pub use Rattle.heap_reading.specs.below.task_frames.{FramesValue}
pub use Rattle.heap_reading.specs.below.task_machine.{Begun, Private, steps, unended, Paused, Shared, NeedChunk, Spent, is_part_due, is_part_in_need, lacks_place, PausesBy}
pub use Rattle.heap_reading.specs.below.write_barrier.{content_at}
pub use Rattle.std.proofs.Common.{◌≡◌, ℕ, true, false, Some, Result, Ok, Err, List, [], ◌∷◌, ◌++◌, length, slice_get, slice_set, refl, ap, sym, subst, ◌∙◌, All, None, map, ◌+◌, ◌<◌, ◌≤◌, arith, ◌≢◌, Bool, inl, inr, ◌==◌, cond, min, Option, is_some, eq-eqb, drop, get_or, take, add-one, append_assoc, zero, suc, ◌-◌, ◌||◌, nat_le, ap₂, nat_lt, replicate}
pub use Rattle.std.proofs.Math.Seq.{take-suc}
pub use Rattle.std.proofs.lemmas.Bool.{false≢true, cases_eq, and_from, eqb-true, cases_lt, cond-false, cond-true, or_left, or_right}
pub use Rattle.std.proofs.lemmas.List.{drop_more}
pub use Rattle.std.proofs.lemmas.Option.{same_Some}
pub use Rattle.std.proofs.lemmas.Result.{IfOk-at_ok}
pub use Rattle.std.specs.Result.{IfOk, OnErr, OnOk}
