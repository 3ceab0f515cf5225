-- The names of lower crates and of the specifications that these proofs use. Declares nothing.
pub use Rattle.core_invariant.proofs.BeforeTheEnd.{goes_by, node_now, tree_long}
pub use Rattle.core_invariant.proofs.FieldsLed.{belongings_chunks}
pub use Rattle.core_invariant.proofs.HeapWords.{words_are}
pub use Rattle.core_invariant.proofs.JournalGoesOn.{accounts_then}
pub use Rattle.core_invariant.proofs.ObjectCounts.{objects_counted}
pub use Rattle.core_invariant.proofs.below.leaf_heap.{none_there, place_found}
pub use Rattle.core_invariant.proofs.below.ledger_step_laws.{entry_runs, legal_idle, with_off, rested_view}
pub use Rattle.core_invariant.proofs.below.object_layout.{born_name}
pub use Rattle.core_invariant.proofs.below.path_laws.{goes_tells, owners_are_walks}
pub use Rattle.core_invariant.proofs.below.plain_vec.{any_from_in, contains_from_in, in_from_contains, each_in, in_map, map_in, in_append_cases, in_append_left, in_append_right, below_next}
pub use Rattle.core_invariant.proofs.below.refinement_laws.{done_returns_all, others_idle, handed_halt, handed_on}
pub use Rattle.core_invariant.proofs.below.remembered_set.{same_self}
pub use Rattle.core_invariant.proofs.below.run_ledger.{accepted_on, journals_can_be_cut, legal_then, stepped_machine, heap_machine, allocated_end, heap_end, moved_to_end, tasks_are_out_once, steps_are_bounded, heaps_fit, use_is_bounded, names_are_held_once, legal_sound}
pub use Rattle.core_invariant.specs.Objects.{chunk_of, chunks_of}
pub use Rattle.core_invariant.specs.SharedValue.{SharedValue, accounts, belongings_in, noted_in, rest_at, value_of}
pub use Rattle.core_invariant.specs.Stands.{IsSharedValue}
pub use Rattle.core_invariant.specs.below.chunk_pool.{Slot, slot_at}
pub use Rattle.core_invariant.specs.below.heap_tree.{TaskNode, state_of, TaskState, Ready, Out}
pub use Rattle.core_invariant.specs.below.hh_lang.{IsProgram, ProgramText}
pub use Rattle.core_invariant.specs.below.hh_model.{End, Done, MachineState, asked, can_step, is_running, step, Name, TaskStatus, Running, Waiting, Ended, Joined, runs, Trapped, Entangled, owner_of, Task, is_joined, is_over, joined, parents, TreeOf, joins_in, waiting}
pub use Rattle.core_invariant.specs.below.leaf_heap.{saturating_words}
pub use Rattle.core_invariant.specs.below.ledger_step_laws.{own, Rests, rested, LastStepEndsRun, GoesOn, Halts, IdleRest, IsOfKind, LastKind, Private, Reading, Writing, Printing, Forking, Ending, Joining, Finishing, Halting, RunsPrivateSteps}
pub use Rattle.core_invariant.specs.below.object_layout.{Addr, word_of_ref, Located, held_words, object_count, ChunkValue, Born, Cell, Hole, IsBorn, IsObject, Moved, moved_to, size_of, chunk_at, place_in, chunk_position, cells_from, Birth, located, located_by, objects_from, object_at, BeginsInFirstUnit, IsRef, cell_at, IsCellAt}
pub use Rattle.core_invariant.specs.below.path_laws.{AreOwners, IsWalkOfJoined}
pub use Rattle.core_invariant.specs.below.refinement.{objects_of_chunks, sources, handed, ChunksHaveNames, large_chunks, chunk_names, small_chunks, object_name, by_end, state_by, In, as_node}
pub use Rattle.core_invariant.specs.below.remembered_set.{RefField, StandOnce, has_source, same_source}
pub use Rattle.core_invariant.specs.below.run_ledger.{Ledger, Refused, RunEnd, Machine, Pool, in_use, let_go, or_fresh, with_heap, allocated_in, settled, stepped_to, task_step, task_steps, after, chunk_units, refusal, with_chunk, is_legal, ledger_of, Heap, heap_of, held, held_in, small_in, words_at, words_sum, held_not_running, held_not_running_from, SoundLedger}
pub use Rattle.core_invariant.specs.below.run_trace.{Kind, Took, Ran, Chunk, Begin, PutOff, Mark, More, Sweep, Fuel, EntryValue, SettingsValue}
pub use Rattle.core_invariant.specs.below.task_slots.{ParkedTask}
pub use Rattle.core_invariant.specs.below.write_barrier.{SetOf}
pub use Rattle.heap_reading.specs.HeldNames.{is_state_running, held_unless_running}
pub use Rattle.heap_reading.specs.Image.{AreAll, FieldBefore, IsNoted, Rises, field_of, IsInUse, IsLiveIn, IsInWords, in_words, objects_numbered, objects_of, objects_owned, LiveBefore}
pub use Rattle.heap_reading.specs.declared.live.InUse.{InUse}
pub use Rattle.heap_reading.specs.declared.live.LiveTask.{LiveTask}
pub use Rattle.heap_reading.specs.declared.noted.FieldAt.{FieldAt}
pub use Rattle.heap_reading.specs.declared.seen.SeenObject.{SeenObject}
pub use Rattle.journal_laws.proofs.Counted.{journals_are_counted}
pub use Rattle.journal_laws.proofs.KeptNames.{stored_most, kept_least}
pub use Rattle.std.proofs.Common.{◌≡◌, ℕ, suc, ◌+◌, ◌*◌, ◌<◌, ◌≤◌, ◌==◌, ◌&&◌, ◌⊎◌, arith, Bool, true, false, cond, Option, Some, None, List, [], ◌∷◌, length, map, get_or, nat_lt, nat_eq, slice_get, inl, inr, refl, ap, sym, subst, ◌∙◌, zero, is_none, ◌++◌, ◌-◌, ◌^◌, not, length-append, min, option_map, ap₂, All, take, IfSome, Bor, option_copied, rules}
pub use Rattle.std.proofs.lemmas.Bool.{cases_eq, false≢true, or_parts}
pub use Rattle.std.proofs.lemmas.Int.{to_z-of_z}
pub use Rattle.std.proofs.lemmas.List.{append-nil, append_assoc, map-append, map_more}
pub use Rattle.std.proofs.lemmas.List.Elements.{All-append, All-cons, All-nil, All-tail, All-head}
pub use Rattle.std.proofs.lemmas.List.Sorted.{Contains-permutation, IsPermutation-sym}
pub use Rattle.std.proofs.lemmas.List.Sums.{sum_by-append}
pub use Rattle.std.proofs.lemmas.Map.Keys.{IsDistinct-IsPermutation, IsDistinct-head, IsDistinct-tail}
pub use Rattle.std.proofs.lemmas.Option.{slice_get_past, same_Some, slice_get_within}
pub use Rattle.std.specs.Int.{w64}
pub use Rattle.std.specs.List.{AllByRecursion, list_any, flat_map}
pub use Rattle.std.specs.List.Sorted.{IsPermutation, IsSortedWithin}
pub use Rattle.std.specs.Ordering.{nat_cmp, ordering_then, is_lt}
pub use Rattle.std.specs.Prelude.{FitsSigned}
pub use Rattle.std.specs.declared.cmp.Ordering.TheVariants.{Less, Equal, Greater}
