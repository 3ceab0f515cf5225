-- The names of lower crates and of the specifications that these proofs use. Declares nothing.
pub use Rattle.core_invariant.proofs.BeforeTheEnd.{fits_now, part_idle, stands_now, used_now}
pub use Rattle.core_invariant.proofs.CausesTold.{on_is, refused_is}
pub use Rattle.core_invariant.proofs.CellsRead.{seen_object, fresh_off}
pub use Rattle.core_invariant.proofs.CollectionUnderWay.{account_idle, none_begun, at_part}
pub use Rattle.core_invariant.proofs.EntryMade.{entry_on, tasks_apart, accounts_are, entered_world, fits_then, free_at_rest, free_rests, part_fits, worker_when_out}
pub use Rattle.core_invariant.proofs.FieldsLed.{AreFormed, Led, SourceThere, belongings_chunks, lead_all}
pub use Rattle.core_invariant.proofs.FieldsNoted.{are_once, fresh_by, noted_sources, owned_before}
pub use Rattle.core_invariant.proofs.FirstCauses.{found_first}
pub use Rattle.core_invariant.proofs.FreeChunks.{take_is, refs_long}
pub use Rattle.core_invariant.proofs.HeapCounts.{small_names}
pub use Rattle.core_invariant.proofs.HeapForms.{reserved_none, places_form}
pub use Rattle.core_invariant.proofs.HeapLaidOut.{some_units}
pub use Rattle.core_invariant.proofs.HeldTasks.{fits_held, stands_for_held}
pub use Rattle.core_invariant.proofs.NextStepAsks.{account_is, asks_is, counted_is, asks_two, room_is, since_is}
pub use Rattle.core_invariant.proofs.NothingMoves.{MovesNothing, notes_unchanged, quiet_others, quiet_own, quiet_world, same_value}
pub use Rattle.core_invariant.proofs.RootsByAccounts.{root_here, are_roots}
pub use Rattle.core_invariant.proofs.RootsHeld.{chunk_in}
pub use Rattle.core_invariant.proofs.StepsEntered.{belongings_stand, status}
pub use Rattle.core_invariant.proofs.UnitsMeasured.{all_kept, measured_both, measured_new, part_kept, taken_keeps, all_taken_keep, given_keeps, measured_given, measured_kept, all_taken_units}
pub use Rattle.core_invariant.proofs.below.chunk_pool.{taken_are_owned}
pub use Rattle.core_invariant.proofs.below.copying_gc.{born_live}
pub use Rattle.core_invariant.proofs.below.hh_model.{runs_tell}
pub use Rattle.core_invariant.proofs.below.leaf_heap.{at_push, at_last, apart_before}
pub use Rattle.core_invariant.proofs.below.ledger_step_laws.{heap_then, with_at, with_off, rested_view, legal_knows, within_rested, rested_sound, rested_worker, waits_rest}
pub use Rattle.core_invariant.proofs.below.mark_sweep_gc.{given_both, given_one}
pub use Rattle.core_invariant.proofs.below.object_layout.{found_any, fresh_none, has_own}
pub use Rattle.core_invariant.proofs.below.plain_vec.{all_from, map_in, in_map, read_in, got_within, each_from, got_some, none_some, none_of}
pub use Rattle.core_invariant.proofs.below.refinement.{belongings_kept, at_belongings, off_belongings, numbers, units_of}
pub use Rattle.core_invariant.proofs.below.refinement_laws.{ends_stand_for, ends_fit_then, ends_leave, aside_is, begins}
pub use Rattle.core_invariant.proofs.below.run_ledger.{heap_machine, entry_tells, legal_booked, tasks_are_out_once, legal_sound, machine_goes_on, legal_then}
pub use Rattle.core_invariant.proofs.below.task_machine.{chunks_added, shape_added, lacks_same}
pub use Rattle.core_invariant.specs.Causes.{need_cause, first_cause, or_else, chunk_cause}
pub use Rattle.core_invariant.specs.Due.{take_by, due_cause}
pub use Rattle.core_invariant.specs.Entered.{refused, Enters}
pub use Rattle.core_invariant.specs.LeafBegin.{CopyingHasBegun}
pub use Rattle.core_invariant.specs.Measured.{AreMeasured, IsMeasured, KeepsUnits, RestsAreMeasured}
pub use Rattle.core_invariant.specs.Next.{part_asks, next_line}
pub use Rattle.core_invariant.specs.Objects.{chunk_of, chunks_of, OffsetsAreSmall}
pub use Rattle.core_invariant.specs.Roots.{roots_of, heaps_of, sources_of}
pub use Rattle.core_invariant.specs.SharedValue.{SharedValue, accounts, value_by, value_of, with_marks, tree_counts_of, belongings_in, rest_at}
pub use Rattle.core_invariant.specs.Stands.{IsSharedValue, HeapForm}
pub use Rattle.core_invariant.specs.WorkerPartFits.{WorkerPartFits, belongings_of_part, OthersFit, part_of}
pub use Rattle.core_invariant.specs.below.chunk_pool.{PoolValue, owner_of, TakesAll, units_in_use, Slot, Reserves, slot_in, slot_at, IsBlank, NumbersBehind, one_unit, units_in}
pub use Rattle.core_invariant.specs.below.copying_gc.{ToChunks, AreNew, as_reference, Moved, new_address, HasReservedLists}
pub use Rattle.core_invariant.specs.below.hh_model.{MachineState, row_of, is_joined, is_waiting, asked, Object, object_at, is_running, Name, Task}
pub use Rattle.core_invariant.specs.below.leaf_heap.{HaveDistinctNumbers, IsFresh, saturating_words, with_places, LeafHeapValue, added, AreTidy, CellsFitInChunks, IsTidy, IsCurrent, IsReserved, room_at, place_for, room_of}
pub use Rattle.core_invariant.specs.below.ledger_step_laws.{Rests, rested, own, IdleRest}
pub use Rattle.core_invariant.specs.below.mark_sweep_gc.{AreGiven, units_in_slots}
pub use Rattle.core_invariant.specs.below.object_layout.{Located, Addr, IsBorn, cell_of, small_words, ChunkValue, number_of, IsSoundReference, place_in, has_chunk, Born, marked_object, chunk_at, words_in, objects_from}
pub use Rattle.core_invariant.specs.below.plain_vec.{ReservedVecValue, is_empty, option_is}
pub use Rattle.core_invariant.specs.below.refinement.{SameObjects, with_belongings, AreLaidOut, Chunk, Belongings, In, Memory, objects, objects_of_chunks, ChunksHaveNames, BelongingsStand, object_name, reserved_chunks, reserved_units, large_chunks, AsksUnits, BegunBy, CopyFits, EndsAt, CountsGo, IsBy, OthersNotes, IsSource, LiesWithOwner, Lies, rewritten_belongings, sources, Part, part_for, StandsFor, StandsForAll, as_node, by_end, WorkerFits, BegunStands, LeafCollectionBegins}
pub use Rattle.core_invariant.specs.below.remembered_set.{RefField, AreFields, redirected, StandOnce}
pub use Rattle.core_invariant.specs.below.run_ledger.{Heap, Ledger, heap_of, let_go, or_fresh, with_heap, Refused, Collecting, Due, NotNeeded, RunEnd, Pool, chunk_words, in_use, is_small_size, lacks_room, units, after, chunk_units, kind_refusal, refused_if, refused_unless, with_chunk, is_due, is_in_need, on_asked, take_of, within, collected, with_heap_at, is_legal, SoundLedger, PoolEnough, is_pool_enough, on_due, is_fuel, on_running, PoolShort, Count, NotCollecting, NotOut, ends_as, is_out, end_numbers, NotDue, unless_wrong_number}
pub use Rattle.core_invariant.specs.below.run_trace.{Begin, EntryValue, End, PutOff, Kind}
pub use Rattle.core_invariant.specs.below.task_machine.{Begun, Private, HasReservedUnits, HeapMatchesAccount, HeapIsShaped, IsLastLarge, IsLastSmall, large_names, names_in, small_lists, is_part_due}
pub use Rattle.core_invariant.specs.below.task_slots.{ParkedTask, refs_of_rest, Resting, refs_for, resting_references, with_ref_in}
pub use Rattle.journal_laws.proofs.Waiters.{waiters_are_free}
pub use Rattle.leaf_collections.specs.LeafEnd.{FitsCopied, end_entry, without_collection}
pub use Rattle.std.proofs.Common.{◌≡◌, ◌⊎◌, ℕ, true, false, Option, Some, None, length, slice_get, is_some, inl, inr, refl, ap, sym, subst, ◌∙◌, ◌+◌, ◌^◌, ◌<◌, ◌≤◌, ◌++◌, arith, List, [], ◌∷◌, map, All, ◌*◌, ◌/◌, ◌&&◌, not, Bool, cond, option_map, is_none, nat_lt, ◌==◌, ap₂, lt-ltb, le-ltb, eq-eqb, ne_eqb, ◌-◌, fold, eqb, length-append, zero, suc, nat_le, take, rules}
pub use Rattle.std.proofs.lemmas.Bool.{both_ways, cases_eq, cases_lt, cond-false, cond-true, false≢true, leb-false, cases_Bool, or_from, eqb-true, leb-true}
pub use Rattle.std.proofs.lemmas.Iterator.Adapters.{YieldsList-from_vec}
pub use Rattle.std.proofs.lemmas.Iterator.Consumers.{YieldsList-turn}
pub use Rattle.std.proofs.lemmas.List.{append-nil, length_push, length-map, reverse-reverse, take_more}
pub use Rattle.std.proofs.lemmas.List.Elements.{All-cons, All-get_or, All-nil}
pub use Rattle.std.proofs.lemmas.List.Sorted.{All-permutation, IsPermutation-map, length_permutation, list_any-IsPermutation, IsNonDecreasingBy-from_sort_by_key, IsPermutation-reverse, IsPermutation-trans}
pub use Rattle.std.proofs.lemmas.Map.Keys.{IsDistinct-IsPermutation}
pub use Rattle.std.proofs.lemmas.Option.{same_Some}
pub use Rattle.std.specs.List.{AllByRecursion, list_any}
pub use Rattle.std.specs.List.Sorted.{IsPermutation, IsNonDecreasingBy}
pub use Rattle.std.specs.Prelude.{vec_len, reverse, IsSome}
