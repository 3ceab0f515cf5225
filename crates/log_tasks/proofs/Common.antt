-- The names of lower crates and of the specifications that these proofs use. Declares nothing.
pub use Rattle.fork_graph.proofs.Cut.{completed_spawn, completed_are_nested}
pub use Rattle.fork_graph.proofs.Sound.{sound_runs_have_no_fault}
pub use Rattle.fork_graph.specs.Cut.{spawned_by, joins, completed, unjoined, with_joins}
pub use Rattle.fork_graph.specs.Faults.{IsFault, IsSoundRun, IsFirstFault, IsSpawnedBefore}
pub use Rattle.fork_graph.specs.Graph.{strand, tasks_in, last_of, IsEarlier, AreSmall, Does}
pub use Rattle.fork_graph.specs.Nested.{IsNested}
pub use Rattle.fork_graph.specs.declared.fault.Extent.{Extent}
pub use Rattle.fork_graph.specs.declared.fault.Extent.TheVariants.{Whole, Cut}
pub use Rattle.fork_graph.specs.declared.fault.StrandCause.{StrandCause}
pub use Rattle.fork_graph.specs.declared.fault.StrandFault.{StrandFault}
pub use Rattle.fork_graph.specs.declared.graph.GraphStrand.{GraphStrand}
pub use Rattle.fork_graph.specs.declared.graph.GraphTurn.{GraphTurn}
pub use Rattle.fork_graph.specs.declared.graph.GraphTurn.TheVariants.{Spawn, Join}
pub use Rattle.log_form.specs.Events.{Event, event, Spot, has_ended, spot_behind_act, spot_behind_said, spot_behind_all, file_begin, file_end, events_behind, events_of, is_on, acts_on}
pub use Rattle.log_form.specs.Faults.{bears, releases, is_born, is_released, where_true, claim_fault, act_fault, said_fault, line_fault, first_fault, found_at, fault_from, fault_of_lines, or_later, fault_behind, log_fault, spawns, is_spawned, turn_fault}
pub use Rattle.log_form.specs.Text.{lines_in}
pub use Rattle.log_form.specs.declared.fault.LocatedFault.{LocatedFault}
pub use Rattle.log_form.specs.declared.fault.LogFault.{LogFault}
pub use Rattle.log_lines.specs.Grammar.{line_of}
pub use Rattle.log_lines.specs.Letters.{is_among, begins_with, letter_of}
pub use Rattle.log_lines.specs.Limits.{strand_limit}
pub use Rattle.log_lines.specs.declared.cause.LogCause.{LogCause}
pub use Rattle.log_lines.specs.declared.line.Act.{Act}
pub use Rattle.log_lines.specs.declared.line.LogLine.{LogLine}
pub use Rattle.log_pieces.proofs.Lines.{line_more, line_last, at_some, said_of}
pub use Rattle.log_pieces.specs.Claims.{is_that}
pub use Rattle.log_pieces.specs.Pieces.{on_strand, act_said, acts_in, acts_of_piece, events_in, events_of_pieces}
pub use Rattle.log_pieces.specs.declared.piece.LogPiece.{LogPiece}
pub use Rattle.log_tasks.specs.EndCauses.{end_cause_of, NoneEndsBelow, IsFirstEndFault, of_graph, task_cause, is_sooner, sooner, sooner_of, goes_past, end_cause_by, end_cause}
pub use Rattle.log_tasks.specs.Ends.{end_by, first_end, end_of, DoesSomething}
pub use Rattle.log_tasks.specs.Faults.{HasCause, HasNoneBelow, IsFirstOf, rank_of, IsFirstTaskFault, in_log}
pub use Rattle.log_tasks.specs.Joining.{left_by, joins_of, joins_for}
pub use Rattle.log_tasks.specs.Laws.{DoTheSame, FileOrderIsNothing, ShareNoStrand, FilesMayChangePlaces}
pub use Rattle.log_tasks.specs.Log.{IsLog}
pub use Rattle.log_tasks.specs.Numbers.{tells, is_task, place_or_root, task_of, AreNumbers, log_strand}
pub use Rattle.log_tasks.specs.Rows.{turn_at, AreRows, graph_of, AreNestedTasks}
pub use Rattle.log_tasks.specs.Sane.{TurnsWithin, EventsAreWithin, SpawnsOnce, AreSane}
pub use Rattle.log_tasks.specs.Spawning.{SpawnsWell}
pub use Rattle.log_tasks.specs.Told.{NotesTasks, is_told, greater, index_of, index_if, top_of, KnowsEvents, end_told, top_told, task_told, end_after, HasSmallTurns, AreToldRows, number_if, turn_told, IsToldRow, AreFirstRows}
pub use Rattle.log_tasks.specs.declared.ending.StrandEnd.{StrandEnd}
pub use Rattle.log_tasks.specs.declared.ending.StrandEnd.TheVariants.{Turns, Finishes}
pub use Rattle.log_tasks.specs.declared.fault.TaskCause.{TaskCause}
pub use Rattle.log_tasks.specs.declared.fault.TaskCause.TheVariants.{JoinsNoOpenChild, HasNoEnd, LeavesUnjoined, IsUnreached, GoesOnAfterEnd}
pub use Rattle.log_tasks.specs.declared.fault.TaskFault.{TaskFault}
pub use Rattle.log_tasks.specs.declared.tasks.LogTasks.{LogTasks}
pub use Rattle.log_tasks.specs.declared.told.Told.{Told}
pub use Rattle.plain_vec.proofs.Members.{got_in, in_from_contains, contains_from_in, any_from_in, in_from_any, got_within, got_front, got_past}
pub use Rattle.plain_vec.proofs.Numbers.{below_next}
pub use Rattle.plain_vec.proofs.Places.{got_more, each_in, got_last}
pub use Rattle.plain_vec.specs.Members.{In}
pub use Rattle.std.proofs.Common.{◌≡◌, ◌+◌, ◌++◌, ◌∷◌, ◌⊎◌, inl, inr, ℕ, Bool, true, false, List, [], length, refl, sym, ap, subst, ◌∙◌, Option, Some, None, Result, Ok, Err, slice_get, arith, ◌==◌, map, ◌<◌, ◌≤◌, ◌-◌, zero, suc, get_or, cond, nat_cmp, nat_lt, ap₂, append_assoc, append-nil, Less, not, drop, take, reverse, drop-cons, nat_eq, ◌^◌, length-append, Ordering, Equal, Greater, is_eq, ◌≢◌, Bor, eqb}
pub use Rattle.std.proofs.Math.Bool.{or-false, or-true}
pub use Rattle.std.proofs.Math.Facts.{Fits-lt-pow}
pub use Rattle.std.proofs.Math.ListN.{get_or-append}
pub use Rattle.std.proofs.Math.Nat.{eq-or-lt_of_le}
pub use Rattle.std.proofs.Math.Path.{fun_ext}
pub use Rattle.std.proofs.Math.Seq.{get_or-append_seam}
pub use Rattle.std.proofs.lemmas.Bool.{cases_lt}
pub use Rattle.std.proofs.lemmas.Bool.Decides.{nat_tests}
pub use Rattle.std.proofs.lemmas.Grind.{reverse_onto, flat_map-append, common_steps}
pub use Rattle.std.proofs.lemmas.List.{map-append, take_more, length-map, length-reverse}
pub use Rattle.std.proofs.lemmas.List.Elements.{filter-append}
pub use Rattle.std.proofs.lemmas.List.Filters.{length-filter_both, dedup_is}
pub use Rattle.std.proofs.lemmas.List.Folds.{list_any-append}
pub use Rattle.std.proofs.lemmas.List.Kept.{Contains-dedup_nat, Contains-from_dedup}
pub use Rattle.std.proofs.lemmas.List.Sorted.{searched, Contains-permutation, IsPermutation-sym}
pub use Rattle.std.proofs.lemmas.List.Sums.{position_or_len_is}
pub use Rattle.std.proofs.lemmas.Map.Keys.{sorted_from_strictly_increasing, IsStrictlyIncreasing-from_sorted, IsStrictlyIncreasing-dedup}
pub use Rattle.std.proofs.lemmas.Option.{same_Some}
pub use Rattle.std.specs.HashSet.{contains}
pub use Rattle.std.specs.List.{list_any, position_or_len, AllByRecursion, flat_map}
pub use Rattle.std.specs.List.Sorted.{IsStrictlyIncreasing, IsBinarySearchResult}
pub use Rattle.std.specs.Prelude.{◌||◌, ◌&&◌, max, filter, if◌then◌else◌, IsTrue, MatchOption, option_map, nat_le, OnOk, Contains, ◌↔◌, is_some, codes}
pub use Rattle.std.specs.declared.alloc.AllocError.{AllocError}
pub use Rattle.text_lines.specs.Lines.{lines_of}
