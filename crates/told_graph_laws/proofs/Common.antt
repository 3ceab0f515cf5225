-- The names of lower crates and of the specifications that these proofs use. Declares nothing.
pub use Rattle.fork_graph.proofs.Cut.{completed_front}
pub use Rattle.fork_graph.specs.Cut.{completed, with_joins, unjoined}
pub use Rattle.fork_graph.specs.Graph.{strand, TaskTurns, tasks_in, Does, HasStrand, StrandPrecedes, IsAncestor, IsParent}
pub use Rattle.fork_graph.specs.declared.fault.Extent.{Extent}
pub use Rattle.fork_graph.specs.declared.fault.Extent.TheVariants.{Whole, Cut}
pub use Rattle.fork_graph.specs.declared.graph.GraphStrand.{GraphStrand}
pub use Rattle.fork_graph.specs.declared.graph.GraphTurn.{GraphTurn}
pub use Rattle.fork_graph.specs.declared.graph.GraphTurn.TheVariants.{Spawn, Join}
pub use Rattle.log_form.specs.Events.{Event, acts_on, is_on}
pub use Rattle.log_form.specs.Faults.{spawns}
pub use Rattle.log_tasks.proofs.Acts.{acts_append}
pub use Rattle.log_tasks.proofs.Ascending.{in_at, at_in, place_below, task_is}
pub use Rattle.log_tasks.specs.Ends.{end_by, or_later, first_end, end_of}
pub use Rattle.log_tasks.specs.Log.{IsLog}
pub use Rattle.log_tasks.specs.Numbers.{AreNumbers, is_task, tells, told_number, log_strand, task_of, renumbered}
pub use Rattle.log_tasks.specs.Rows.{AreRows, turn_at, known_of, graph_of}
pub use Rattle.log_tasks.specs.declared.ending.StrandEnd.{StrandEnd}
pub use Rattle.log_tasks.specs.declared.ending.StrandEnd.TheVariants.{Turns, Finishes}
pub use Rattle.log_tasks.specs.declared.tasks.LogTasks.{LogTasks}
pub use Rattle.plain_vec.proofs.Members.{In, in_append_cases, in_append_left, in_append_right, got_front, got_past, flat_in, in_flat, got_in, any_from_in}
pub use Rattle.plain_vec.proofs.Places.{got_last, in_got, got_some, got_map}
pub use Rattle.run_log_laws.specs.Whole.{IsCutRun}
pub use Rattle.run_turn_laws.proofs.Told.{told_both}
pub use Rattle.run_turn_laws.specs.Turns.{turn_by, turns_by, turns_told, FollowTurns}
pub use Rattle.run_turn_laws.specs.below.log_lines.{Act}
pub use Rattle.std.proofs.Common.{◌≡◌, ◌<◌, ◌≤◌, ◌+◌, ◌==◌, ℕ, zero, suc, Bool, true, false, cond, Option, Some, None, List, [], ◌∷◌, ◌++◌, length, slice_get, ◌⊎◌, inl, inr, refl, ap, sym, subst, ◌∙◌, arith, append-nil, append_assoc, length-append, eq-eqb, ne_eqb, map, get_or, ap₂}
pub use Rattle.std.proofs.Math.Path.{fun_ext}
pub use Rattle.std.proofs.lemmas.Bool.{cases_eq, cases_lt, eqb-true, or_right, or_cases}
pub use Rattle.std.proofs.lemmas.List.{length-map}
pub use Rattle.std.proofs.lemmas.Option.{slice_get_within}
pub use Rattle.std.specs.List.{list_any}
pub use Rattle.std.specs.List.Sorted.{IsStrictlyIncreasing}
pub use Rattle.std.specs.Prelude.{IsTrue, ◌||◌, ◌↔◌}
pub use Rattle.told_graph_laws.specs.ToldGraph.{IsUnended, EndsAreLast, AreToldInOrder, graph_told, IsGraphTold, LogsTellGraphs}
pub use Rattle.walk_laws.specs.Reached.{IsWalk}
