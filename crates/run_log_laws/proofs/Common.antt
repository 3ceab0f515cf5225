-- The names of lower crates and of the specifications that these proofs use. Declares nothing.
pub use Rattle.ancestor_laws.proofs.Walks.{and_then, same_strand}
pub use Rattle.fork_graph.proofs.Cut.{unjoined_at, joins_from, completed_front, completed_cases, completed_spawn}
pub use Rattle.fork_graph.specs.Cut.{unjoined, joins, with_joins}
pub use Rattle.fork_graph.specs.Faults.{SpawnsBelow}
pub use Rattle.fork_graph.specs.Graph.{TaskTurns, last_of, HasStrand, Does, IsGraphEdge, StrandPrecedes, IsAncestor}
pub use Rattle.fork_graph.specs.Nested.{IsForkJoin, IsNested}
pub use Rattle.fork_graph.specs.declared.graph.GraphStrand.{GraphStrand}
pub use Rattle.fork_graph.specs.declared.graph.GraphTurn.{GraphTurn}
pub use Rattle.fork_graph.specs.declared.graph.GraphTurn.TheVariants.{Spawn, Join}
pub use Rattle.hh_lang.specs.Form.{ProgramText}
pub use Rattle.hh_lang.specs.declared.instr.Instr.TheVariants.{Par}
pub use Rattle.hh_lang.specs.declared.program.Line.{Line}
pub use Rattle.hh_model.proofs.Climbs.{owner_here}
pub use Rattle.hh_model.proofs.Counts.{run_push}
pub use Rattle.hh_model.proofs.EndLaws.{ended_stays}
pub use Rattle.hh_model.proofs.ForkJoinStates.{IsForkJoinState, step_is_fork_join_state, start_is_fork_join_state, run_is_fork_join_state}
pub use Rattle.hh_model.proofs.Paths.{path_itself}
pub use Rattle.hh_model.proofs.Root.{OneRoot, run_root}
pub use Rattle.hh_model.proofs.Runs.{waiting, joins_of, joins_in, running_tells, grown_view, wrest_fork, grown_at, three_top, three_left, three_right, three_other, below, dp, wp, joiner_live, join_tree, drest, grown_length, grown_left, grown_right, grown_past, grown_view_front, three_length, three_view, parr}
pub use Rattle.hh_model.proofs.Steps.{step_cases}
pub use Rattle.hh_model.specs.Effect.{onward}
pub use Rattle.hh_model.specs.Names.{task_names}
pub use Rattle.hh_model.specs.Precedence.{Precedes, IsEdgeWalk}
pub use Rattle.hh_model.specs.Step.{strand, edge, runs, waits, is_over, is_running, is_joined, is_waiting, parents, joined, path_in, strand_of, is_left, child, joined_task, resumed, join_of, ended_task, result_of, fetched, step, run, run_from, start, root, parent_of}
pub use Rattle.hh_model.specs.Tree.{Tree}
pub use Rattle.hh_model.specs.declared.data.Edge.{Edge}
pub use Rattle.hh_model.specs.declared.data.End.{End}
pub use Rattle.hh_model.specs.declared.data.End.TheVariants.{Done, Trapped, Entangled}
pub use Rattle.hh_model.specs.declared.data.MachineState.{MachineState}
pub use Rattle.hh_model.specs.declared.data.Name.{Name}
pub use Rattle.hh_model.specs.declared.data.Strand.{Strand}
pub use Rattle.hh_model.specs.declared.data.Task.{Task}
pub use Rattle.hh_model.specs.declared.data.TaskStatus.TheVariants.{Waiting}
pub use Rattle.hh_model.specs.declared.data.Trap.{Trap}
pub use Rattle.plain_vec.proofs.Members.{In, in_append_left, in_append_right, in_append_cases, got_front, same_view, got_within, in_from_contains, contains_from_in, got_past, got_same}
pub use Rattle.run_log_laws.specs.Graph.{turn_at, turns_of, WalksAgree, in_log}
pub use Rattle.run_log_laws.specs.Whole.{RunsAreForkJoin}
pub use Rattle.std.proofs.Common.{◌≡◌, ◌<◌, ◌≤◌, ◌+◌, ◌*◌, ◌==◌, ℕ, zero, suc, Bool, true, false, List, [], ◌∷◌, ◌++◌, length, slice_get, Some, ◌⊎◌, inl, inr, refl, ap, sym, subst, ◌∙◌, arith, eq-eqb, ne_eqb, append-nil, length-append, ℤ, Option, slice_set, Contains, map, cond, ◌%◌, length-set, None, append_assoc}
pub use Rattle.std.proofs.Math.Path.{fun_ext}
pub use Rattle.std.proofs.lemmas.Bool.{cases_eq, both_ways, cases_lt, eqb-true}
pub use Rattle.std.proofs.lemmas.Grind.{flat_map-append}
pub use Rattle.std.proofs.lemmas.Option.{slice_get_within, same_Some}
pub use Rattle.walk_laws.proofs.Reached.{reached_within}
