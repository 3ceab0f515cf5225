-- The names of lower crates and of the specifications that these proofs use. Declares nothing.
pub use Rattle.log_form.specs.Events.{Event, has_ended, is_last, is_on, event, Spot, spot_behind, spot_behind_act, strand_behind, file_begin, spot_behind_said}
pub use Rattle.log_form.specs.Faults.{act_fault, bears, claim_fault, is_born, is_spawned, spawns, turn_fault, where_true, line_fault, fault_from, fault_of_lines, first_fault, found_at, or_later}
pub use Rattle.log_form.specs.Text.{lines_in, text_of}
pub use Rattle.log_form.specs.declared.fault.LocatedFault.{LocatedFault}
pub use Rattle.log_lines.specs.Grammar.{line_of}
pub use Rattle.log_lines.specs.Limits.{strand_limit}
pub use Rattle.log_lines.specs.declared.cause.LogCause.{LogCause}
pub use Rattle.log_text_laws.proofs.Logs.{logs_again}
pub use Rattle.log_text_laws.specs.Names.{name_lines, names_at, names_in}
pub use Rattle.plain_vec.proofs.Members.{In, got_back, got_front, in_append_right, in_flat, in_from_any}
pub use Rattle.run_graph_laws.proofs.RunTold.{logs_are_cut_runs, logs_tell_tasks}
pub use Rattle.run_limit_laws.proofs.Births.{born_both, blocks_are_born_once}
pub use Rattle.run_limit_laws.proofs.Lines.{lines_within, logs_are_within_limits}
pub use Rattle.run_limit_laws.proofs.Turns.{few_turns}
pub use Rattle.run_limit_laws.specs.Births.{blocks_born, born_by}
pub use Rattle.run_limit_laws.specs.Limits.{FitInLog}
pub use Rattle.run_limit_laws.specs.below.fork_graph.{GraphStrand, GraphTurn, Join, Spawn}
pub use Rattle.run_limit_laws.specs.below.hh_lang.{Fun, Line}
pub use Rattle.run_limit_laws.specs.below.log_places.{AreDifferent}
pub use Rattle.run_limit_laws.specs.below.run_log.{accesses_field, end_lines, log_of}
pub use Rattle.run_line_laws.specs.Faultless.{RunLinesHaveNoFault}
pub use Rattle.run_turn_laws.proofs.Legal.{lines_unclosed}
pub use Rattle.run_turn_laws.proofs.Told.{told_both, spot_both}
pub use Rattle.run_turn_laws.specs.Events.{spot_after, events_told}
pub use Rattle.run_turn_laws.specs.Turns.{FollowTurns, turn_by, turns_told}
pub use Rattle.run_turn_laws.specs.below.log_lines.{Act, LogLine}
pub use Rattle.run_turn_laws.specs.below.run_ledger.{Done, Machine, end_of, machine_of}
pub use Rattle.run_turn_laws.specs.below.run_log.{lines_of}
pub use Rattle.std.proofs.Common.{◌≡◌, ◌<◌, ◌≤◌, ◌+◌, ◌==◌, ℕ, true, false, cond, Some, None, List, [], ◌∷◌, ◌++◌, length, slice_get, nat_lt, inl, inr, refl, ap, sym, subst, ◌∙◌, arith, append-nil, append_assoc, length-append, eq-eqb, Bool, Option, Ok, Result, map}
pub use Rattle.std.proofs.lemmas.Bool.{and_parts, cond-true, eqb-true, false_from_ne_true, lt-ltb, or_cases}
pub use Rattle.std.proofs.lemmas.Option.{slice_get_within}
pub use Rattle.std.specs.List.{list_any, flat_map}
pub use Rattle.std.specs.Prelude.{◌&&◌}
pub use Rattle.told_graph_laws.proofs.Ends.{act_spawn, event_turn}
pub use Rattle.told_graph_laws.specs.ToldGraph.{AreToldInOrder, EndsAreLast, IsUnended}
pub use Rattle.told_graph_laws.specs.below.run_log_laws.{IsCutRun}
