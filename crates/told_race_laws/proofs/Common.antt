-- The names of lower crates and of the specifications that these proofs use. Declares nothing.
pub use Rattle.ancestor_laws.proofs.Serial.{serial_order_extends, levels_are_few}
pub use Rattle.ancestor_laws.proofs.Trees.{up_cases}
pub use Rattle.ancestor_laws.proofs.Walks.{IsRooted, attached_rooted, rooted_attached}
pub use Rattle.ancestor_laws.specs.Serial.{IsSerialOrder}
pub use Rattle.log_races.specs.Touches.{touches_at, touches_of, told_if, told_strand, touches_told, touches_from}
pub use Rattle.log_touches.specs.Accesses.{access_of, touch_by, touches_of_access, touches_of_act}
pub use Rattle.log_touches.specs.Strands.{regions_of_events, numbered_from, touches_behind, touches_on}
pub use Rattle.log_touches.specs.below.race_scan.{Touch}
pub use Rattle.log_touches.specs.declared.access.ActAccess.{ActAccess}
pub use Rattle.log_verdict.specs.Verdict.{LogRaceAt, IsRacing, strand_of_access}
pub use Rattle.log_walk.specs.Value.{WalkValue, IsWalked}
pub use Rattle.plain_vec.proofs.Members.{In, flat_in, in_flat, got_in, in_append_cases, in_append_left, in_append_right, in_kept, in_from_kept}
pub use Rattle.run_race_laws.specs.Accesses.{ToldAccess, told_access, accesses_by, accesses_told}
pub use Rattle.run_race_laws.specs.Races.{ToldRaceAt}
pub use Rattle.run_race_laws.specs.below.log_places.{Covers, Region}
pub use Rattle.run_race_laws.specs.below.race_cells.{clash}
pub use Rattle.std.proofs.Common.{◌≡◌, ◌<◌, ◌≤◌, ◌+◌, ℕ, true, Some, List, length, slice_get, ◌⊎◌, inl, inr, refl, ap, sym, subst, ◌∙◌, arith, ◌==◌, zero, suc, Bool, false, Option, None, [], ◌∷◌, ◌++◌, eq-eqb}
pub use Rattle.std.proofs.lemmas.Bool.{le-leb, and_parts, eqb-true}
pub use Rattle.std.proofs.lemmas.Option.{get_or_from_slice_get}
pub use Rattle.std.specs.Prelude.{◌↔◌, if◌then◌else◌, nat_le, option_map, option_to_list, filter}
pub use Rattle.told_graph_laws.proofs.Graphs.{logs_tell_graphs, own_task}
pub use Rattle.told_graph_laws.proofs.Kept.{kept_strand, kept_above, kept_order, event_stands}
pub use Rattle.told_graph_laws.specs.ToldGraph.{AreToldInOrder, graph_told, IsGraphTold}
pub use Rattle.told_graph_laws.specs.below.fork_graph.{Extent, GraphStrand, HasStrand, IsAncestor, StrandPrecedes, TaskTurns, strand, tasks_in}
pub use Rattle.told_graph_laws.specs.below.log_form.{Event, is_on}
pub use Rattle.told_graph_laws.specs.below.log_tasks.{IsLog, LogTasks, log_strand, known_of}
pub use Rattle.told_graph_laws.specs.below.run_log_laws.{IsCutRun}
pub use Rattle.told_graph_laws.specs.below.run_turn_laws.{turns_told, Act}
pub use Rattle.told_race_laws.specs.ToldRaces.{IsUnreleased, IsToldRacing, LogRacesAreTold}
