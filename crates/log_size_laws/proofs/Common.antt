-- The names of lower crates and of the specifications that these proofs use. Declares nothing.
pub use Rattle.ancestor_laws.proofs.Serial.{serial_order_extends, levels_are_few}
pub use Rattle.ancestor_laws.proofs.Trees.{up_cases}
pub use Rattle.ancestor_laws.proofs.Walks.{IsRooted, attached_rooted, strand_is, rooted_attached}
pub use Rattle.ancestor_laws.specs.Serial.{IsSerialOrder, serial_order}
pub use Rattle.fork_graph.specs.Graph.{tasks_in, TaskTurns, Does, IsAncestor, HasStrand, strand}
pub use Rattle.fork_graph.specs.Nested.{IsForkJoin, IsNested}
pub use Rattle.fork_graph.specs.declared.graph.GraphStrand.{GraphStrand}
pub use Rattle.fork_graph.specs.declared.graph.GraphTurn.{GraphTurn}
pub use Rattle.log_findings.specs.Errors.{LogIsTooLarge}
pub use Rattle.log_findings.specs.Reported.{order_of}
pub use Rattle.log_findings.specs.below.fork_graph.{Extent}
pub use Rattle.log_findings.specs.below.log_tasks.{IsLog, LogTasks}
pub use Rattle.log_findings.specs.below.log_weights.{weights_of, units_of, weight_of, work_of}
pub use Rattle.log_findings.specs.declared.error.ReportError.{ReportError}
pub use Rattle.log_findings.specs.declared.error.ReportError.TheVariants.{TooLong, TooManyStretches, TooMuchWork, TooManyWords, NoMemory}
pub use Rattle.log_heaps.specs.Acts.{words_born}
pub use Rattle.log_heaps.specs.Heaps.{AreThose, HasTooManyWords, IsBirth}
pub use Rattle.log_heaps.specs.Rows.{at_depth, words_at}
pub use Rattle.log_heaps.specs.below.log_tasks.{acts_if_known, known_of, AreNestedTasks, log_strand, told_number}
pub use Rattle.log_heaps.specs.declared.births.BlockBirth.{BlockBirth}
pub use Rattle.log_places.specs.Counting.{AreDifferent, AreOver}
pub use Rattle.log_places.specs.Places.{Covers}
pub use Rattle.log_places.specs.declared.region.Region.{Region}
pub use Rattle.log_size_laws.specs.Small.{AreSmallActs, IsSmallAct, IsSmallLog, SmallLogsAreNotTooLarge, work_told}
pub use Rattle.log_strands.specs.below.log_form.{Event, events_of, is_on}
pub use Rattle.log_strands.specs.below.log_lines.{Act, Access, Yield, Store, Birth, Release, Work, Spawn, Join, Finish}
pub use Rattle.log_touches.specs.Accesses.{regions_of_act}
pub use Rattle.log_touches.specs.Strands.{regions_of_events}
pub use Rattle.plain_vec.proofs.Members.{flat_in, got_in}
pub use Rattle.plain_vec.proofs.Numbers.{below_next}
pub use Rattle.plain_vec.proofs.Places.{in_got, map_in, in_map, got_some, all_from}
pub use Rattle.plain_vec.specs.Members.{In}
pub use Rattle.std.proofs.Common.{◌≡◌, ◌<◌, ◌≤◌, ◌⊎◌, inl, inr, ℕ, zero, suc, Some, List, [], ◌∷◌, length, map, slice_get, refl, ap, sym, subst, ◌∙◌, arith, ◌+◌, ◌*◌, ◌-◌, ◌^◌, Bool, mul-le-mul, sum, Option, None, true, false, filter, nat_le, ◌==◌, ◌&&◌, cond, sum_by}
pub use Rattle.std.proofs.Math.Path.{fun_ext}
pub use Rattle.std.proofs.lemmas.Bool.{and_from, and_parts, eqb-true, eq-eqb}
pub use Rattle.std.proofs.lemmas.List.{length-append, length-map}
pub use Rattle.std.proofs.lemmas.List.Sums.{sum-map, sum_by-cons, sum_by-le}
pub use Rattle.std.proofs.lemmas.Map.Keys.{sorted_from_strictly_increasing}
pub use Rattle.std.proofs.lemmas.Map.Views.{length-le_from_below}
pub use Rattle.std.proofs.lemmas.Option.{slice_get_within}
