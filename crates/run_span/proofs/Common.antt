-- The names of lower crates and of the specifications that these proofs use. Declares nothing.
pub use Rattle.ancestor_laws.proofs.Blocks.{are_blocks}
pub use Rattle.ancestor_laws.proofs.Serial.{serial_order_extends, levels_are_few}
pub use Rattle.ancestor_laws.proofs.Span.{are_reaches, span_is_longest}
pub use Rattle.ancestor_laws.proofs.Trees.{below, joins_child, no_self, same_ancestor}
pub use Rattle.ancestor_laws.proofs.Walks.{IsRooted, precedes_itself, and_then, along, attached_rooted, rooted_attached}
pub use Rattle.ancestor_laws.specs.Blocks.{AreBlocks}
pub use Rattle.ancestor_laws.specs.Serial.{serial_order, AreLevels, IsSerialOrder}
pub use Rattle.ancestor_laws.specs.Span.{IsReach, AreReaches}
pub use Rattle.fork_graph.proofs.SpawnSearch.{no_row}
pub use Rattle.fork_graph.specs.Faults.{SpawnsBelow}
pub use Rattle.fork_graph.specs.Graph.{TaskTurns, tasks_in, strand, first_of, last_of, Does, IsParent, IsAncestor}
pub use Rattle.fork_graph.specs.Nested.{IsNested}
pub use Rattle.fork_graph.specs.declared.graph.GraphStrand.{GraphStrand}
pub use Rattle.fork_graph.specs.declared.graph.GraphTurn.{GraphTurn}
pub use Rattle.fork_graph.specs.declared.graph.GraphTurn.TheVariants.{Spawn, Join}
pub use Rattle.plain_vec.proofs.Members.{got_front}
pub use Rattle.plain_vec.proofs.Options.{none_some}
pub use Rattle.plain_vec.proofs.Places.{got_some, got_none, got_last, got_more}
pub use Rattle.run_span.specs.Reaches.{last_reach, latest_of, turn_before, with_child, reach_before, entered, AreWeights, AreReachesOf, IsSpanOf}
pub use Rattle.run_span.specs.declared.reach.Reaches.{Reaches}
pub use Rattle.std.proofs.Common.{◌≡◌, ◌==◌, ℕ, zero, suc, ◌+◌, ◌-◌, ◌<◌, ◌≤◌, max, Bool, true, false, Option, Some, None, List, [], ◌∷◌, ◌++◌, length, take, get_or, set, replicate, slice_get, slice_set, ◌⊎◌, inl, inr, refl, ap, sym, subst, ◌∙◌, arith, if◌then◌else◌, ◌^◌, sum, rules}
pub use Rattle.std.proofs.lemmas.Bool.{cases_lt, cases_eq, ne_eqb, eq-eqb}
pub use Rattle.std.proofs.lemmas.List.{length-append, length-set, length-replicate, get_or-replicate, get_or_past, get_or-set_same, get_or-set_other, nil_from_length}
pub use Rattle.std.proofs.lemmas.List.Sums.{sum_by_more, sum_by_more_le}
pub use Rattle.std.proofs.lemmas.Option.{same_Some, slice_get_within, get_or_from_slice_get, slice_get-get_or}
pub use Rattle.std.specs.List.{sum_by}
pub use Rattle.walk_laws.specs.Reached.{IsWalk}
