-- The names of lower crates and of the specifications that these proofs use. Declares nothing.
pub use Rattle.ancestor_laws.specs.Blocks.{AreBlocks, TellsPrecedence, SerialOrderTells}
pub use Rattle.ancestor_laws.specs.CutRuns.{IsKept, CutRunsSpeakTruly}
pub use Rattle.ancestor_laws.specs.Meeting.{IsExit, IsEntryStrand, IsMeeting, IsLowestCommon, AncestorsTellPrecedence}
pub use Rattle.ancestor_laws.specs.Serial.{serial_in, serial_order, AreLevels, IsSerialOrder, serial_rest, SerialOrderExtends, LevelsAreFew}
pub use Rattle.ancestor_laws.specs.Span.{HasWalk, IsReach, AreReaches, SpanIsLongest}
pub use Rattle.fork_graph.proofs.Cut.{completed_front, completed_cases, completed_spawn, completed_are_nested, same_spawn, spawn_no_join, same_join}
pub use Rattle.fork_graph.proofs.Once.{EachOnce, one_place, once_append}
pub use Rattle.fork_graph.specs.Cut.{with_joins, IsCut}
pub use Rattle.fork_graph.specs.Graph.{TaskTurns, strand, first_of, last_of, Does, StrandPrecedes, IsParent, IsAncestor, HasStrand, IsGraphEdge, ContinuesTo, Spawns, IsAttached, JoinsTo}
pub use Rattle.fork_graph.specs.Nested.{IsNested, IsForkJoin}
pub use Rattle.fork_graph.specs.declared.graph.GraphStrand.{GraphStrand}
pub use Rattle.fork_graph.specs.declared.graph.GraphTurn.{GraphTurn}
pub use Rattle.fork_graph.specs.declared.graph.GraphTurn.TheVariants.{Spawn, Join}
pub use Rattle.plain_vec.proofs.Members.{got_in, In, got_front, got_back, in_append_cases, in_from_any}
pub use Rattle.plain_vec.proofs.Options.{none_some}
pub use Rattle.plain_vec.proofs.Places.{got_some, each_from}
pub use Rattle.std.proofs.Common.{◌≡◌, ◌↔◌, ℕ, zero, suc, ◌+◌, ◌-◌, ◌<◌, ◌≤◌, length, inl, inr, refl, ap, sym, subst, ◌∙◌, arith, Some, slice_get, List, [], ◌∷◌, take, ◌⊎◌, ◌++◌, eqb, false, max}
pub use Rattle.std.proofs.lemmas.Bool.{cases_lt, ne_eqb, eqb-true, cases_eq}
pub use Rattle.std.proofs.lemmas.List.{length-append}
pub use Rattle.std.proofs.lemmas.Map.Keys.{IsDistinct-cons}
pub use Rattle.std.proofs.lemmas.Map.Steps.{length-le_from_distinct_below}
pub use Rattle.std.proofs.lemmas.Option.{same_Some, slice_get_within}
pub use Rattle.walk_laws.proofs.Reached.{reached_within, reached_more}
pub use Rattle.walk_laws.specs.Reached.{IsWalk}
