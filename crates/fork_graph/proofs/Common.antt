-- The names of lower crates and of the specifications that these proofs use. Declares nothing.
pub use Rattle.fork_graph.specs.Children.{after_turn, spawns_open, AreStates, none_spawned, spawned_from, joined_from, is_open, HasState}
pub use Rattle.fork_graph.specs.Cut.{spawned_by, joins, unjoined, completed, with_joins, CompletedAreNested}
pub use Rattle.fork_graph.specs.Faults.{IsFault, HasNoEarlier, IsFirstFault, cause_of_turn, IsNew, IsOpen, SpawnsBelow, IsNestedRun, IsCutOff, IsSoundRun, SoundRunsHaveNoFault, IsSpawnedBefore}
pub use Rattle.fork_graph.specs.Graph.{TaskTurns, Does, tasks_in, strand, last_of, IsAncestor, AreSmall, IsEarlier, IsParent}
pub use Rattle.fork_graph.specs.Nested.{IsForkJoin}
pub use Rattle.fork_graph.specs.SpawnSearch.{AreReached, met_from, meet, meet_children, IsMet}
pub use Rattle.fork_graph.specs.declared.children.ChildState.{ChildState}
pub use Rattle.fork_graph.specs.declared.children.ChildState.TheVariants.{Unspawned, Open, Joined}
pub use Rattle.fork_graph.specs.declared.fault.Extent.{Extent}
pub use Rattle.fork_graph.specs.declared.fault.Extent.TheVariants.{Whole, Cut}
pub use Rattle.fork_graph.specs.declared.fault.StrandCause.{StrandCause}
pub use Rattle.fork_graph.specs.declared.fault.StrandCause.TheVariants.{SpawnsNoNewTask, JoinsNoOpenChild, LeavesUnjoined, IsUnreached}
pub use Rattle.fork_graph.specs.declared.fault.StrandFault.{StrandFault}
pub use Rattle.fork_graph.specs.declared.graph.GraphStrand.{GraphStrand}
pub use Rattle.fork_graph.specs.declared.graph.GraphTurn.{GraphTurn}
pub use Rattle.fork_graph.specs.declared.graph.GraphTurn.TheVariants.{Spawn, Join}
pub use Rattle.fork_graph.specs.declared.reached.SpawnSearch.{SpawnSearch}
pub use Rattle.plain_vec.proofs.Members.{In, got_in, got_front, got_back, in_kept, in_from_kept, in_append_cases, in_append_left, in_append_right, got_same, got_other, any_from_in, in_from_any}
pub use Rattle.plain_vec.proofs.Options.{none_some}
pub use Rattle.plain_vec.proofs.Places.{in_got, got_map, map_got, got_some, got_none}
pub use Rattle.std.proofs.Common.{◌≡◌, ◌==◌, ℕ, zero, suc, ◌+◌, ◌-◌, ◌<◌, ◌≤◌, true, false, not, List, [], ◌∷◌, length, map, reverse, ◌⊎◌, inl, inr, refl, ap, sym, subst, ◌∙◌, arith, Some, slice_get, None, Bool, cond, ◌++◌, filter, Option, slice_set, replicate, if◌then◌else◌, take, rules, ◌^◌, MatchOption}
pub use Rattle.std.proofs.lemmas.Bool.{cases_lt, cases_Bool, or_cases, or_left, or_right, eqb-true, eq-eqb, not-true, not_from_false, false≢true, cases_order, cases_eq, eqb-false}
pub use Rattle.std.proofs.lemmas.Grind.{reverse_onto}
pub use Rattle.std.proofs.lemmas.List.{length-set, length-append, length-replicate}
pub use Rattle.std.proofs.lemmas.Option.{same_Some, slice_get_within, get_or_from_slice_get}
pub use Rattle.std.specs.List.{list_any}
pub use Rattle.walk_laws.specs.Reached.{IsWalk}
