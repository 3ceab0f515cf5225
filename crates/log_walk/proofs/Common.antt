-- The names of lower crates and of the specifications that these proofs use. Declares nothing.
pub use Rattle.ancestor_laws.proofs.Blocks.{are_blocks, tells_precedence}
pub use Rattle.ancestor_laws.proofs.Serial.{serial_order_extends, levels_are_few}
pub use Rattle.ancestor_laws.proofs.Trees.{IsLine, itself, same_ancestor, below, through, child_above, parent_line, one_line}
pub use Rattle.ancestor_laws.proofs.Walks.{IsRooted, attached_rooted, rooted_attached, along, strand_is}
pub use Rattle.ancestor_laws.specs.Blocks.{AreBlocks, TellsPrecedence}
pub use Rattle.ancestor_laws.specs.Serial.{AreLevels, IsSerialOrder, serial_order, serial_rest, serial_in}
pub use Rattle.fork_graph.proofs.SpawnSearch.{no_row}
pub use Rattle.fork_graph.specs.Faults.{SpawnsBelow}
pub use Rattle.fork_graph.specs.Graph.{tasks_in, strand, first_of, last_of, Does, StrandPrecedes, IsParent, IsAncestor, TaskTurns, HasStrand}
pub use Rattle.fork_graph.specs.Nested.{IsForkJoin, IsNested}
pub use Rattle.fork_graph.specs.declared.graph.GraphStrand.{GraphStrand}
pub use Rattle.fork_graph.specs.declared.graph.GraphTurn.{GraphTurn}
pub use Rattle.fork_graph.specs.declared.graph.GraphTurn.TheVariants.{Spawn, Join}
pub use Rattle.jump_pointers.proofs.Lists.{IsWithin, link_more}
pub use Rattle.jump_pointers.proofs.Walks.{first_link}
pub use Rattle.jump_pointers.specs.Lists.{up_from, depth_at, far_at, parent_of_link, new_link, AreLinks}
pub use Rattle.jump_pointers.specs.Walk.{ancestor}
pub use Rattle.jump_pointers.specs.declared.links.Link.{Link}
pub use Rattle.log_walk.specs.Meetings.{IsDepthAt, IsExitAt}
pub use Rattle.log_walk.specs.Places.{AreMarkedOnce, AreMarkPlaces, joined_by, ended_by, mark_of, child_noted}
pub use Rattle.log_walk.specs.Tables.{strand_at, task_at, place_before, AreTables, IsNextUp, IsTop, AreFirsts, AreSpawnLinks}
pub use Rattle.log_walk.specs.Value.{WalkValue}
pub use Rattle.log_walk.specs.Walking.{following, visited}
pub use Rattle.log_walk.specs.declared.order.Walk.{Walk}
pub use Rattle.log_walk.specs.declared.places.Mark.{Mark}
pub use Rattle.log_walk.specs.declared.places.Mark.TheVariants.{First, Last, Joined}
pub use Rattle.log_walk.specs.declared.tables.Tables.{Tables}
pub use Rattle.plain_vec.proofs.Members.{got_other, got_front}
pub use Rattle.plain_vec.proofs.Options.{none_some}
pub use Rattle.plain_vec.proofs.Places.{got_some, got_set, got_none, got_last, got_more}
pub use Rattle.std.proofs.Common.{◌≡◌, ◌↔◌, ℕ, zero, suc, ◌+◌, ◌-◌, ◌^◌, ◌<◌, ◌≤◌, Option, Some, None, List, length, slice_get, ◌⊎◌, inl, inr, refl, ap, sym, subst, ◌∙◌, arith, add-one, ◌==◌, Bool, true, false, replicate, slice_set, if◌then◌else◌, [], ◌∷◌, ◌++◌, drop, append_assoc, rules, IsTrue}
pub use Rattle.std.proofs.lemmas.Bool.{cases_lt, eqb-true, eqb-false, ne_eqb, false≢true}
pub use Rattle.std.proofs.lemmas.List.{length-set, length-replicate, length-append, append-nil}
pub use Rattle.std.proofs.lemmas.Option.{same_Some, slice_get_within, slice_get-get_or, get_or_from_slice_get, slice_get_past}
pub use Rattle.walk_laws.specs.Reached.{IsWalk}
