-- The names of lower crates and of the specifications that these proofs use. Declares nothing.
pub use Rattle.ancestor_laws.proofs.Blocks.{are_blocks, tells_precedence}
pub use Rattle.ancestor_laws.proofs.Serial.{serial_order_extends, levels_are_few}
pub use Rattle.ancestor_laws.proofs.Trees.{IsLine, same_ancestor, through, up_cases, down_cases, one_parent, no_root_parent, joins_child, no_self, one_line, rooted_above, same_child, decide, itself, below, parent_line}
pub use Rattle.ancestor_laws.proofs.Walks.{IsRooted, strand_is, attached_rooted, rooted_attached, precedes_itself, both}
pub use Rattle.ancestor_laws.specs.Blocks.{AreBlocks, TellsPrecedence}
pub use Rattle.ancestor_laws.specs.Meeting.{IsLowestCommon, IsExit}
pub use Rattle.ancestor_laws.specs.Serial.{IsSerialOrder, AreLevels}
pub use Rattle.fork_graph.specs.Graph.{TaskTurns, strand, first_of, last_of, Does, StrandPrecedes, IsParent, IsAncestor, tasks_in}
pub use Rattle.fork_graph.specs.Nested.{IsNested}
pub use Rattle.fork_graph.specs.declared.graph.GraphStrand.{GraphStrand}
pub use Rattle.fork_graph.specs.declared.graph.GraphTurn.{GraphTurn}
pub use Rattle.fork_graph.specs.declared.graph.GraphTurn.TheVariants.{Join}
pub use Rattle.log_walk.proofs.Lines.{line_short}
pub use Rattle.log_walk.proofs.Marks.{is_joined, joined_mark, same_joined}
pub use Rattle.log_walk.specs.Meetings.{IsExitAt, IsDepthAt}
pub use Rattle.log_walk.specs.Places.{joined_before}
pub use Rattle.log_walk.specs.Tables.{strand_at, task_at}
pub use Rattle.log_walk.specs.Value.{WalkValue, IsWalked}
pub use Rattle.plain_vec.proofs.Members.{In, any_from_in, in_from_any}
pub use Rattle.plain_vec.proofs.Options.{none_some}
pub use Rattle.plain_vec.specs.Options.{option_is}
pub use Rattle.race_cells.specs.Order.{MeetsAsInTree, ExtendsPrecedence}
pub use Rattle.run_order.specs.Laws.{IsOrderOf, WalksHaveAnOrder}
pub use Rattle.run_order.specs.Order.{way_up, exit_of, is_upto, is_no_later, order_depth, after_join, if_there, steps_from, is_above_strand}
pub use Rattle.std.proofs.Common.{◌≡◌, ◌↔◌, ℕ, zero, suc, ◌+◌, ◌<◌, ◌≤◌, List, length, slice_get, Some, ◌⊎◌, inl, inr, refl, ap, sym, subst, ◌∙◌, arith, ◌-◌, Bool, true, false, Option, None, nat_le, ◌==◌, ◌&&◌, cond, [], ◌∷◌, get_or, position, find, nat_lt, eqb, eq-eqb, if◌then◌else◌}
pub use Rattle.std.proofs.lemmas.Bool.{cases_lt, false≢true, leb-true, le-leb, cases_eq, eqb-true, lt-ltb, ltb-true}
pub use Rattle.std.proofs.lemmas.List.Sums.{position_or_len_is}
pub use Rattle.std.proofs.lemmas.Option.{slice_get_within, slice_get-get_or, get_or_from_slice_get, same_Some}
pub use Rattle.std.specs.List.{position_or_len}
