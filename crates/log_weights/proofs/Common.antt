-- The names of lower crates and of the specifications that these proofs use. Declares nothing.
pub use Rattle.ancestor_laws.specs.Serial.{serial_order}
pub use Rattle.ancestor_laws.specs.Span.{IsSpan}
pub use Rattle.fork_graph.specs.Faults.{SpawnsBelow}
pub use Rattle.fork_graph.specs.Graph.{tasks_in, strand}
pub use Rattle.fork_graph.specs.Nested.{IsNested}
pub use Rattle.fork_graph.specs.declared.graph.GraphStrand.{GraphStrand}
pub use Rattle.fork_graph.specs.declared.graph.GraphTurn.{GraphTurn}
pub use Rattle.log_pieces.specs.Claims.{is_that, is_pair}
pub use Rattle.log_pieces.specs.Pieces.{on_strand, text_at, acts_in, acts_of_piece, events_of_pieces}
pub use Rattle.log_pieces.specs.declared.piece.LogPiece.{LogPiece}
pub use Rattle.log_strands.proofs.Noted.{that_is}
pub use Rattle.log_strands.specs.Acts.{is_by, acts_by}
pub use Rattle.log_strands.specs.below.log_form.{Event, acts_on, events_of}
pub use Rattle.log_strands.specs.below.log_lines.{Act}
pub use Rattle.log_tasks.proofs.Acts.{acts_append, acts_there, acts_elsewhere}
pub use Rattle.log_tasks.proofs.Lines.{pieces_more}
pub use Rattle.log_tasks.specs.declared.tasks.LogTasks.{LogTasks}
pub use Rattle.log_walk.specs.Value.{WalkValue, IsWalked}
pub use Rattle.log_weights.specs.Known.{KnowsWork, work_known, or_none}
pub use Rattle.log_weights.specs.Sums.{fitting, plus}
pub use Rattle.log_weights.specs.Weights.{weight_of, weights_of, units_of, work_of}
pub use Rattle.log_weights.specs.declared.units.StrandWork.{StrandWork}
pub use Rattle.plain_vec.proofs.Places.{got_map}
pub use Rattle.run_span.specs.Reaches.{AreWeights, IsSpanOf}
pub use Rattle.std.proofs.Common.{◌≡◌, ◌<◌, ◌≤◌, ◌+◌, ◌^◌, ◌∙◌, ◌⊎◌, inl, inr, ℕ, Bool, true, false, sym, ap, Option, Some, None, nat_lt, arith, ◌++◌, ◌∷◌, List, [], length, get_or, take, subst, slice_get, refl, append-nil, slice_range, cond}
pub use Rattle.std.proofs.lemmas.Bool.{cases_lt}
pub use Rattle.std.proofs.lemmas.Bool.Decides.{nat_tests}
pub use Rattle.std.proofs.lemmas.List.{take_more, map-append}
pub use Rattle.std.proofs.lemmas.List.Sums.{sum-map, get_or-le-sum_by, sum_by-append, sum_by-cons}
pub use Rattle.std.specs.HashMap.{get}
pub use Rattle.std.specs.Prelude.{if◌then◌else◌, sum, codes, filter}
