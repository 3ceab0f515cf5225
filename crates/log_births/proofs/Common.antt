-- The names of lower crates and of the specifications that these proofs use. Declares nothing.
pub use Rattle.ancestor_laws.proofs.Serial.{serial_order_extends, levels_are_few}
pub use Rattle.ancestor_laws.proofs.Walks.{both}
pub use Rattle.ancestor_laws.specs.Serial.{IsSerialOrder}
pub use Rattle.fork_graph.specs.Graph.{tasks_in, strand, StrandPrecedes}
pub use Rattle.fork_graph.specs.declared.fault.Extent.{Extent}
pub use Rattle.fork_graph.specs.declared.graph.GraphStrand.{GraphStrand}
pub use Rattle.fork_graph.specs.declared.graph.GraphTurn.{GraphTurn}
pub use Rattle.log_births.specs.Blocks.{born, released, is_lifetime, yielded, used}
pub use Rattle.log_births.specs.Checks.{IsFindingAt, IsAdded, AreBothWithin, PrecedesAt, IsEarly, IsLate, AreAdded}
pub use Rattle.log_births.specs.Findings.{DoesToBlock, AreFindings, IsEntangled, IsEntangledRead, IsEntangledUse, IsStaleUse, AreJust}
pub use Rattle.log_births.specs.Found.{IsDoneOnce, AreJustBelow, IsScene, AreFoundBelow}
pub use Rattle.log_births.specs.Laws.{UsesTellReads}
pub use Rattle.log_births.specs.Lines.{line_told, DoesToBlockAt, IsLineOf, Know, IsPart, KnowAll, birth_noted}
pub use Rattle.log_births.specs.declared.findings.Finding.{Finding}
pub use Rattle.log_births.specs.declared.findings.Findings.{Findings}
pub use Rattle.log_births.specs.declared.lines.BlockLines.{BlockLines}
pub use Rattle.log_births.specs.declared.lines.Lifetimes.{Lifetimes}
pub use Rattle.log_births.specs.declared.lines.LineAt.{LineAt}
pub use Rattle.log_pieces.specs.Pieces.{text_at, acts_in, events_of_pieces, on_strand, acts_of_piece, events_in}
pub use Rattle.log_pieces.specs.declared.piece.LogPiece.{LogPiece}
pub use Rattle.log_strands.proofs.Counted.{no_more}
pub use Rattle.log_strands.specs.Acts.{is_by, acts_by}
pub use Rattle.log_strands.specs.Places.{StrandStandsAt, StandsNowhere, IsPlaceOf, ArePiecePlaces, is_up_to, is_known}
pub use Rattle.log_strands.specs.below.log_form.{events_of, log_fault, bears, releases, Event, event}
pub use Rattle.log_strands.specs.below.log_lines.{is_among, letter_of_kind, AccessKind, Act, Access, Yield, Store, Birth, Release, Work, Spawn, Join, Finish}
pub use Rattle.log_tasks.proofs.Accepted.{born_once, released_once}
pub use Rattle.log_tasks.proofs.Ascending.{one_place}
pub use Rattle.log_tasks.proofs.Lines.{pieces_more}
pub use Rattle.log_tasks.specs.Log.{IsLog}
pub use Rattle.log_tasks.specs.Numbers.{log_strand}
pub use Rattle.log_tasks.specs.Rows.{known_of}
pub use Rattle.log_tasks.specs.Told.{is_told}
pub use Rattle.log_tasks.specs.declared.tasks.LogTasks.{LogTasks}
pub use Rattle.log_walk.specs.Tables.{strand_at}
pub use Rattle.log_walk.specs.Value.{WalkValue, IsWalked}
pub use Rattle.plain_vec.proofs.Members.{got_in, any_from_in, in_append_left, in_append_right, in_append_cases}
pub use Rattle.plain_vec.proofs.Numbers.{below_next}
pub use Rattle.plain_vec.proofs.Places.{got_some, map_got, got_middle}
pub use Rattle.plain_vec.specs.Members.{In}
pub use Rattle.plain_vec.specs.Options.{option_is}
pub use Rattle.std.proofs.Common.{◌≡◌, ℕ, true, List, Option, Some, None, arith, ◌<◌, ◌≤◌, ◌+◌, ◌++◌, ◌∷◌, ◌∙◌, ◌⊎◌, inl, inr, [], length, get_or, map, refl, sym, ap, subst, append-nil, ◌↔◌, slice_get, take, slice_range, Bool, false, drop, append_assoc, ◌≢◌, cond, ap₂, Bor}
pub use Rattle.std.proofs.Math.Bool.{or-true}
pub use Rattle.std.proofs.lemmas.Bool.{cases_lt}
pub use Rattle.std.proofs.lemmas.Bool.Decides.{nat_tests}
pub use Rattle.std.proofs.lemmas.Grind.{flat_map-append}
pub use Rattle.std.proofs.lemmas.List.Folds.{list_any-append}
pub use Rattle.std.proofs.lemmas.List.{map-append, length-append, get_or_append_left, get_or_push, take_all, take-append-drop, drop_more, length_push, length-map}
pub use Rattle.std.proofs.lemmas.Option.{same_Some, get_or_from_slice_get, slice_get_within, slice_get-get_or}
pub use Rattle.std.specs.List.Sorted.{IsStrictlyIncreasing}
pub use Rattle.std.specs.List.{list_any}
pub use Rattle.std.specs.Prelude.{option_to_list, IfSome, if◌then◌else◌, ◌||◌, codes, filter, is_some, MatchOption}
