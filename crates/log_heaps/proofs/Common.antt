-- The names of lower crates and of the specifications that these proofs use. Declares nothing.
pub use Rattle.log_births.proofs.Adding.{ascending_push}
pub use Rattle.log_births.proofs.Answering.{serial, is_told, seen_block, seen_strand, see, same_event, told_does, not_seen}
pub use Rattle.log_births.proofs.Going.{place_there, count_all}
pub use Rattle.log_births.proofs.Making.{places_are}
pub use Rattle.log_births.proofs.Parts.{part_of, count_more, part_first, part_rest}
pub use Rattle.log_births.proofs.Standing.{one_strand, at_done}
pub use Rattle.log_births.proofs.Whole.{precedes_by_position, back, scene_is, are_within, places_within}
pub use Rattle.log_births.proofs.below.ancestor_laws.{IsLine, attached_rooted, through, child_above, up_cases, one_parent, no_root_parent, no_self, rooted_above}
pub use Rattle.log_births.specs.Blocks.{born, released, used}
pub use Rattle.log_births.specs.Findings.{DoesToBlock}
pub use Rattle.log_births.specs.Found.{IsScene}
pub use Rattle.log_births.specs.Lines.{line_told, DoesToBlockAt, IsPart, KnowAll}
pub use Rattle.log_births.specs.below.ancestor_laws.{IsLowestCommon}
pub use Rattle.log_births.specs.below.fork_graph.{GraphStrand, GraphTurn, TaskTurns, strand, tasks_in, IsAncestor, StrandPrecedes, IsParent, IsForkJoin, Extent}
pub use Rattle.log_births.specs.declared.lines.BlockLines.{BlockLines}
pub use Rattle.log_births.specs.declared.lines.Lifetimes.{Lifetimes}
pub use Rattle.log_births.specs.declared.lines.LineAt.{LineAt}
pub use Rattle.log_heaps.specs.Acts.{stored, stored_into, words_born, referred}
pub use Rattle.log_heaps.specs.Heaps.{HasDepth, IsUnborn, IsInherited, HasHome, IsDownPointer, IsBirth, AreThose, CountsActs, IsDepthRow, StoresReference, AreHeaps, HeapsAreTooLarge, IsOfTask, IsNamedAlone, AreOwn}
pub use Rattle.log_heaps.specs.Homes.{IsHomeAfter, IsHomeBy, IsHomeAt, is_higher, foreign, foreign_by}
pub use Rattle.log_heaps.specs.Rows.{depth_row, blocks_at, at_depth, words_at, own_at, words_if}
pub use Rattle.log_heaps.specs.Sums.{row_if, sums_at, HasSums, AreAbove, IsTooManyAt, added}
pub use Rattle.log_heaps.specs.Tally.{IsDownBy, IsDownIf, IsBirthAt, counted, IsBelow, AreTakenAt, HasFew, AreTallied, is_shared, IsToldOf, shared_after, NamesForeign, AreSharedBelow, AreTaken}
pub use Rattle.log_heaps.specs.declared.births.BlockBirth.{BlockBirth}
pub use Rattle.log_heaps.specs.declared.error.HeapsError.{HeapsError}
pub use Rattle.log_heaps.specs.declared.error.HeapsError.TheVariants.{TooLong, TooManyWords, NoMemory}
pub use Rattle.log_heaps.specs.declared.rows.DepthSums.{DepthSums}
pub use Rattle.log_heaps.specs.declared.shared.SharedBlocks.{SharedBlocks}
pub use Rattle.log_heaps.specs.declared.tally.Tally.{Tally}
pub use Rattle.log_pieces.specs.Pieces.{text_at, acts_in, events_of_pieces}
pub use Rattle.log_pieces.specs.declared.piece.LogPiece.{LogPiece}
pub use Rattle.log_report.specs.declared.heaps.HeapDepth.{HeapDepth}
pub use Rattle.log_report.specs.declared.heaps.LogHeaps.{LogHeaps}
pub use Rattle.log_strands.proofs.Counted.{no_more}
pub use Rattle.log_strands.specs.Places.{StrandStandsAt, IsPlaceOf, ArePiecePlaces, StandsNowhere}
pub use Rattle.log_strands.specs.below.log_form.{Event, event, events_of, log_fault}
pub use Rattle.log_strands.specs.below.log_lines.{Act}
pub use Rattle.log_tasks.specs.Log.{IsLog}
pub use Rattle.log_tasks.specs.Numbers.{log_strand}
pub use Rattle.log_tasks.specs.declared.tasks.LogTasks.{LogTasks}
pub use Rattle.log_walk.specs.Meetings.{IsDepthAt}
pub use Rattle.log_walk.specs.Tables.{task_at}
pub use Rattle.log_walk.specs.Value.{WalkValue, IsWalked}
pub use Rattle.plain_vec.proofs.Members.{got_same, got_other, got_in, in_append_left, in_append_right, in_append_cases}
pub use Rattle.plain_vec.proofs.Numbers.{below_next}
pub use Rattle.plain_vec.proofs.Places.{got_some, map_got}
pub use Rattle.plain_vec.specs.Members.{In}
pub use Rattle.plain_vec.specs.Options.{option_is}
pub use Rattle.std.proofs.Common.{◌≡◌, ◌<◌, ◌∙◌, ◌⊎◌, inl, inr, ℕ, Bool, true, false, List, refl, sym, ap, subst, arith, Option, Some, None, slice_get, length, ◌+◌, ◌++◌, ◌∷◌, [], ◌≤◌, get_or, zero, suc, take, slice_range, ◌^◌, ◌≢◌, map, append-nil}
pub use Rattle.std.proofs.lemmas.Bool.{or_cases, cases_eq, not-true}
pub use Rattle.std.proofs.lemmas.Bool.Decides.{nat_tests}
pub use Rattle.std.proofs.lemmas.List.{length_push, map-append, length-set}
pub use Rattle.std.proofs.lemmas.List.Sums.{sum_by_more, sum_by_more_le, sum_by-cons, sum_by-take-le}
pub use Rattle.std.proofs.lemmas.Option.{same_Some, get_or_from_slice_get, slice_get-get_or, slice_get_within}
pub use Rattle.std.proofs.lemmas.Result.{IfOk-weaker, IfErr-weaker, on_ok_weaker}
pub use Rattle.std.specs.List.Sorted.{IsStrictlyIncreasing}
pub use Rattle.std.specs.Prelude.{nat_lt, ◌==◌, option_to_list, if◌then◌else◌, is_some, not, ◌||◌, sum_by, slice_set}
