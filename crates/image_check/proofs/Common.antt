-- The names of lower crates and of the specifications that these proofs use. Declares nothing.
pub use Rattle.hh_lang.proofs.Tests.{numeral_passes, passed_numeral}
pub use Rattle.hh_lang.specs.Number.{is_numeral}
pub use Rattle.image_check.specs.ImageFault.{has_wrong_place, is_misplaced, fault_from_line, after_lines, onto_count, object_count, lacks_parent, cause_on, is_astray, crosses, forgets, or_later_line, lines_fault, objects_in, Verifies, relation_to, is_apart, is_below, is_forgotten, owner_runs, is_end, breaks_form, cause_by, image_fault, image_too_long, is_crowded, object_cause_in, references_cause}
pub use Rattle.image_check.specs.ImageTable.{with_entry, found, has, with_new}
pub use Rattle.image_check.specs.Line.{line_meaning, number_below, references_in, with_front}
pub use Rattle.image_check.specs.Links.{TaskStandsAt, IsParentAt, AreLinksOf}
pub use Rattle.image_check.specs.Read.{rises, after_line, nothing_read, whole_of, most, with_line, with_lines, nothing_had, position_of, last_after}
pub use Rattle.image_check.specs.Sets.{is_among, with_item, same_field, same_birth}
pub use Rattle.image_check.specs.Sound.{ObjectsAreCounted, IsImageObjectAt, IsRemembered, AreClear, TasksAreRelated, LineSays, ReferenceIs, IsInRunning, LeadsSomewhere, KeepsToPath, IsSoundObject, all_read, HasSoundObjects, HasDistinctBirths, FaultlessIsSound}
pub use Rattle.image_check.specs.ImageTasks.{ImageTasks, image_parent, is_ancestor_of, LinksLead, IsProperAncestor, there_or_on, meets, IsRelated, Chunks, owner_in, owner_at, is_running, chunk_at, HasParent, parent_of_row}
pub use Rattle.image_check.specs.declared.cause.ImageCause.{ImageCause}
pub use Rattle.image_check.specs.declared.cause.ImageCause.TheVariants.{NoTask, Ref, Cross, Down, Line, Twice, Place, Running}
pub use Rattle.image_check.specs.declared.cause.ImageFault.{ImageFault}
pub use Rattle.image_check.specs.declared.line.ImageBirth.{ImageBirth}
pub use Rattle.image_check.specs.declared.line.ImageChunk.{ImageChunk}
pub use Rattle.image_check.specs.declared.line.ImageLine.{ImageLine}
pub use Rattle.image_check.specs.declared.line.ImageLine.TheVariants.{Nothing, Wrong, Title, OfTask, OfChunk, OfObject, OfRemembered, OfEnd}
pub use Rattle.image_check.specs.declared.line.ImageObject.{ImageObject}
pub use Rattle.image_check.specs.declared.line.ImageRemembered.{ImageRemembered}
pub use Rattle.image_check.specs.declared.line.ImageTask.{ImageTask}
pub use Rattle.image_check.specs.declared.read.ImagePosition.{ImagePosition}
pub use Rattle.image_check.specs.declared.read.Read.{Read}
pub use Rattle.image_check.specs.declared.tasks.Relation.TheVariants.{Own, Above, Below, Apart}
pub use Rattle.image_check.specs.declared.whole.Whole.{Whole}
pub use Rattle.indexmap.specs.IndexMap.{insert_entry}
pub use Rattle.jump_pointers.proofs.Lists.{up_same, up_depth, link_more, IsWithin}
pub use Rattle.jump_pointers.proofs.Walks.{ancestor_parent, first_link, link_first}
pub use Rattle.jump_pointers.specs.Lists.{depth_at, parent_of_link, up_from, IsUp, new_link}
pub use Rattle.jump_pointers.specs.declared.links.Link.{Link}
pub use Rattle.plain_vec.proofs.Members.{got_front, got_back, got_within}
pub use Rattle.plain_vec.proofs.Numbers.{below_next}
pub use Rattle.plain_vec.proofs.Options.{none_of}
pub use Rattle.plain_vec.proofs.Places.{got_some}
pub use Rattle.std.proofs.Common.{◌≡◌, ◌<◌, ◌≤◌, ◌+◌, ℕ, suc, true, false, List, [], ◌∷◌, length, refl, ap, sym, ◌∙◌, arith, inl, inr, ◌⊎◌, None, nat_eq, Bool, cond, ◌-◌, ◌==◌, zero, ◌++◌, get_or, subst, length-append, Bor, ◌^◌}
pub use Rattle.std.proofs.Math.Bool.{or-false, not-not}
pub use Rattle.std.proofs.lemmas.Bool.{not-false, eqb-true, or_cases, or_left, or_right, and_parts, or_parts, both_ways}
pub use Rattle.std.proofs.lemmas.List.Quantifiers.{position-Some}
pub use Rattle.std.proofs.lemmas.Option.{same_Some, slice_get-get_or, slice_get-map}
pub use Rattle.std.proofs.lemmas.Str.{is_utf8-from_IsUtf8}
pub use Rattle.std.specs.List.{list_any}
pub use Rattle.std.specs.Map.{keys_of}
pub use Rattle.std.specs.Option.{option_map}
pub use Rattle.std.specs.Prelude.{Option, Some, slice_get, is_some, position, MatchOption, ◌&&◌, ◌||◌, nat_lt, SomeIff, if◌then◌else◌, Result, Ok, Err, IfNone, IfOk, IsErr, IsOkAnd, MatchResult, not, nat_le}
pub use Rattle.std.specs.Str.Parse.{IsNumeral, digits_value}
pub use Rattle.text_lines.proofs.Last.{some_line}
pub use Rattle.text_lines.proofs.Utf8.{not_utf8}
pub use Rattle.text_lines.specs.Lines.{is_last, lines_of, most_bytes, words_of}
