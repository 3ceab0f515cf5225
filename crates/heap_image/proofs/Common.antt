-- The names of lower crates and of the specifications that these proofs use. Declares nothing.
pub use Rattle.heap_image.specs.Form.{IsLong, HasFitParent, IsTaskForm, IsChunkForm, IsObjectForm, IsFieldForm, IsInForm}
pub use Rattle.heap_image.specs.ImageData.{TaskBefore, HasImageParent, ParentsLead, IsAbove, HasTask, IsRunning, ImageKeepsToPath, IsSoundPicture, RisesByPlace, ObjectBefore, ImageLeadsSomewhere, IsOwnedBy, ChunkBefore, LiesIn, picked_end, PickedDontOverlap, RememberedBefore, LiesInIdleChunk, IsDownField}
pub use Rattle.heap_image.specs.Text.{text_of, parent_word, reference_kind_word, title_words, task_words, chunk_words, head_words, object_words, field_words, end_words, line, task_line, object_line, reference_text, number_text, chunk_line, field_line}
pub use Rattle.heap_image.specs.Told.{object_said, SoundIsFaultless, as_read, SomePictureIsSound, PicturesAreRead}
pub use Rattle.heap_image.specs.declared.picture.ImageData.{ImageData}
pub use Rattle.heap_image.specs.declared.picture.Picked.{Picked}
pub use Rattle.hh_lang.proofs.Tests.{no_minus, numeral_passes, positive, unsigned}
pub use Rattle.hh_lang.specs.Number.{fits_i64, is_numeral, signed_number}
pub use Rattle.image_check.proofs.Entries.{found_put, found_beside, itself}
pub use Rattle.image_check.proofs.Members.{item_kept, item_added}
pub use Rattle.image_check.proofs.Numbers.{as_option}
pub use Rattle.image_check.proofs.Paths.{AreOrdered, met_ancestor, related}
pub use Rattle.image_check.specs.ImageFault.{cause_on, or_later_line, lines_fault, objects_in, is_astray, owner_runs, relation_to, is_apart, is_below, crosses, is_noted, is_forgotten, forgets, cause_by, is_misplaced, has_wrong_place, breaks_form, fault_from_line, after_lines, overlaps, is_crowded, lacks_parent, has_field, owner_is_above, object_cause, remembered_cause, object_cause_in}
pub use Rattle.image_check.specs.ImageTable.{found, has, with_entry, with_new}
pub use Rattle.image_check.specs.Line.{line_meaning, said_by_words, state_named, state_word, parent_named, is_rooted, most_chunk_words, is_chunk_size, is_kind, is_field_count, references_in, number_below, short_number, long_number}
pub use Rattle.image_check.specs.Links.{TaskStandsAt}
pub use Rattle.image_check.specs.Place.{chunk_number, offset}
pub use Rattle.image_check.specs.Read.{nothing_read, nothing_had, after_line, whole_of, most, with_line, rises, position_of, with_lines, position, extent_of}
pub use Rattle.image_check.specs.Sets.{is_among, same_field, same_birth, with_item}
pub use Rattle.image_check.specs.ImageTasks.{ImageTasks, parent_of_row, image_parent, is_ancestor_of, relation_of, runs, is_running, is_running_state, LinksLead, IsProperAncestor, owner_at, Chunks, chunk_at, owner_in}
pub use Rattle.image_check.specs.declared.cause.ImageCause.TheVariants.{Twice}
pub use Rattle.image_check.specs.declared.cause.ImageFault.{ImageFault}
pub use Rattle.image_check.specs.declared.line.ImageBirth.{ImageBirth}
pub use Rattle.image_check.specs.declared.line.ImageChunk.{ImageChunk}
pub use Rattle.image_check.specs.declared.line.ImageLine.{ImageLine}
pub use Rattle.image_check.specs.declared.line.ImageLine.TheVariants.{Nothing, Title, OfTask, OfChunk, OfRemembered, OfEnd, Wrong, OfObject}
pub use Rattle.image_check.specs.declared.line.ImageObject.{ImageObject}
pub use Rattle.image_check.specs.declared.line.ImageRemembered.{ImageRemembered}
pub use Rattle.image_check.specs.declared.line.ImageState.{ImageState}
pub use Rattle.image_check.specs.declared.line.ImageState.TheVariants.{Running, Waiting, Ended}
pub use Rattle.image_check.specs.declared.line.ImageTask.{ImageTask}
pub use Rattle.image_check.specs.declared.read.ImageExtent.{ImageExtent}
pub use Rattle.image_check.specs.declared.read.ImagePosition.{ImagePosition}
pub use Rattle.image_check.specs.declared.read.Read.{Read}
pub use Rattle.image_check.specs.declared.tasks.Relation.TheVariants.{Own, Above, Below}
pub use Rattle.image_check.specs.declared.whole.Whole.{Whole}
pub use Rattle.plain_vec.proofs.Members.{got_in, in_append_left, in_append_right, in_append_cases}
pub use Rattle.plain_vec.proofs.Numbers.{above_zero, not_zero}
pub use Rattle.plain_vec.proofs.Places.{in_got, map_got, got_map, in_map, got_middle, lines_more}
pub use Rattle.plain_vec.specs.Members.{In}
pub use Rattle.run_trace.proofs.TraceLine.{spaced_utf8}
pub use Rattle.run_trace.proofs.Words.{IsProper, AreProper, words_spaced, line_first, digits_are_plain}
pub use Rattle.run_trace.specs.Line.{spaced}
pub use Rattle.std.proofs.Common.{◌≡◌, ◌<◌, ℕ, zero, suc, Bool, true, false, List, refl, ap, sym, ◌∙◌, inl, inr, arith, ◌≤◌, ◌+◌, ◌-◌, ◌^◌, [], ◌∷◌, ◌++◌, length, map, subst, ◌%◌, ℤ, cond, append_assoc, append-nil, ◌⊎◌, take}
pub use Rattle.std.proofs.lemmas.Bool.{eq-eqb, eqb-true, or_left, or_right, and_parts, le-ltb, lt-ltb, ne_eqb}
pub use Rattle.std.proofs.lemmas.Fmt.{decimal_is_IsNumeral}
pub use Rattle.std.proofs.lemmas.Grind.{flat_map-append}
pub use Rattle.std.proofs.lemmas.List.{length-map}
pub use Rattle.std.proofs.lemmas.List.Folds.{flat_map-map}
pub use Rattle.std.proofs.lemmas.Option.{same_Some}
pub use Rattle.std.proofs.lemmas.Result.{IfOk-weaker}
pub use Rattle.std.proofs.lemmas.Str.{is_utf8-from_IsUtf8, IsUtf8-nil}
pub use Rattle.std.specs.Fmt.{decimal, signed_decimal}
pub use Rattle.std.specs.List.{list_any, flat_map}
pub use Rattle.std.specs.Prelude.{Option, Some, None, slice_get, is_some, nat_le, nat_eq, ◌==◌, ◌&&◌, ◌||◌, not, nat_lt, codes, Result, Ok, Err, OnOk, if◌then◌else◌, pos, negsuc}
pub use Rattle.std.specs.Result.{is_ok}
pub use Rattle.std.specs.Str.{bytes_eq}
pub use Rattle.std.specs.Str.Parse.{IsNumeral, digits_value}
pub use Rattle.text_lines.specs.Lines.{lines_of, most_bytes, is_last}
