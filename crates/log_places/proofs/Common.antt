-- The names of lower crates and of the specifications that these proofs use. Declares nothing.
pub use Rattle.indexmap.specs.IndexSet.{insert_key}
pub use Rattle.log_places.specs.Blocks.{slots_of_page, slots_on, slots_of_block, next_page, SlotsDiffer, PagesAreInRange}
pub use Rattle.log_places.specs.Counting.{IsAccessed, IsEdge, HasEdge, AreCutAlong, AreMarked, AreDifferent, BeginsStretch, HaveStretches}
pub use Rattle.log_places.specs.Laws.{MarkedAreThere, StretchesAreWhole, NumbersAreDistinct, SlotsAreOne}
pub use Rattle.log_places.specs.Numbers.{firsts_from, stretch_count, stretches_before, IsSlot, IsStretchNumber, IsSlotAt}
pub use Rattle.log_places.specs.Places.{at, found, page_key, run_start, same_page, Covers, IsRegionCut, PlacesValue, IsFirstPage, IsRunCut, KeepsCuts, IsIn}
pub use Rattle.log_places.specs.Runs.{first_on, end_on, IsRunMarked}
pub use Rattle.log_places.specs.Stretches.{marked, Ascending, pieces, rest_from, AreWith, Has, AreCut, tiles, piece, is_gap}
pub use Rattle.log_places.specs.declared.numbers.LocationSlot.{LocationSlot}
pub use Rattle.log_places.specs.declared.page.PageKey.{PageKey}
pub use Rattle.log_places.specs.declared.region.Region.{Region}
pub use Rattle.log_places.specs.declared.stretch.Stretch.{Stretch}
pub use Rattle.plain_vec.proofs.Members.{in_append_left, in_append_right, in_append_cases, got_in, any_from_in, got_other, got_within}
pub use Rattle.plain_vec.proofs.Numbers.{below_next}
pub use Rattle.plain_vec.proofs.Options.{none_some, if_none}
pub use Rattle.plain_vec.proofs.Places.{in_got, in_map, map_in, got_set, got_some}
pub use Rattle.plain_vec.specs.Members.{In}
pub use Rattle.std.proofs.Common.{◌≡◌, ℕ, ◌+◌, ◌-◌, ◌*◌, ◌/◌, ◌<◌, ◌≤◌, ◌==◌, Bool, true, false, List, [], ◌∷◌, ◌++◌, min, ◌⊎◌, inl, inr, refl, ap, sym, subst, ◌∙◌, arith, zero, suc, cond, length, drop, get_or, slice_get, append-nil, Some, None, max, ◌%◌, map, Result, Ok, Err, OnOk, OnErr, Option, IfNone, ◌&&◌, nat_le, take, ◌||◌, not, set, ◌^◌, slice_set, IfSome, nat_lt, nat_eq}
pub use Rattle.std.proofs.lemmas.Bool.{cases_lt, eqb-true, eq-eqb, false≢true, le-leb, and_parts, and_from, ltb-true, lt-ltb, le-ltb, ltb-false, leb-true}
pub use Rattle.std.proofs.lemmas.List.{append_assoc, length-drop, length-append, length-map, take-append-drop, take_all, length-set}
pub use Rattle.std.proofs.lemmas.List.Sums.{sum_by-cons}
pub use Rattle.std.proofs.lemmas.Option.{same_Some, slice_get_within, get_or_from_slice_get, slice_get-get_or, IfSome_then}
pub use Rattle.std.proofs.lemmas.Result.{on_ok_weaker}
pub use Rattle.std.specs.HashMap.{get}
pub use Rattle.std.specs.List.{sum_by, list_any, position_or_len, prefix_len, position, insert}
