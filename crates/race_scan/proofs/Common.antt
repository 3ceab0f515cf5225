-- The names of lower crates and of the specifications that these proofs use. Declares nothing.
pub use Rattle.log_places.proofs.Blocks.{found_on, marked_whole, slot_each, slot_some, slots_are_counted, slots_differ}
pub use Rattle.log_places.proofs.Cutting.{marked_are_there}
pub use Rattle.log_places.proofs.Numbering.{slots_are_one}
pub use Rattle.log_places.specs.Blocks.{slots_of_block, SlotsDiffer}
pub use Rattle.log_places.specs.Counting.{AreMarked, IsAccessed}
pub use Rattle.log_places.specs.Numbers.{stretch_count, IsSlot}
pub use Rattle.log_places.specs.Places.{run_start, page_key, Covers, PlacesValue, IsRegionCut, KeepsCuts, IsRegion}
pub use Rattle.log_places.specs.declared.numbers.LocationSlot.{LocationSlot}
pub use Rattle.log_places.specs.declared.region.Region.{Region}
pub use Rattle.plain_vec.proofs.Members.{in_from_kept, In, any_from_in, in_from_any, in_kept, in_append_cases, in_append_left, in_append_right, got_same, got_other}
pub use Rattle.plain_vec.proofs.Options.{none_some}
pub use Rattle.plain_vec.proofs.Places.{all_from, read_in, map_in, in_map, in_read}
pub use Rattle.race_cells.proofs.Continuing.{scans_go_on}
pub use Rattle.race_cells.proofs.Exactness.{scan_is_exact}
pub use Rattle.race_cells.specs.CellAccess.{entry_of}
pub use Rattle.race_cells.specs.Laws.{AreStrandsInOrder, IsExact}
pub use Rattle.race_cells.specs.Order.{StrandOrder}
pub use Rattle.race_cells.specs.Scan.{after, no_stacks, race_among, race_at, reported, scanned}
pub use Rattle.race_cells.specs.declared.access.CellAccess.{CellAccess}
pub use Rattle.race_cells.specs.declared.access.CellAccessKind.TheVariants.{PlainRead}
pub use Rattle.race_cells.specs.declared.access.CellRace.{CellRace}
pub use Rattle.race_cells.specs.declared.stacks.Stacks.{Stacks}
pub use Rattle.race_scan.specs.Laws.{AreSerial, ScansAreExact, ReleasesWriteWhatIsAccessed}
pub use Rattle.race_scan.specs.Scan.{HasScanned, IsStretch, AreOnce}
pub use Rattle.race_scan.specs.Slots.{AreSlots, AreUpto}
pub use Rattle.race_scan.specs.Touches.{any_below, covers, is_in_run, accesses_at, is_accessed, plain_write, touch_of, touches_of_release, regions_of}
pub use Rattle.race_scan.specs.Value.{ScanValue, visited, race_of, found_race, with_race, visit_cell}
pub use Rattle.race_scan.specs.declared.cells.FoundRace.{FoundRace}
pub use Rattle.race_scan.specs.declared.touch.Touch.{Touch}
pub use Rattle.std.proofs.Common.{◌≡◌, ◌==◌, ◌||◌, ℕ, zero, suc, ◌+◌, ◌<◌, ◌≤◌, Bool, true, false, nat_le, nat_lt, refl, ap, subst, arith, inl, inr, eq-eqb, List, [], ◌∷◌, All, AllPairs, map, filter, sym, ◌*◌, ◌/◌, ◌%◌, Option, Some, None, ◌++◌, length, get_or, is_some, fold, ◌∙◌, append-nil, if◌then◌else◌, ◌-◌, min, replicate, slice_get, is_none, ◌⊎◌, take, slice_index_or, vec_capacity}
pub use Rattle.std.proofs.Math.Nat.{mul-le-mul_right}
pub use Rattle.std.proofs.lemmas.Bool.{cases_lt, and_parts, and_from, eqb-true, false≢true, leb-true, le-leb, ltb-true, lt-ltb, ne_eqb}
pub use Rattle.std.proofs.lemmas.List.{append_assoc, map-append, length-replicate, get_or-replicate, length-set, take_more, take_all}
pub use Rattle.std.proofs.lemmas.List.Elements.{filter-append}
pub use Rattle.std.proofs.lemmas.List.Kept.{AllPairs-cons, AllPairs-filter}
pub use Rattle.std.proofs.lemmas.Option.{same_Some, slice_get-get_or}
pub use Rattle.std.proofs.lemmas.Result.{IfOk-weaker, on_ok_weaker}
pub use Rattle.std.specs.Option.{option_or}
