-- The names of lower crates and of the specifications that these proofs use. Declares nothing.
pub use Rattle.act_lines.specs.ActLines.{act_line}
pub use Rattle.act_lines.specs.declared.line.ActLine.{ActLine}
pub use Rattle.log_births.specs.declared.findings.Finding.{Finding}
pub use Rattle.log_births.specs.declared.findings.Findings.{Findings}
pub use Rattle.log_tasks.proofs.Ascending.{in_at, found_place, not_found}
pub use Rattle.log_told.specs.Table.{IsTable, IsToldRace, IsToldUse}
pub use Rattle.log_told.specs.Told.{lines_of_race, lines_of_finding, all_lines, told_use, told_race, told_line}
pub use Rattle.log_told.specs.declared.table.LineTable.{LineTable}
pub use Rattle.plain_vec.proofs.Members.{In, in_from_contains, contains_from_in, in_append_left, in_append_right, in_flat, got_in}
pub use Rattle.race_scan.specs.declared.cells.FoundRace.{FoundRace}
pub use Rattle.std.proofs.Common.{◌≡◌, ◌∙◌, ◌<◌, ◌≤◌, ◌+◌, ◌⊎◌, inl, inr, ℕ, List, [], ◌∷◌, ◌++◌, length, map, take, get_or, refl, ap, sym, subst, arith, Option, Some, None, Result, Ok, Err, nat_cmp, option_map, eqb}
pub use Rattle.std.proofs.lemmas.Bool.{cases_lt}
pub use Rattle.std.proofs.lemmas.List.{take_more, map-append, take_all}
pub use Rattle.std.proofs.lemmas.List.Filters.{dedup_is}
pub use Rattle.std.proofs.lemmas.List.Kept.{Contains-dedup_nat}
pub use Rattle.std.proofs.lemmas.List.Sorted.{searched, Contains-permutation}
pub use Rattle.std.proofs.lemmas.Map.Keys.{IsStrictlyIncreasing-dedup}
pub use Rattle.std.proofs.lemmas.Option.{slice_get-get_or, slice_get-map}
pub use Rattle.std.specs.List.{flat_map}
pub use Rattle.std.specs.List.Sorted.{IsStrictlyIncreasing, IsBinarySearchResult}
pub use Rattle.std.specs.Prelude.{Contains, All, slice_get}
