-- The names of lower crates and of the specifications that these proofs use. Declares nothing.
pub use Rattle.plain_vec.proofs.Members.{in_append_left, in_append_right, in_append_cases}
pub use Rattle.plain_vec.specs.Members.{In}
pub use Rattle.race_cells.specs.CellAccess.{access_of, clash, entry_of, race_of}
pub use Rattle.race_cells.specs.Laws.{ScansGoOn, AreStrandsInOrder, IsExact, IsExactNext, IsFirstRace, RaceFree, Races, ScanIsExact, StacksAreWithin, StacksAreLow}
pub use Rattle.race_cells.specs.Order.{StrandOrder, ExtendsPrecedence, MeetsAsInTree}
pub use Rattle.race_cells.specs.Scan.{after, keep, no_stacks, race_among, race_at, reported_from, kept_by, scanned, stack_of, race_in}
pub use Rattle.race_cells.specs.AccessStack.{settled, is_low, last_to_leave, lowered, lowered_stack, without_earlier, topmost_pair, lowest_unordered}
pub use Rattle.race_cells.specs.declared.access.CellAccess.{CellAccess}
pub use Rattle.race_cells.specs.declared.access.CellAccessKind.{CellAccessKind}
pub use Rattle.race_cells.specs.declared.access.CellAccessKind.TheVariants.{PlainRead, PlainWrite, AtomicRead, AtomicWrite}
pub use Rattle.race_cells.specs.declared.access.CellEntry.{CellEntry}
pub use Rattle.race_cells.specs.declared.access.CellRace.{CellRace}
pub use Rattle.race_cells.specs.declared.stacks.Stacks.{Stacks}
pub use Rattle.std.proofs.Common.{◌≡◌, true, cond, Option, Some, None, is_none, is_some, List, [], ◌∷◌, ◌++◌, fold, refl, ap, ◌∙◌, ℕ, zero, suc, ◌<◌, ◌≤◌, false, All, AllPairs, ◌⊎◌, inl, inr, sym, subst, arith, ◌+◌, Bool, length, ◌-◌, take, reverse, not, drop, vec_len, vec_capacity}
pub use Rattle.std.proofs.Math.Seq.{take-append_seam}
pub use Rattle.std.proofs.lemmas.Bool.{false≢true, false_from_ne_true, leb-false, not-true, not-false, leb-true}
pub use Rattle.std.proofs.lemmas.List.{append-nil, append_assoc, reverse-append, reverse-reverse, length-append, length-take}
pub use Rattle.std.proofs.lemmas.List.Elements.{All-head, All-tail}
pub use Rattle.std.proofs.lemmas.Option.{same_Some, some_pair_parts}
pub use Rattle.std.specs.List.{find}
pub use Rattle.std.specs.Option.{option_or, option_map}
