-- The names of lower crates and of the specifications that these proofs use. Declares nothing.
pub use Rattle.quoted_text.specs.Balanced.{ScanState, Outside, Inside, read_outside, read_inside, read_byte, read_all, IsBalanced, is_plain, QuotedBalance, PlainBalance, JoinedBalance}
pub use Rattle.quoted_text.specs.Guarded.{guarded_byte, guarded, HasNoTag, GuardedHasNoTag}
pub use Rattle.quoted_text.specs.Quoted.{hex, escaped}
pub use Rattle.std.proofs.Common.{◌≡◌, ◌+◌, ◌/◌, ◌%◌, ◌==◌, ℕ, Bool, true, false, List, [], ◌∷◌, ◌++◌, refl, ap, ◌∙◌, arith, take}
pub use Rattle.std.specs.List.{flat_map}
pub use Rattle.std.specs.Prelude.{nat_lt}
