-- The names of lower crates and of the specifications that these proofs use. Declares nothing.
pub use Rattle.clap.proofs.WalkLemmas.{first_value-rows}
pub use Rattle.clap.specs.Kinds.{IsAmong, Kinds, HasKind}
pub use Rattle.clap.specs.Walk.{is_empty}
pub use Rattle.clap.specs.Words.{Text, fault_of, matches_of, is_simple, is_simple_and_free, App, HasMatchesOf, found_of, rows_of}
pub use Rattle.clap.specs.declared.error.kind.ErrorKind.{ErrorKind}
pub use Rattle.command_line.proofs.Taken.{among}
pub use Rattle.std.proofs.Common.{◌≡◌, ◌<◌, ◌+◌, ℕ, suc, Bool, cond, List, ◌∷◌, length, drop, get_or, map, arith, ap, ap₂, sym, ◌∙◌, codes, ◌⊎◌, true, refl, [], None, inl, inr, string_bytes, Global, false, subst}
pub use Rattle.std.proofs.Math.Seq.{drop-cons}
pub use Rattle.std.proofs.lemmas.List.{take-map, drop-map, take_rest}
pub use Rattle.std.proofs.lemmas.Result.{IfOk-weaker}
pub use Rattle.std.specs.Prelude.{Option, Some}
pub use Rattle.std.specs.Str.{bytes_eq}
pub use Rattle.view_arguments.specs.App.{heaps_app}
pub use Rattle.view_arguments.specs.PageLine.{title_from, page_by, titled, title_at}
pub use Rattle.view_arguments.specs.ViewLine.{heaps_in, heaps_line, named_line}
