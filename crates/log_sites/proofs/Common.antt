-- The names of lower crates and of the specifications that these proofs use. Declares nothing.
pub use Rattle.log_form.specs.Text.{all_but_last, lines_in}
pub use Rattle.log_lines.proofs.Letters.{letters_tell}
pub use Rattle.log_lines.specs.Grammar.{line_of}
pub use Rattle.log_lines.specs.Letters.{begins_with, HasOneOf}
pub use Rattle.log_lines.specs.declared.cause.LogCause.{LogCause}
pub use Rattle.log_lines.specs.declared.line.LogLine.{LogLine}
pub use Rattle.log_sites.specs.Names.{or_name, name_in, first_name, given, behind_space, name_of, site_name, site_of_said, site_in}
pub use Rattle.std.proofs.Common.{◌≡◌, ◌∙◌, ◌<◌, ◌+◌, ◌==◌, ℕ, suc, Bool, true, false, cond, List, [], ◌∷◌, ◌++◌, length, drop, drop-cons, add-one, get_or, refl, ap, sym, subst, Option, Some, None, Result, Ok, Err, IfOk, arith, nat_eq, Bor}
pub use Rattle.std.proofs.lemmas.Bool.Decides.{nat_tests}
pub use Rattle.std.proofs.lemmas.List.{drop_all}
pub use Rattle.std.specs.List.{flat_map}
pub use Rattle.std.specs.Prelude.{MatchOption, is_some, codes}
pub use Rattle.text_lines.proofs.Last.{some_line}
pub use Rattle.text_lines.specs.Lines.{is_last, lines_of}
