-- The names of lower crates and of the specifications that these proofs use. Declares nothing.
pub use Rattle.std.proofs.Common.{◌≡◌, ◌==◌, ℕ, Bool, true, false, List, [], ◌∷◌, cond, refl, ◌<◌, ◌≤◌, ◌+◌, ◌-◌, zero, suc, length, take, drop, filter, get_or, arith, ap, sym, ◌∙◌, ◌⊎◌, inl, inr}
pub use Rattle.std.proofs.lemmas.Bool.{cases_lt, cases_Bool}
pub use Rattle.std.proofs.lemmas.List.{take_all, drop_all, length-drop}
pub use Rattle.std.proofs.lemmas.List.Splits.{slice_split_first, slice_split_none}
pub use Rattle.std.proofs.lemmas.List.Sums.{fails_before_first, position_or_len_is}
pub use Rattle.std.proofs.lemmas.Str.{IsUtf8-from_is_utf8}
pub use Rattle.std.specs.List.{onto_first, slice_split, position_or_len, All}
pub use Rattle.std.specs.Str.{IsUtf8, is_utf8}
pub use Rattle.text_lines.specs.Lines.{is_last, lines_of, is_blank, is_word, runs_of}
