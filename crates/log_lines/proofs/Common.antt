-- The names of lower crates and of the specifications that these proofs use. Declares nothing.
pub use Rattle.log_lines.specs.Grammar.{is_small, place_at, act_of_access, reference_of, line_of_words, line_of, checked_place, place_of_runs, place_of_run, place_of_length, act_of_birth, number_alone, below, task_alone, line_of_strand, name_behind, line_of_name, line_of_version, verb_of, act_by, line_by, line_behind, letter_is, letter_verb, long_verb}
pub use Rattle.log_lines.specs.Letters.{is_among, begins_with, letter_of_kind, letter_of, HasOneOf}
pub use Rattle.log_lines.specs.Limits.{IsLogNumber, IsLogPlace, IsSite, IsAccess, IsLogReference, IsAct, IsLine, access_limit, location_limit, place_end, task_limit, strand_limit}
pub use Rattle.log_lines.specs.Rest.{operands}
pub use Rattle.log_lines.specs.Words.{is_space, words_of, has_length, has_leading_zero, digits_number, numeral_value, is_site, site_at, has_word, ◌>>=◌, or_bad, number_at, nothing_left, goes_on}
pub use Rattle.log_lines.specs.Writing.{site_words, place_words, reference_words, access_word, act_words, line_words, line_bytes}
pub use Rattle.log_lines.specs.declared.cause.LogCause.{LogCause}
pub use Rattle.log_lines.specs.declared.line.Access.{Access}
pub use Rattle.log_lines.specs.declared.line.AccessKind.{AccessKind}
pub use Rattle.log_lines.specs.declared.line.Act.{Act}
pub use Rattle.log_lines.specs.declared.line.LogLine.{LogLine}
pub use Rattle.log_lines.specs.declared.line.LogPlace.{LogPlace}
pub use Rattle.log_lines.specs.declared.line.Reference.{Reference}
pub use Rattle.log_lines.specs.declared.verb.ActVerb.{ActVerb}
pub use Rattle.log_lines.specs.declared.verb.LogVerb.{LogVerb}
pub use Rattle.std.proofs.Common.{◌≡◌, ◌<◌, ◌≤◌, ◌+◌, ◌*◌, ◌^◌, ◌==◌, ℕ, zero, suc, Bool, true, false, not, List, [], ◌∷◌, ◌++◌, length, get_or, cond, arith, refl, ap, sym, ◌∙◌, Option, Some, None, Result, Ok, Err, nat_lt, nat_le, inl, inr, ◌-◌, take, drop, drop-cons, ◌⊎◌, IfOk, IfSome, subst}
pub use Rattle.std.proofs.Math.Nat.{mul_comm, le-mul_of_pos_right, pow-le-pow_right}
pub use Rattle.std.proofs.lemmas.Bool.{cases_lt, and_parts, cases_Bool}
pub use Rattle.std.proofs.lemmas.Bool.Decides.{nat_tests}
pub use Rattle.std.proofs.lemmas.Fmt.{decimal_is_IsNumeral, decimal_digit, decimal_nonempty, length-decimal-le, first_decimal}
pub use Rattle.std.proofs.lemmas.Grind.{pow_more}
pub use Rattle.std.proofs.lemmas.Int.Digits.{digits_value-lt}
pub use Rattle.std.proofs.lemmas.List.{drop_all, take_all, length-drop, length-take, get_or-take}
pub use Rattle.std.proofs.lemmas.List.Elements.{All-from_recursion}
pub use Rattle.std.proofs.lemmas.List.Splits.{slice_split_at, slice_split_none, slice_split_first}
pub use Rattle.std.specs.Char.{digit_value, is_ascii_digit}
pub use Rattle.std.specs.Fmt.{decimal}
pub use Rattle.std.specs.List.{All, AllByRecursion, slice_split, onto_first, position_or_len, join_with_byte}
pub use Rattle.std.specs.Prelude.{◌&&◌, ◌||◌, codes, slice_index}
pub use Rattle.std.specs.Str.{all_ascii_digits, bytes_eq}
pub use Rattle.std.specs.Str.Parse.{AllDigits, digits_value, digits_value_after}
pub use Rattle.text_lines.proofs.Runs.{split_last, position_at, position_end}
