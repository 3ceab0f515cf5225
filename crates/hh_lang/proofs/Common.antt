-- The names of lower crates and of the specifications that these proofs use. Declares nothing.
pub use Rattle.hh_lang.specs.Form.{EndsWithReturn, IsReturn, IsFunction, NamesExist}
pub use Rattle.hh_lang.specs.Number.{IsNumber, digits_of, decimal_value, are_digits, is_numeral, fits_i64, signed_number}
pub use Rattle.hh_lang.specs.declared.instr.Instr.{Instr}
pub use Rattle.hh_lang.specs.declared.program.Fun.{Fun}
pub use Rattle.hh_lang.specs.declared.program.Line.{Line}
pub use Rattle.std.proofs.Common.{◌≡◌, ◌<◌, ℕ, Bool, true, false, List, [], ◌∷◌, cond, arith, refl, subst, map, suc, ◌-◌, Option, Some, None, length, slice_get, IsSomeAnd, ◌↔◌, ap, sym, ◌∙◌, ◌^◌, slice_index_or, codes}
pub use Rattle.std.proofs.lemmas.Bool.{and_parts}
pub use Rattle.std.proofs.lemmas.Option.{slice_get-get_or, slice_get_past}
pub use Rattle.std.proofs.lemmas.Slice.Eq.{bytes_eq-Decides}
pub use Rattle.std.proofs.lemmas.Str.{IsUtf8-append, IsUtf8-encode, IsUtf8-nil, encode_ascii}
pub use Rattle.std.specs.Char.{digit_value, IsScalar}
pub use Rattle.std.specs.Int.{w64}
pub use Rattle.std.specs.Prelude.{◌==◌, ℤ, pos, negsuc, ◌&&◌, nat_lt, SomeIff, FitsSigned}
pub use Rattle.std.specs.Str.{IsUtf8}
pub use Rattle.std.specs.Str.Parse.{AllDigits, IsNumeral, digits_value, starts_with_minus}
