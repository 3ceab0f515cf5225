-- The names of lower crates and of the specifications that these proofs use. Declares nothing.
pub use Rattle.fault_lines.specs.Expected.{expected}
pub use Rattle.fault_lines.specs.Json.{near_piece, fault_piece, further_piece, pieces, near_members, fault_value, array_text, faults_json}
pub use Rattle.fault_lines.specs.Text.{fault_line}
pub use Rattle.json_text.specs.Json.{Number, Word, first_member, more_member, Json, json, values, more_values, more_members}
pub use Rattle.program_reader.specs.Cause.{text_of_cause}
pub use Rattle.quoted_text.specs.Quoted.{quoted}
pub use Rattle.std.proofs.Common.{◌≡◌, ◌<◌, ◌≤◌, ◌+◌, ◌++◌, ◌∷◌, [], ℕ, List, length, take, drop, get_or, arith, refl, ap, sym, ◌∙◌, append_assoc, map, append-nil}
pub use Rattle.std.proofs.lemmas.List.{flat_map_more, take_more, take_all, length-drop}
pub use Rattle.std.proofs.lemmas.Result.{IfOk-weaker, on_ok_weaker}
pub use Rattle.std.specs.Fmt.{decimal}
pub use Rattle.std.specs.List.{flat_map}
pub use Rattle.std.specs.Prelude.{codes, Option, Some, None}
pub use Rattle.text_faults.specs.Faults.{cause_of_wrong}
pub use Rattle.text_faults.specs.declared.fault.Fault.{Fault}
