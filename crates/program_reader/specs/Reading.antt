-- How far a text was read, and what a line adds: the states of the reader's own functions.
use Rattle.std.specs.Prelude.{ℕ, ◌+◌, ◌<◌, ◌^◌, Bool, true, false, Option, Some, None, List, [], ◌∷◌, ◌++◌, take, codes}
use Rattle.hh_lang.specs.declared.instr.Instr.TheVariants.{Ret}
use Rattle.program_reader.specs.declared.head.Head.{Head}
use Rattle.program_reader.specs.declared.head.Head.TheVariants.{Begin, End, Label, Order}
use Rattle.program_reader.specs.declared.sense.Sense.{Sense}
use Rattle.program_reader.specs.declared.sense.Sense.TheVariants.{Does}
use Rattle.program_reader.specs.declared.sense.Outline.{Outline}
use Rattle.program_reader.specs.declared.reader.Reader.{Reader}
use Rattle.program_reader.specs.Sense.{only_name, sense_of}
use Rattle.program_reader.specs.Around.{head_of_line, operands_of_line, no_labels, labels_onto}
use Rattle.program_reader.specs.Fault.{LineContext}
use Rattle.program_reader.specs.Program.{line_of, loops_from, function_number}
use Rattle.hh_lang.specs.declared.program.Fun.{Fun}
use Rattle.hh_lang.specs.Form.{ProgramText}

-- where the next line stands
abbrev pub spot_in : Outline → Reader → Bool → LineContext
spot_in o r last = record {
  inside = r.inside;
  last = last;
  named = take r.begun o.functions;
  begun = r.begun;
  orders = r.orders;
  labeled = take r.labeled r.labels.entries;
  labels = r.labels.entries;
}

abbrev pub after_begin : Reader → Option (List ℕ) → List (List ℕ) → Reader
after_begin r (Some name) below = record r { inside = true; begun = r.begun + 1; labeled = 0; labels = labels_onto no_labels below; name = name; code = [] }
after_begin r None below = r

abbrev pub after_end : Reader → ℕ → Reader
after_end r number = record r { inside = false; name = []; code = []; done = r.done ++ record { name = r.name; code = r.code ++ line_of Ret number ∷ [] } ∷ [] }

abbrev pub after_order : Reader → Sense → ℕ → Reader
after_order r (Does instr) number = record r { orders = r.orders + 1; code = r.code ++ line_of instr number ∷ [] }
after_order r _ number = r

-- adds a line without a fault
abbrev pub after_line : Reader → Head → List (List ℕ) → Sense → ℕ → List (List ℕ) → Reader
after_line r Begin ws sense number below = after_begin r (only_name ws) below
after_line r End ws sense number below = after_end r number
after_line r Label ws sense number below = record r { labeled = r.labeled + 1 }
after_line r (Order v) ws sense number below = after_order r sense number
after_line r _ ws sense number below = r

-- the same, by the line itself
abbrev pub line_taken : Outline → Reader → ℕ → List ℕ → List (List ℕ) → Reader
line_taken o r number line below = after_line r (head_of_line line) (operands_of_line line) (sense_of o r.labels.entries (head_of_line line) (operands_of_line line)) number below

-- the counts are those of a text, and fit in 32 bits
pub record IsCounted (r : Reader) : Type 0 where
  pub begun : r.begun < 2 ^ 31
  pub labeled : r.labeled < 2 ^ 31
  pub orders : r.orders < 2 ^ 31

-- before the first line
abbrev pub nothing_read : Reader
nothing_read = record { inside = false; begun = 0; labeled = 0; orders = 0; labels = no_labels; name = []; code = []; done = [] }

-- the program of these functions and those of the loops
abbrev pub program_in : Outline → List Fun → ProgramText
program_in o functions = record { functions = functions ++ loops_from o 0 o.loops; main = function_number o (codes "main") }
