-- The loops of a text.
use Rattle.std.specs.Prelude.{◌≡◌, ℕ, true, Some, None, List}
use Rattle.hh_lang.specs.declared.instr.Instr.TheVariants.{Call}
use Rattle.hh_lang.specs.Loop.{Loop, IsLoop}
use Rattle.program_reader.specs.declared.sense.Sense.TheVariants.{Does}
use Rattle.program_reader.specs.Names.{is_name, name_index}
use Rattle.program_reader.specs.Sense.{loop_over}
use Rattle.program_reader.specs.Around.{outline_of}
use Rattle.program_reader.specs.Fault.{first_fault}
use Rattle.program_reader.specs.Program.{program_of}

-- the loop over the function of this name: `pfor` with the name calls a function of the program that implements it
pub record IsLoopOver (text name : List ℕ) (loop : Loop) : Type 0 where
  pub instr : loop_over (outline_of text) name ≡ Does (Call loop.whole)
  pub body : name_index (outline_of text).functions name ≡ Some loop.body
  pub runs : IsLoop (program_of text) loop

-- LOOPS ARE READ: in every text without a fault, for each name that occurs after a `fn` and after a `pfor`
abbrev pub LoopsAreRead : Type 0
LoopsAreRead =
    (text name : List ℕ) (f k : ℕ) → first_fault text ≡ None → is_name name ≡ true
    → name_index (outline_of text).functions name ≡ Some f → name_index (outline_of text).loops name ≡ Some k
    → (loop : Loop) × IsLoopOver text name loop
