-- The one entry of a part's fresh steps and its next one, which isn't private.
use Rattle.std.specs.Prelude.{◌≡◌, ℕ, Some, None}
use Rattle.entry_calls.specs.below.hh_lang.{Instr}
use Rattle.entry_calls.specs.below.task_machine.{Private}
use Rattle.entry_calls.specs.below.core_invariant.{SharedValue, WorkerPartFits, refused, next_line}
use Rattle.entry_calls.specs.below.step_commit.{alone_entry}

-- a worker holds the part, and its entry of the part's fresh steps and the next one isn't refused
pub record MayBeEntered (w : SharedValue) (p : Private) : Type 0 where
  pub worker : ℕ
  pub fits : WorkerPartFits w worker p
  pub free : refused w (alone_entry worker p) ≡ None

-- its next step has this instruction, on the line of this number in the text
abbrev pub HasNextLine : SharedValue → Private → Instr → ℕ → Type 0
HasNextLine w p instr number = next_line w.program p ≡ Some (record { instr = instr; number = number })
