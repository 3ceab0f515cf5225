-- Laws of a program's instructions: there is always a next one, and a `pack` takes few registers.
use Rattle.std.specs.Prelude.{◌≡◌, ℕ, ◌≤◌, List, ◌∷◌, Some, slice_get, Contains}
use Rattle.hh_model.specs.Common.{Pack, Line, ProgramText, IsProgram, line_at}
use Rattle.hh_model.specs.declared.data.Frame.{Frame}
use Rattle.hh_model.specs.declared.data.Task.{Task}
use Rattle.hh_model.specs.Step.{fetched, run}

-- there is an instruction at the frame's place
abbrev pub HasNext : ProgramText → Frame → Type 0
HasNext p f = (line : Line) × (fetched p f ≡ Some line)

-- in every run of a program, each frame of each task has a next instruction; for a task that has ended it is the return
-- that ended it. So a step never fails for lack of an instruction
abbrev pub AlwaysNext : Type 0
AlwaysNext =
    (p : ProgramText) (limit : ℕ) (ts : List ℕ) (t : ℕ) (x : Task) (f : Frame)
    → IsProgram p → slice_get (run p limit ts).tasks t ≡ Some x → Contains (x.top ∷ x.below) f → HasNext p f

-- a `pack` of a program takes at most 16 registers of each kind
abbrev pub PacksAreFew : Type 0
PacksAreFew =
    (p : ProgramText) → IsProgram p → (g n : ℕ) (line : Line) (d r i : ℕ) → line_at p g n ≡ Some line → line.instr ≡ Pack d r i → (r ≤ 16) × (i ≤ 16)
