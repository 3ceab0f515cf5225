-- Steps that only calculate: they set a register of the task's frame or its next place.
use Rattle.std.specs.Prelude.{◌≡◌, ℕ, zero, suc, ◌&&◌, Bool, true, false, Option, Some, None, List, IsSomeAnd, is_some, slice_get}
use Rattle.hh_model.specs.Common.{Instr, Set, Mov, Movr, Nil, Calc, Same, Jmp, Jz, Line, ProgramText}
use Rattle.hh_model.specs.declared.data.Frame.{Frame}
use Rattle.hh_model.specs.declared.data.Object.{Object}
use Rattle.hh_model.specs.declared.data.Task.{Task}
use Rattle.hh_model.specs.declared.data.MachineState.{MachineState}
use Rattle.hh_model.specs.Effect.{Goes, StepContext, calculated, effect, int_in}
use Rattle.hh_model.specs.Machine.{MachineValue, advanced}
use Rattle.hh_model.specs.Step.{can_step, fetched}

-- the instruction sets a register of its frame or its next place: an operator only if it yields a number, so not when
-- it divides by 0
abbrev pub is_calculation : Frame → Instr → Bool
is_calculation f (Set d k) = true
is_calculation f (Mov d a) = true
is_calculation f (Movr d a) = true
is_calculation f (Nil d) = true
is_calculation f (Calc op d a b) = is_some (calculated op (int_in f a) (int_in f b))
is_calculation f (Same d a b) = true
is_calculation f (Jmp to) = true
is_calculation f (Jz a to) = true
is_calculation f _ = false

abbrev pub calculates_line : Frame → Option Line → Bool
calculates_line f None = false
calculates_line f (Some line) = is_calculation f line.instr

-- the next instruction of a frame is a calculation
abbrev pub calculates_next : ProgramText → Frame → Bool
calculates_next p f = calculates_line f (fetched p f)

abbrev pub calculates_by : ProgramText → Option Task → Bool
calculates_by p None = false
calculates_by p (Some x) = calculates_next p x.top

-- a task can take a step, and it is a calculation
abbrev pub calculates : ProgramText → MachineState → ℕ → Bool
calculates p m t = can_step m t && calculates_by p (slice_get m.tasks t)

-- the instruction turns the first frame into the second, and leaves the store unchanged
abbrev pub Calculates : Instr → Frame → Frame → Type 0
Calculates i f g = (s : StepContext) (store : List (List Object)) → effect s f store i ≡ Goes g store

-- the next calculation of a frame turns it into this one
abbrev pub LeadsTo : ProgramText → Frame → Frame → Type 0
LeadsTo p f g = IsSomeAnd (fetched p f) (λ line. (is_calculation f line.instr ≡ true) × Calculates line.instr f g)

-- n calculations in sequence turn the first frame into this one
abbrev pub Leads : ProgramText → Frame → ℕ → Frame → Type 0
Leads p f zero g = f ≡ g
Leads p f (suc k) g = (h : Frame) × (Leads p f k h) × (LeadsTo p h g)

-- after n steps of a task
abbrev pub advanced_by : MachineValue → ℕ → ℕ → MachineValue
advanced_by g t zero = g
advanced_by g t (suc k) = advanced (advanced_by g t k) t
