-- Steps that only calculate: they set a register of the top frame, or its next place.
use Rattle.std.specs.Prelude.{◌≡◌, ℕ, ℤ, zero, suc, pos, ◌+◌, Bool, true, false, Option, Some, None, IsSomeAnd, if◌then◌else◌, is_some}
use Rattle.task_machine.specs.Common.{Addr, same_reference, Instr, Set, Mov, Movr, Nil, Calc, Same, Jmp, Jz, Line, ProgramText, line_at, calculated, flag, int_eq, CallFrame, int_of, int_written, ref_of, ref_written}

-- the instruction only calculates: an operator does if it yields a number, so not if it divides by 0
abbrev pub is_calculation : CallFrame → Instr → Bool
is_calculation f (Set d k) = true
is_calculation f (Mov d a) = true
is_calculation f (Movr d a) = true
is_calculation f (Nil d) = true
is_calculation f (Calc op d a b) = is_some (calculated op (int_of f a) (int_of f b))
is_calculation f (Same d a b) = true
is_calculation f (Jmp to) = true
is_calculation f (Jz a to) = true
is_calculation f _ = false

abbrev pub calculates_line : CallFrame → Option Line → Bool
calculates_line f None = false
calculates_line f (Some line) = is_calculation f line.instr

-- the next instruction of a frame is a calculation
abbrev pub calculates_next : ProgramText → CallFrame → Bool
calculates_next p f = calculates_line f (line_at p f.function f.next)

-- a register gets a value, and the frame goes on with the next instruction
abbrev pub next_with_int : CallFrame → ℕ → ℤ → CallFrame
next_with_int f d x = record (int_written f d x) { next = f.next + 1 }

abbrev pub next_with_ref : CallFrame → ℕ → Option Addr → CallFrame
next_with_ref f d r = record (ref_written f d r) { next = f.next + 1 }

-- the same with the result of an operator; without a result the frame is unchanged
abbrev pub next_with_result : CallFrame → ℕ → Option ℤ → CallFrame
next_with_result f d None = f
next_with_result f d (Some x) = next_with_int f d x

-- the frame after a calculation; other instructions leave it unchanged
abbrev pub calculation : Instr → CallFrame → CallFrame
calculation (Set d k) f = next_with_int f d k
calculation (Mov d a) f = next_with_int f d (int_of f a)
calculation (Movr d a) f = next_with_ref f d (ref_of f a)
calculation (Nil d) f = next_with_ref f d None
calculation (Calc op d a b) f = next_with_result f d (calculated op (int_of f a) (int_of f b))
calculation (Same d a b) f = next_with_int f d (flag (same_reference (ref_of f a) (ref_of f b)))
calculation (Jmp to) f = record f { next = to }
calculation (Jz a to) f = record f { next = if int_eq (int_of f a) (pos 0) then to else f.next + 1 }
calculation _ f = f

-- the instruction only calculates, and turns the first frame into the second
abbrev pub CalculatesInFrame : Instr → CallFrame → CallFrame → Type 0
CalculatesInFrame i f g = (is_calculation f i ≡ true) × (g ≡ calculation i f)

-- the next calculation of a frame turns it into this one
abbrev pub FrameLeadsTo : ProgramText → CallFrame → CallFrame → Type 0
FrameLeadsTo p f g = IsSomeAnd (line_at p f.function f.next) (λ line. CalculatesInFrame line.instr f g)

-- n calculations in sequence turn the first frame into this one
abbrev pub FrameLeads : ProgramText → CallFrame → ℕ → CallFrame → Type 0
FrameLeads p f zero g = f ≡ g
FrameLeads p f (suc k) g = (h : CallFrame) × (FrameLeads p f k h) × (FrameLeadsTo p h g)
