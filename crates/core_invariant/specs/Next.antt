-- The next instruction of a part, by its own frames and heap: the words that it allocates, and what it does if it isn't
-- private.
use Rattle.std.specs.Prelude.{ℕ, ◌+◌, ◌&&◌, ◌||◌, not, Bool, true, false, Option, Some, None, List, length, slice_get, is_some, if◌then◌else◌}
use Rattle.refinement_laws.specs.below.hh_lang.{Out}
use Rattle.core_invariant.specs.Common.{Instr, Newm, Pack, Calc, Getr, Geti, Putr, Puti, Cntr, Cnti, Freeze, Cas, Call, Par, Ret, Line, ProgramText, line_at, MachineState, Task, Div as DivTrap, Nil as NilTrap, Range, Frozen as FrozenTrap, Size as SizeTrap, Depth as DepthTrap, counts_in, place_in as place_in_count, words_for, fetched, has_no_caller, owns, touched, Addr, Cell, object_of, ChunkValue, CallFrame, int_of, ref_of, Private}
use Rattle.refinement_laws.specs.below.object_layout.{place_in}
use Rattle.core_invariant.specs.declared.next_step.Ending.{Ending}
use Rattle.core_invariant.specs.declared.next_step.Ending.TheVariants.{Prints, Returns, Traps, Beyond}

-- the words that an instruction allocates, if it allocates
abbrev pub instr_asks : ℕ → CallFrame → Instr → Option ℕ
instr_asks limit f (Newm d a b) = words_for (counts_in limit (int_of f a) (int_of f b))
instr_asks limit f (Pack d r i) = Some (2 + r + i)
instr_asks limit f _ = None

abbrev pub line_asks : ℕ → CallFrame → Option Line → Option ℕ
line_asks limit f None = None
line_asks limit f (Some line) = instr_asks limit f line.instr

abbrev pub next_line : ProgramText → Private → Option Line
next_line p part = line_at p part.frames.top.function part.frames.top.next

-- the words that the part's next step allocates, if it allocates
abbrev pub part_asks : ProgramText → Private → Option ℕ
part_asks p part = line_asks part.field_limit part.frames.top (next_line p part)

-- ---- WHAT A STEP DOES THAT ISN'T PRIVATE

-- the remaining cases for an own object in a register: nil traps, and another's object is beyond what a task does alone
abbrev pub on_own_cell : List ChunkValue → Option Addr → (Cell → Ending) → Ending
on_own_cell ks None go = Traps NilTrap
on_own_cell ks (Some a) go = if is_some (place_in ks a.chunk) then go (object_of ks a) else Beyond

abbrev pub on_own : Private → ℕ → (Cell → Ending) → Ending
on_own part o go = on_own_cell part.heap.chunks (ref_of part.frames.top o) go

-- a write traps if the field doesn't exist, otherwise because the object is immutable
abbrev pub unwritten : Option ℕ → Ending
unwritten None = Traps Range
unwritten (Some k) = Traps FrozenTrap

-- of an instruction that isn't a private step
abbrev pub ending : Private → Instr → Ending
ending part (Out a) = Prints (int_of part.frames.top a)
ending part Ret = Returns
ending part (Calc op d a b) = Traps DivTrap
ending part (Newm d a b) = Traps SizeTrap
ending part (Call g) = Traps DepthTrap
ending part (Getr d o k) = on_own part o (λ c. Traps Range)
ending part (Geti d o k) = on_own part o (λ c. Traps Range)
ending part (Putr o k v) = on_own part o (λ c. unwritten (place_in_count (length c.refs) (int_of part.frames.top k)))
ending part (Puti o k v) = on_own part o (λ c. unwritten (place_in_count (length c.ints) (int_of part.frames.top k)))
ending part (Cas d o k e v) = on_own part o (λ c. unwritten (place_in_count (length c.refs) (int_of part.frames.top k)))
ending part (Cntr d o) = on_own part o (λ c. Beyond)
ending part (Cnti d o) = on_own part o (λ c. Beyond)
ending part (Freeze o) = on_own part o (λ c. Beyond)
ending part _ = Beyond

-- ---- STEPS THAT INVOLVE OTHER TASKS

-- it forks, or is the last return of a task that isn't the root
abbrev pub is_joint : Task → Instr → Bool
is_joint x (Par g h) = true
is_joint x Ret = has_no_caller x.below && is_some x.parent
is_joint x _ = false

abbrev pub is_beyond_line : MachineState → ℕ → Task → Option Line → Bool
is_beyond_line m t x None = false
is_beyond_line m t x (Some line) = is_joint x line.instr || not (owns m.tasks t (touched x.top line.instr))

abbrev pub is_beyond_by : ProgramText → MachineState → ℕ → Option Task → Bool
is_beyond_by p m t None = false
is_beyond_by p m t (Some x) = is_beyond_line m t x (fetched p x.top)

-- the task's next step forks, ends a task that isn't the root, or works on an object that another task owns
abbrev pub is_beyond : ProgramText → MachineState → ℕ → Bool
is_beyond p m t = is_beyond_by p m t (slice_get m.tasks t)
