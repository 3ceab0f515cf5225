-- The accounts of a task's steps: allocations, forks, ends and joins; and which steps are private, due or in need.
use Rattle.std.specs.Prelude.{ℕ, zero, suc, ◌+◌, ◌-◌, ◌==◌, ◌&&◌, ◌||◌, not, Bool, true, false, Option, Some, None, List, [], ◌∷◌, ◌++◌, slice_get, length, if◌then◌else◌, nat_le, is_none}
use Rattle.run_ledger.specs.Common.{is_empty, private_limit, SettingsValue, Instr, Getr, Geti, Putr, Puti, Cntr, Cnti, Freeze, Cas, Par, Ret, Out, Line, ProgramText, Name, Object, Frame, TaskStatus, Running, Waiting, Ended, Joined, Task, MachineState, object_at, row_of, ref_in, step, can_step, fetched, asked, owner_of, is_left, is_on_path}
use Rattle.path_laws.specs.below.hh_model.{End}
use Rattle.run_ledger.specs.declared.data.Ledger.{Ledger}
use Rattle.run_ledger.specs.declared.data.RunEnd.TheVariants.{Machine}
use Rattle.run_ledger.specs.Heaps.{heap_of, with_heap, within, with_allocation, lacks_room, fresh, forked_heap, merged, emptied, let_go}

-- WHAT A STEP CHANGES

-- the next step of the task t allocates n words: the name is held from then on
abbrev pub allocated_by : Ledger → ℕ → Option ℕ → Ledger
allocated_by l t None = l
allocated_by l t (Some w) = with_heap l t (λ h. with_allocation h (record { task = t; count = length (row_of (slice_get l.machine.store t)) }) w)

abbrev pub allocated_in : ProgramText → Ledger → ℕ → Ledger
allocated_in p l t = allocated_by l t (asked p l.machine t)

-- a fork: what is reachable within the parent's heap is recorded, and the children begin with empty heaps
abbrev pub at_fork : Ledger → ℕ → Ledger
at_fork l t = with_heap (record l { heaps = l.heaps ++ fresh ∷ fresh ∷ [] }) t (forked_heap (within l t))

-- the parent's heap gets all that its children's heaps hold: the left child's, and that of the next task, the right one
abbrev pub join_heaps : Ledger → ℕ → ℕ → Ledger
join_heaps l parent left =
    with_heap (with_heap (with_heap l parent (λ h. merged h (heap_of l left) (heap_of l (left + 1)))) left emptied) (left + 1) emptied

-- a join, made by the child t that ended last
abbrev pub at_join : Ledger → ℕ → Option ℕ → Ledger
at_join l t None = l
at_join l t (Some parent) = join_heaps l parent (if is_left t then t else t - 1)

-- the task t runs on, has forked, has ended before its sibling, or has joined its parent together with it
abbrev pub moved_on : Ledger → ℕ → Option ℕ → TaskStatus → Ledger
moved_on l t parent Running = l
moved_on l t parent Waiting = at_fork l t
moved_on l t parent (Ended k n) = with_heap l t let_go
moved_on l t parent Joined = at_join l t parent

abbrev pub moved_to : Ledger → ℕ → Option Task → Ledger
moved_to l t None = l
moved_to l t (Some x) = moved_on l t x.parent x.status

-- if the machine has ended, so has the run; otherwise the task is in one of these states
abbrev pub settled : Ledger → ℕ → Option End → Ledger
settled l t (Some e) = record l { end = Some (Machine e) }
settled l t None = moved_to l t (slice_get l.machine.tasks t)

-- the accounts after a step of t that took the machine to m
abbrev pub stepped_to : Ledger → ℕ → MachineState → Ledger
stepped_to l t m = settled (record l { machine = m; steps = l.steps + 1 }) t m.end

-- one step of a task, with its accounts
abbrev pub task_step : ProgramText → Ledger → ℕ → Ledger
task_step p l t =
    if can_step l.machine t
    then stepped_to (allocated_in p l t) t (step p l.machine t)
    else record l { steps = l.steps + 1 }

abbrev pub task_steps : ProgramText → Ledger → ℕ → ℕ → Ledger
task_steps p l t zero = l
task_steps p l t (suc k) = task_steps p (task_step p l t) t k

-- PRIVATE STEPS

-- the object that an instruction reads or writes: that of its object register
abbrev pub touched : Frame → Instr → Option Name
touched f (Getr d o k) = ref_in f o
touched f (Geti d o k) = ref_in f o
touched f (Putr o k v) = ref_in f o
touched f (Puti o k v) = ref_in f o
touched f (Cntr d o) = ref_in f o
touched f (Cnti d o) = ref_in f o
touched f (Freeze o) = ref_in f o
touched f (Cas d o k e v) = ref_in f o
touched f _ = None

abbrev pub has_no_caller : List Frame → Bool
has_no_caller fs = is_empty fs

-- an output, a fork and the return that ends the task
abbrev pub is_open : Task → Instr → Bool
is_open x (Out a) = true
is_open x (Par g h) = true
is_open x Ret = has_no_caller x.below
is_open x _ = false

-- the task owns the object, or there is none
abbrev pub owns : List Task → ℕ → Option Name → Bool
owns tasks t None = true
owns tasks t (Some n) = owner_of tasks n.task == t

-- it reads a field of its object, or the number of fields, and writes nothing
abbrev pub is_read : Instr → Bool
is_read (Getr d o k) = true
is_read (Geti d o k) = true
is_read (Cntr d o) = true
is_read (Cnti d o) = true
is_read _ = false

-- the object is there, and immutable
abbrev pub is_frozen : Option Object → Bool
is_frozen None = false
is_frozen (Some o) = not o.mutable

-- the task or an ancestor owns the object, and it is immutable
abbrev pub is_frozen_above : MachineState → ℕ → Option Name → Bool
is_frozen_above m t None = false
is_frozen_above m t (Some n) = is_on_path m.tasks (owner_of m.tasks n.task) t && is_frozen (object_at m.store n)

-- the object that an instruction reads or writes is the task's own, or there is none; or it reads an immutable object
-- of an ancestor
abbrev pub works_alone : MachineState → ℕ → Frame → Instr → Bool
works_alone m t f i = owns m.tasks t (touched f i) || (is_read i && is_frozen_above m t (touched f i))

abbrev pub is_private_line : ProgramText → MachineState → ℕ → Task → Option Line → Bool
is_private_line p m t x None = false
is_private_line p m t x (Some line) = not (is_open x line.instr) && (works_alone m t x.top line.instr && is_none (step p m t).end)

abbrev pub is_private_by : ProgramText → MachineState → ℕ → Option Task → Bool
is_private_by p m t None = false
is_private_by p m t (Some x) = is_private_line p m t x (fetched p x.top)

-- the next step of a running task is private: it is no output, no fork, no end of the task or of the run, and reads or
-- writes no object of another task, except that it may read an immutable object of an ancestor
abbrev pub is_private : ProgramText → MachineState → ℕ → Bool
is_private p m t = is_private_by p m t (slice_get m.tasks t)

-- DUE AND IN NEED

-- the next step allocates, and its words pass the test
abbrev pub on_asked : Option ℕ → (ℕ → Bool) → Bool
on_asked None test = false
on_asked (Some w) test = test w

-- the next step allocates, and a leaf collection is due
abbrev pub is_due : SettingsValue → ProgramText → Ledger → ℕ → Bool
is_due s p l t = on_asked (asked p l.machine t) (λ w. nat_le s.leaf (heap_of l t).since)

-- the next step allocates, and its object doesn't fit yet
abbrev pub is_in_need : ProgramText → Ledger → ℕ → Bool
is_in_need p l t = on_asked (asked p l.machine t) (lacks_room (heap_of l t))

-- THE STEPS OF ONE ENTRY

-- the most steps of one entry
abbrev pub most_steps : ℕ
most_steps = private_limit + 1

-- how many of the next k steps of a task fit in one entry, apart from its limit: those before the first that is due or
-- in need, up to the first that isn't private
abbrev pub standing : SettingsValue → ProgramText → Ledger → ℕ → ℕ → ℕ
standing s p l t zero = 0
standing s p l t (suc k) =
    if is_due s p l t || is_in_need p l t then 0
    else if is_private p l.machine t then suc (standing s p (task_step p l t) t k) else 1
