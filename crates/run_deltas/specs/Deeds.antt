-- What a step does to an object, or prints.
use Rattle.std.specs.Prelude.{ℕ, ℤ, pos, ◌+◌, ◌==◌, Option, Some, None, List, slice_get, length, if◌then◌else◌, unwrap_or}
use Rattle.std.specs.Option.{option_flatten}
use Rattle.run_deltas.specs.Common.{Instr, Newm, Pack, Getr, Geti, Putr, Puti, Cntr, Cnti, Freeze, Cas, Out, Line, ProgramText, Name, Object, Frame, Task, MachineState, object_at, int_in, ref_in, counts_in, place_in, same_name, next_name, can_step, fetched, owner_of}
use Rattle.run_deltas.specs.declared.data.Value.TheVariants.{Reference, Number}
use Rattle.run_deltas.specs.declared.data.Deed.{Deed}
use Rattle.run_deltas.specs.declared.data.Deed.TheVariants.{Allocates, Reads, Counts, Writes, Swaps, Freezes, Prints}
use Rattle.run_deltas.specs.declared.data.StepAct.{StepAct}
use Rattle.run_deltas.specs.declared.data.StepDeed.{StepDeed}

-- goes on with what is there
abbrev pub if_there : {A B : Type 0} → Option A → (A → Option B) → Option B
if_there None go = None
if_there (Some x) go = go x

-- the object of a reference register
abbrev pub deed_on_object : Frame → List (List Object) → ℕ → (Name → Object → Option Deed) → Option Deed
deed_on_object f store o go = if_there (ref_in f o) (λ n. if_there (object_at store n) (go n))

-- and a reference field, or a number field, of it: where the index register says
abbrev pub with_reference : Frame → List (List Object) → ℕ → ℕ → (Name → Object → ℕ → Option Deed) → Option Deed
with_reference f store o k go = deed_on_object f store o (λ n x. if_there (place_in (length x.refs) (int_in f k)) (go n x))

abbrev pub with_number : Frame → List (List Object) → ℕ → ℕ → (Name → Object → ℕ → Option Deed) → Option Deed
with_number f store o k go = deed_on_object f store o (λ n x. if_there (place_in (length x.ints) (int_in f k)) (go n x))

-- the place of a number among all fields of an object, of which the references come first
abbrev pub number_place : Object → ℕ → ℕ
number_place x at = length x.refs + at

-- what a reference field holds, and what a number field holds
abbrev pub reference_in : Object → ℕ → Option Name
reference_in x at = option_flatten (slice_get x.refs at)

abbrev pub number_in : Object → ℕ → ℤ
number_in x at = unwrap_or (slice_get x.ints at) (pos 0)

-- nothing is done to an object that is immutable
abbrev pub deed_unless_frozen : Object → Deed → Option Deed
deed_unless_frozen x d = if x.mutable then Some d else None

-- what an instruction does, in a frame of the task t of this state
abbrev pub deed : MachineState → ℕ → Frame → Instr → Option Deed
deed m t f (Newm d a b) = if_there (counts_in m.field_limit (int_in f a) (int_in f b)) (λ n. Some (Allocates (next_name t m.store)))
deed m t f (Pack d r i) = Some (Allocates (next_name t m.store))
deed m t f (Getr d o k) = with_reference f m.store o k (λ n x at. Some (Reads n at (Reference (reference_in x at))))
deed m t f (Geti d o k) = with_number f m.store o k (λ n x at. Some (Reads n (number_place x at) (Number (number_in x at))))
deed m t f (Putr o k v) = with_reference f m.store o k (λ n x at. deed_unless_frozen x (Writes n at (Reference (ref_in f v))))
deed m t f (Puti o k v) = with_number f m.store o k (λ n x at. deed_unless_frozen x (Writes n (number_place x at) (Number (int_in f v))))
deed m t f (Cas d o k e v) =
    with_reference f m.store o k (λ n x at. deed_unless_frozen x (Swaps n at (ref_in f v) (same_name (reference_in x at) (ref_in f e))))
deed m t f (Cntr d o) = deed_on_object f m.store o (λ n x. Some (Counts n))
deed m t f (Cnti d o) = deed_on_object f m.store o (λ n x. Some (Counts n))
deed m t f (Freeze o) = deed_on_object f m.store o (λ n x. if owner_of m.tasks n.task == t then Some (Freezes n) else None)
deed m t f (Out a) = Some (Prints (int_in f a))
deed m t f _ = None

abbrev pub step_act_of : MachineState → ℕ → Task → Option Line → Option StepAct
step_act_of m t x None = None
step_act_of m t x (Some line) = Some (record { line = line.number; instr = line.instr; deed = deed m t x.top line.instr })

abbrev pub act_by : ProgramText → MachineState → ℕ → Option Task → Option StepAct
act_by p m t None = None
act_by p m t (Some x) = step_act_of m t x (fetched p x.top)

-- the next step of a task, where it can take one
abbrev pub act_of : ProgramText → MachineState → ℕ → Option StepAct
act_of p m t = if can_step m t then act_by p m t (slice_get m.tasks t) else None

-- its line, and what it does
abbrev pub deed_of : Option StepAct → Option StepDeed
deed_of None = None
deed_of (Some a) = Some (record { line = a.line; deed = a.deed })
