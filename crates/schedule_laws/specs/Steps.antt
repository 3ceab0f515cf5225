-- Steps of two concurrent tasks: what one leaves of the other's, and that they commute.
use Rattle.std.specs.Prelude.{◌≡◌, ◌⊎◌, ◌<◌, ℕ, true, false, Option, Some, None, List, length, slice_get}
use Rattle.schedule_laws.specs.Common.{Freeze, Line, ProgramText, Name, Object, Task, End, Done, Trapped, Entangled, MachineState, object_at, ref_in, Precedes, can_step, owner_of, run, run_from, step, strand_of, IsNext, Field, FieldAccess, next_access, TaskRuns, IsRenaming, AreRenamed}
use Rattle.schedule_laws.specs.Prints.{print_of}
use Rattle.schedule_laws.specs.Clashes.{Clash}

-- STRANDS

-- the strands of two concurrent tasks are unordered, by the edges of that time or of any later one
abbrev pub RunningTasksAreApart : Type 0
RunningTasksAreApart =
    (p : ProgramText) (limit : ℕ) (ts more : List ℕ) (t u : ℕ) (x y : Task)
    → let m = run p limit ts in (t ≡ u → ⊥) → TaskRuns m t x → TaskRuns m u y → Precedes (run_from p m more).edges (strand_of t x) (strand_of u y) → ⊥

-- FIELDS

-- the next step of t makes a write access to this field
abbrev pub WritesField : ProgramText → MachineState → ℕ → Field → Type 0
WritesField p m t field = (a : FieldAccess) × (next_access p m t ≡ Some a) × (a.field ≡ field) × (a.writes ≡ true)

-- the next step of t freezes the object, which t owns
abbrev pub FreezesNext : ProgramText → MachineState → ℕ → Name → Type 0
FreezesNext p m t n = (x : Task) × (line : Line) × (o : ℕ) × IsNext p m t x line × (line.instr ≡ Freeze o) × (ref_in x.top o ≡ Some n) × (owner_of m.tasks n.task ≡ t)

-- a step changes only the field of an object that its access writes, and its mutability only by a freeze
pub record ChangesOnly (p : ProgramText) (m : MachineState) (t : ℕ) (n : Name) (old new : Object) : Type 0 where
  pub strand : new.strand ≡ old.strand
  pub references : length new.refs ≡ length old.refs
  pub numbers : length new.ints ≡ length old.ints
  pub refs : (k : ℕ) → (slice_get new.refs k ≡ slice_get old.refs k) ⊎ WritesField p m t (record { name = n; is_number = false; index = k })
  pub ints : (k : ℕ) → (slice_get new.ints k ≡ slice_get old.ints k) ⊎ WritesField p m t (record { name = n; is_number = true; index = k })
  pub mutable : (new.mutable ≡ old.mutable) ⊎ FreezesNext p m t n

-- every object persists, and so do its fields except the one that the step writes
abbrev pub FieldsStay : Type 0
FieldsStay =
    (p : ProgramText) (limit : ℕ) (ts : List ℕ) (t : ℕ) (n : Name) (old : Object)
    → let m = run p limit ts in object_at m.store n ≡ Some old → (new : Object) × (object_at (step p m t).store n ≡ Some new) × ChangesOnly p m t n old new

-- TWO STEPS

-- t and u are two tasks, each can take a step, and the accesses of these don't clash
pub record AreBeside (p : ProgramText) (m : MachineState) (t u : ℕ) : Type 0 where
  pub two : t ≡ u → ⊥
  pub first : can_step m t ≡ true
  pub second : can_step m u ≡ true
  pub free : (a b : FieldAccess) → next_access p m t ≡ Some a → next_access p m u ≡ Some b → Clash a b → ⊥

-- no end, or the same end, except that the owner named by a stop may have joined
abbrev pub EndAlike : Option End → Option End → Type 0
EndAlike None None = Unit {0}
EndAlike (Some Done) (Some Done) = Unit {0}
EndAlike (Some (Trapped kind t line)) (Some (Trapped kind' t' line')) = (kind' ≡ kind) × (t' ≡ t) × (line' ≡ line)
EndAlike (Some (Entangled reader owner)) (Some (Entangled reader' owner')) = reader' ≡ reader
EndAlike _ _ = ⊥

-- u's step is unchanged by t's
pub record LeavesStep (p : ProgramText) (m : MachineState) (t u : ℕ) : Type 0 where
  pub can : can_step (step p m t) u ≡ true
  pub access : next_access p (step p m t) u ≡ next_access p m u
  pub print : print_of p (step p m t) u ≡ print_of p m u
  pub ends : EndAlike (step p m u).end (step p (step p m t) u).end

-- a step that doesn't end the run leaves the next step of a concurrent task as it is
abbrev pub StepsLeaveSteps : Type 0
StepsLeaveSteps =
    (p : ProgramText) (limit : ℕ) (ts : List ℕ) (t u : ℕ)
    → let m = run p limit ts in AreBeside p m t u → (step p m t).end ≡ None → LeavesStep p m t u

-- accesses that clash in one state clash after t's step too: u's is then of the same field, in the same strand, and is
-- the same access if t's doesn't write. So a clash of concurrent next steps is one of the accesses that the run makes
abbrev pub ClashesStay : Type 0
ClashesStay =
    (p : ProgramText) (limit : ℕ) (ts : List ℕ) (t u : ℕ) (a b : FieldAccess)
    → let m = run p limit ts in (t ≡ u → ⊥) → can_step m t ≡ true → can_step m u ≡ true → (step p m t).end ≡ None
    → next_access p m t ≡ Some a → next_access p m u ≡ Some b → Clash a b
    → (c : FieldAccess) × (next_access p (step p m t) u ≡ Some c) × Clash a c × (c.strand ≡ b.strand)

-- in either order they have the same result, except for the numbers of tasks that both made
pub record Commutes (p : ProgramText) (m : MachineState) (t u : ℕ) : Type 0 where
  pub f : ℕ → ℕ
  pub renaming : IsRenaming (length (step p (step p m t) u).tasks) f f
  pub old : (v : ℕ) → v < length m.tasks → f v ≡ v
  pub alike : AreRenamed f (step p (step p m t) u) (step p (step p m u) t)

-- steps of two concurrent tasks commute
abbrev pub StepsCommute : Type 0
StepsCommute =
    (p : ProgramText) (limit : ℕ) (ts : List ℕ) (t u : ℕ)
    → let m = run p limit ts in AreBeside p m t u → (step p m t).end ≡ None → (step p m u).end ≡ None → Commutes p m t u
