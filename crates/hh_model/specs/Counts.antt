-- How many tasks, objects, joins, registers and fields there are.
use Rattle.std.specs.Prelude.{◌≡◌, ℕ, suc, ◌+◌, ◌*◌, ◌≤◌, Some, List, ◌∷◌, length, slice_get, max, Contains}
use Rattle.hh_lang.specs.Form.{ProgramText}
use Rattle.hh_model.specs.declared.data.Name.{Name}
use Rattle.hh_model.specs.declared.data.Object.{Object}
use Rattle.hh_model.specs.declared.data.Frame.{Frame}
use Rattle.hh_model.specs.declared.data.Task.{Task}
use Rattle.hh_model.specs.declared.data.MachineState.{MachineState}
use Rattle.hh_model.specs.Effect.{object_at, row_of}
use Rattle.hh_model.specs.Step.{step, run}
use Rattle.hh_model.specs.Tree.{IsForkJoinState}

-- TASKS, OBJECTS AND JOINS

-- after k steps there are at most 2k + 1 tasks, one row of the store for each task, and at most k objects in a row and
-- k joins of a task
pub record Counted (k : ℕ) (tasks : List Task) (store : List (List Object)) : Type 0 where
  pub made : length tasks ≤ 2 * k + 1
  pub rows : length store ≡ length tasks
  pub objects : (t : ℕ) → length (row_of (slice_get store t)) ≤ k
  pub joins : (t : ℕ) (x : Task) → slice_get tasks t ≡ Some x → x.joins ≤ k

abbrev pub RunsAreCounted : Type 0
RunsAreCounted = (p : ProgramText) (limit : ℕ) (ts : List ℕ) → let m = run p limit ts in Counted (length ts) m.tasks m.store

abbrev pub StepsCount : Type 0
StepsCount = (p : ProgramText) (m : MachineState) (t k : ℕ) → IsForkJoinState m → Counted k m.tasks m.store → let m' = step p m t in Counted (suc k) m'.tasks m'.store

-- REGISTERS AND FIELDS

-- a frame has 16 registers of each kind
pub record HasAllRegisters (f : Frame) : Type 0 where
  pub ints : length f.ints ≡ 16
  pub refs : length f.refs ≡ 16

-- an object has at most this many fields of each kind
pub record HasFewFields (most : ℕ) (o : Object) : Type 0 where
  pub refs : length o.refs ≤ most
  pub ints : length o.ints ≤ most

-- a `newm` makes at most as many fields as the limit says, of both kinds together, and a `pack` at most 16 of each kind
pub record SizesIn (m : MachineState) : Type 0 where
  pub frames : (t : ℕ) (x : Task) (f : Frame) → slice_get m.tasks t ≡ Some x → Contains (x.top ∷ x.below) f → HasAllRegisters f
  pub objects : (n : Name) (o : Object) → object_at m.store n ≡ Some o → HasFewFields (max m.field_limit 16) o
  pub together : (n : Name) (o : Object) → object_at m.store n ≡ Some o → length o.refs + length o.ints ≤ max m.field_limit 32

abbrev pub SizesAreBounded : Type 0
SizesAreBounded = (p : ProgramText) (limit : ℕ) (ts : List ℕ) → SizesIn (run p limit ts)

-- and the limit stays
abbrev pub LimitStays : Type 0
LimitStays = (p : ProgramText) (limit : ℕ) (ts : List ℕ) → (run p limit ts).field_limit ≡ limit
