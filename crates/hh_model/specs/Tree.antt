-- The invariants of the tree of tasks, of its edges and of the strands of objects.
use Rattle.std.specs.Prelude.{◌≡◌, ◌⊎◌, ℕ, ◌%◌, ◌<◌, ◌≤◌, Bool, true, false, Option, Some, None, List, length, slice_get}
use Rattle.hh_model.specs.Common.{In, ProgramText}
use Rattle.hh_model.specs.declared.data.Name.{Name}
use Rattle.hh_model.specs.declared.data.Strand.{Strand}
use Rattle.hh_model.specs.declared.data.Edge.{Edge}
use Rattle.hh_model.specs.declared.data.Object.{Object}
use Rattle.hh_model.specs.declared.data.Task.{Task}
use Rattle.hh_model.specs.declared.data.MachineState.{MachineState}
use Rattle.hh_model.specs.Effect.{object_at}
use Rattle.hh_model.specs.Precedence.{Precedes, precedes}
use Rattle.hh_model.specs.Step.{is_waiting, is_running, is_on_path, parents, joined, owner_in, path_in, strand, sibling, run}

-- WHICH TASKS WAIT, AND HOW MANY OF THEIR FORKS HAVE JOINED

abbrev pub waiting : List Task → ℕ → Bool
waiting tasks t = is_waiting (slice_get tasks t)

abbrev pub joins_of : Option Task → ℕ
joins_of None = 0
joins_of (Some x) = x.joins

abbrev pub joins_in : List Task → ℕ → ℕ
joins_in tasks t = joins_of (slice_get tasks t)

-- THE TREE, over plain functions of a task's number: its parent, whether it has joined or waits, and how many of its
-- forks have joined

-- a parent's number is smaller than its child's
abbrev pub AreLow : (ℕ → Option ℕ) → Type 0
AreLow par = (t p : ℕ) → par t ≡ Some p → p < t

-- a strand that has begun, of one of n tasks
abbrev pub Known : ℕ → (ℕ → ℕ) → Strand → Type 0
Known n js s = (s.task < n) × (s.joins ≤ js s.task)

-- n tasks and the edges of their forks and joins
pub record Tree (n : ℕ) (par : ℕ → Option ℕ) (jd wt : ℕ → Bool) (js : ℕ → ℕ) (es : List Edge) : Type 0 where
  pub low : AreLow par
  pub made : (t p : ℕ) → par t ≡ Some p → t < n
  -- the first task, and children in pairs
  pub odd : n % 2 ≡ 1
  pub pairs : (t p : ℕ) → par t ≡ Some p → par (sibling t) ≡ Some p
  -- a task with a child that hasn't joined waits, and the only such children are the two of its last fork
  pub waits : (t p : ℕ) → par t ≡ Some p → jd t ≡ false → wt p ≡ true
  pub brothers : (t u p : ℕ) → par t ≡ Some p → par u ≡ Some p → jd t ≡ false → jd u ≡ false → (u ≡ t) ⊎ (u ≡ sibling t)
  pub apart : (t : ℕ) → wt t ≡ true → jd t ≡ false
  pub rooted : (t : ℕ) → jd t ≡ true → (p : ℕ) × (par t ≡ Some p)
  pub known : (e : Edge) → In es e → Known n js e.source × Known n js e.target
  -- the test of happens before is right
  pub right : (u v : Strand) → (precedes es u v ≡ true → Precedes es u v) × (Precedes es u v → precedes es u v ≡ true)
  -- what happens before the strand of a task is what its path owns
  pub path : (a i t : ℕ) → a < n → i ≤ js a → t < n → jd t ≡ false → precedes es (strand a i) (strand t (js t)) ≡ path_in par (owner_in par jd a) t

abbrev pub TreeOf : List Task → List Edge → Type 0
TreeOf tasks edges = Tree (length tasks) (parents tasks) (joined tasks) (waiting tasks) (joins_in tasks) edges

-- INVARIANTS OF RUNS

-- each object was allocated at a strand of its task
abbrev pub StoreOf : ℕ → (ℕ → ℕ) → List (List Object) → Type 0
StoreOf n js store = (m : Name) (o : Object) → object_at store m ≡ Some o → (o.strand.task ≡ m.task) × Known n js o.strand

-- the tasks form a tree, the edges are those of its forks and joins, and each object was allocated at a strand of its
-- task that has begun
pub record IsForkJoinStateIn (tasks : List Task) (edges : List Edge) (store : List (List Object)) : Type 0 where
  pub tree : TreeOf tasks edges
  pub store_of : StoreOf (length tasks) (joins_in tasks) store

abbrev pub IsForkJoinState : MachineState → Type 0
IsForkJoinState m = IsForkJoinStateIn m.tasks m.edges m.store

-- THE FIRST TASK

-- it alone has no parent, and is an ancestor of each task: so while it runs no other does
pub record HasOneRoot (tasks : List Task) : Type 0 where
  pub only : (t : ℕ) (x : Task) → slice_get tasks t ≡ Some x → x.parent ≡ None → t ≡ 0
  pub none : (x : Task) → slice_get tasks 0 ≡ Some x → x.parent ≡ None
  pub above : (t : ℕ) → t < length tasks → is_on_path tasks 0 t ≡ true
  pub alone : (t : ℕ) → is_running (slice_get tasks 0) ≡ true → is_running (slice_get tasks t) ≡ true → t ≡ 0

abbrev pub RunsHaveOneRoot : Type 0
RunsHaveOneRoot = (p : ProgramText) (limit : ℕ) (ts : List ℕ) → HasOneRoot (run p limit ts).tasks
