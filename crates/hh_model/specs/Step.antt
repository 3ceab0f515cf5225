-- Steps of the machine, and whole runs.
use Rattle.std.specs.Prelude.{ℕ, zero, suc, ℤ, pos, ◌+◌, ◌-◌, ◌%◌, ◌==◌, ◌||◌, Bool, true, false, Option, Some, None, List, [], ◌∷◌, ◌++◌, slice_get, slice_set, length, if◌then◌else◌, nat_lt, replicate}
use Rattle.hh_model.specs.Common.{Line, ProgramText, line_at}
pub use Rattle.hh_lang.specs.Limits.{depth_limit, frame_limit}
use Rattle.hh_model.specs.declared.data.Name.{Name}
use Rattle.hh_model.specs.declared.data.Strand.{Strand}
use Rattle.hh_model.specs.declared.data.Edge.{Edge}
use Rattle.hh_model.specs.declared.data.Frame.{Frame}
use Rattle.hh_model.specs.declared.data.TaskStatus.{TaskStatus}
use Rattle.hh_model.specs.declared.data.TaskStatus.TheVariants.{Running, Waiting, Ended, Joined}
use Rattle.hh_model.specs.declared.data.Task.{Task}
use Rattle.hh_model.specs.declared.data.Trap.TheVariants.{Depth}
use Rattle.hh_model.specs.declared.data.End.{End}
use Rattle.hh_model.specs.declared.data.End.TheVariants.{Done, Trapped, Entangled}
use Rattle.hh_model.specs.declared.data.MachineState.{MachineState}
use Rattle.hh_model.specs.Effect.{Effect, Goes, Prints, Calls, Forks, Returns, Traps, Stops, StepContext, effect, int_in, ref_in, with_int, with_ref, onward}
use Rattle.hh_model.specs.Names.{words_asked}

-- THE STATUS OF A TASK

abbrev pub runs : TaskStatus → Bool
runs Running = true
runs Waiting = false
runs (Ended k n) = false
runs Joined = false

abbrev pub waits : TaskStatus → Bool
waits Running = false
waits Waiting = true
waits (Ended k n) = false
waits Joined = false

-- it has joined its parent
abbrev pub is_over : TaskStatus → Bool
is_over Running = false
is_over Waiting = false
is_over (Ended k n) = false
is_over Joined = true

-- what it ended with, if it has ended and not joined
abbrev pub result_in : TaskStatus → Option (ℤ × Option Name)
result_in Running = None
result_in Waiting = None
result_in (Ended k n) = Some (k, n)
result_in Joined = None

abbrev pub is_running : Option Task → Bool
is_running None = false
is_running (Some t) = runs t.status

abbrev pub is_waiting : Option Task → Bool
is_waiting None = false
is_waiting (Some t) = waits t.status

abbrev pub is_joined : Option Task → Bool
is_joined None = false
is_joined (Some t) = is_over t.status

abbrev pub parent_of : Option Task → Option ℕ
parent_of None = None
parent_of (Some t) = t.parent

-- the parents of tasks by number, and which tasks have joined
abbrev pub parents : List Task → ℕ → Option ℕ
parents tasks t = parent_of (slice_get tasks t)

abbrev pub joined : List Task → ℕ → Bool
joined tasks t = is_joined (slice_get tasks t)

-- OWNERS AND PATHS

abbrev pub through : {A : Type 0} → Option ℕ → A → (ℕ → A) → A
through None none go = none
through (Some p) none go = go p

-- the task, followed to its parent as long as it has joined, at most n times
abbrev pub owner_by : (ℕ → Option ℕ) → (ℕ → Bool) → ℕ → ℕ → ℕ
owner_by par jd zero t = t
owner_by par jd (suc more) t = if jd t then through (par t) t (owner_by par jd more) else t

-- a parent's number is smaller than its child's, so the task's number of times is enough
abbrev pub owner_in : (ℕ → Option ℕ) → (ℕ → Bool) → ℕ → ℕ
owner_in par jd t = owner_by par jd t t

-- the owner of what this task allocated: the task itself, followed to its parent as long as it has joined
abbrev pub owner_of : List Task → ℕ → ℕ
owner_of tasks t = owner_in (parents tasks) (joined tasks) t

-- whether a is the task t or one of the nearest n above it
abbrev pub path_by : (ℕ → Option ℕ) → ℕ → ℕ → ℕ → Bool
path_by par zero a t = a == t
path_by par (suc more) a t = (a == t) || through (par t) false (path_by par more a)

abbrev pub path_in : (ℕ → Option ℕ) → ℕ → ℕ → Bool
path_in par a t = path_by par t a t

-- whether a is the task t or an ancestor
abbrev pub is_on_path : List Task → ℕ → ℕ → Bool
is_on_path tasks a t = path_in (parents tasks) a t

-- WHAT A STEP SEES

-- the next instruction of a frame, with its line
abbrev pub fetched : ProgramText → Frame → Option Line
fetched p f = line_at p f.function f.next

abbrev pub strand : ℕ → ℕ → Strand
strand t joins = record { task = t; joins = joins }

-- the strand of a task
abbrev pub strand_of : ℕ → Task → Strand
strand_of t x = strand t x.joins

abbrev pub setting : MachineState → ℕ → Task → StepContext
setting m t x = record { task = t; strand = strand_of t x; field_limit = m.field_limit; edges = m.edges; owner = owner_of m.tasks }

-- WHAT A STEP CHANGES

abbrev pub with_task : MachineState → ℕ → Task → MachineState
with_task m t x = record m { tasks = slice_set m.tasks t x }

abbrev pub ended_by : MachineState → End → MachineState
ended_by m e = record m { end = Some e }

-- the first frame of a function, with the registers of another frame
abbrev pub entry_frame : ℕ → Frame → Frame
entry_frame g f = record f { function = g; next = 0 }

-- CALLS

-- the function's frame becomes the top one, and the caller's waits below it
abbrev pub called : MachineState → ℕ → Task → ℕ → ℕ → MachineState
called m t x g line =
    if nat_lt (length x.below + 1) frame_limit
    then with_task m t (record x { top = entry_frame g x.top; below = x.below ++ onward x.top ∷ [] })
    else ended_by m (Trapped Depth t line)

-- FORKS

-- a child with this many forks above it and one frame
abbrev pub child : ℕ → ℕ → ℕ → Frame → Task
child parent depth g f = record { parent = Some parent; depth = depth; status = Running; top = entry_frame g f; below = []; joins = 0 }

abbrev pub edge : Strand → Strand → Edge
edge u v = record { source = u; target = v }

-- the task waits. Its children are the next two tasks, first the left one, then the right one; each has one frame with
-- the registers of the parent's top frame, and the parent's strand has an edge to each
abbrev pub forked : MachineState → ℕ → Task → ℕ → ℕ → ℕ → MachineState
forked m t x g h line =
    let left = length m.tasks in
    if nat_lt x.depth depth_limit
    then record m {
      tasks = slice_set m.tasks t (record x { status = Waiting; top = onward x.top }) ++ child t (x.depth + 1) g x.top ∷ child t (x.depth + 1) h x.top ∷ [];
      store = m.store ++ [] ∷ [] ∷ [];
      edges = m.edges ++ edge (strand_of t x) (strand left 0) ∷ edge (strand_of t x) (strand (left + 1) 0) ∷ [];
    }
    else ended_by m (Trapped Depth t line)

-- RETURNS AND JOINS

-- children are made in pairs after the root, so a left child's number is odd
abbrev pub is_left : ℕ → Bool
is_left t = t % 2 == 1

-- the other child of the same fork
abbrev pub sibling : ℕ → ℕ
sibling t = if is_left t then t + 1 else t - 1

-- the parent goes on, on a new strand: its i0 and r0 come from the left child's i0 and r0, its i1 and r1 from the right
-- child's
abbrev pub resumed : Task → ℤ × Option Name → ℤ × Option Name → Task
resumed p l r = record p {
  status = Running;
  top = with_ref (with_ref (with_int (with_int p.top 0 l.0) 1 r.0) 0 l.1) 1 r.1;
  joins = p.joins + 1;
}

abbrev pub joined_task : Task → Task
joined_task x = record x { status = Joined }

-- both children of the task p have ended, the left one l and the right one after it: they join p, and the last strand
-- of each has an edge to the new strand of p
abbrev pub join_of : MachineState → ℕ → Task → ℕ → Task → Task → ℤ × Option Name → ℤ × Option Name → MachineState
join_of m p x l left right lr rr = record m {
  tasks = slice_set (slice_set (slice_set m.tasks l (joined_task left)) (l + 1) (joined_task right)) p (resumed x lr rr);
  edges = m.edges ++ edge (strand_of l left) (strand p (x.joins + 1)) ∷ edge (strand_of (l + 1) right) (strand p (x.joins + 1)) ∷ [];
}

abbrev pub result_at : Option Task → Option (ℤ × Option Name)
result_at None = None
result_at (Some x) = result_in x.status

abbrev pub or_same : {A : Type 0} → MachineState → Option A → (A → MachineState) → MachineState
or_same m None go = m
or_same m (Some x) go = go x

-- a task that has ended keeps its result, until it joins
abbrev pub ended_task : Task → ℤ × Option Name → Task
ended_task x result = record x { status = Ended result.0 result.1 }

-- a child of p ends with this result, and its sibling has ended with that one or hasn't
abbrev pub child_ended_by : MachineState → ℕ → Task → ℕ → ℤ × Option Name → Option (ℤ × Option Name) → MachineState
child_ended_by m t x p result None = with_task m t (ended_task x result)
child_ended_by m t x p result (Some other) =
    or_same m (slice_get m.tasks p) (λ parent. or_same m (slice_get m.tasks (sibling t)) (λ y.
    if is_left t then join_of m p parent t x y result other else join_of m p parent (t - 1) y x other result))

abbrev pub child_ended : MachineState → ℕ → Task → ℕ → ℤ × Option Name → MachineState
child_ended m t x p result = child_ended_by m t x p result (result_at (slice_get m.tasks (sibling t)))

-- a frame returns its i0 and r0
abbrev pub result_of : Frame → ℤ × Option Name
result_of f = (int_in f 0, ref_in f 0)

abbrev pub last_of : {A : Type 0} → List A → Option A
last_of [] = None
last_of (x ∷ []) = Some x
last_of (x ∷ y ∷ xs) = last_of (y ∷ xs)

abbrev pub front_of : {A : Type 0} → List A → List A
front_of [] = []
front_of (x ∷ []) = []
front_of (x ∷ y ∷ xs) = x ∷ front_of (y ∷ xs)

-- the caller's frame with the returned values
abbrev pub back_in : Frame → Frame → Frame
back_in below top = with_ref (with_int below 0 (int_in top 0)) 0 (ref_in top 0)

-- the return of the last frame ends the task; the root's ends the run
abbrev pub last_return : MachineState → ℕ → Task → Option ℕ → MachineState
last_return m t x None = ended_by (with_task m t (ended_task x (result_of x.top))) Done
last_return m t x (Some p) = child_ended m t x p (result_of x.top)

abbrev pub returned_to : MachineState → ℕ → Task → Option Frame → MachineState
returned_to m t x None = last_return m t x x.parent
returned_to m t x (Some f) = with_task m t (record x { top = back_in f x.top; below = front_of x.below })

abbrev pub returned : MachineState → ℕ → Task → MachineState
returned m t x = returned_to m t x (last_of x.below)

-- STEPS

-- the state after an effect; a trap and a stopped read change nothing but the end, and the owner that a stop names is
-- the task that owns the object now
abbrev pub follow : MachineState → ℕ → Task → ℕ → Effect → MachineState
follow m t x line (Goes f store) = record m { tasks = slice_set m.tasks t (record x { top = f }); store = store }
follow m t x line (Prints k) = record m { tasks = slice_set m.tasks t (record x { top = onward x.top }); outputs = m.outputs ++ k ∷ [] }
follow m t x line (Calls g) = called m t x g line
follow m t x line (Forks g h) = forked m t x g h line
follow m t x line Returns = returned m t x
follow m t x line (Traps kind) = ended_by m (Trapped kind t line)
follow m t x line (Stops n) = ended_by m (Entangled t (owner_of m.tasks n.task))

-- one instruction of a running task; by a law there always is one
abbrev pub stepped : ProgramText → MachineState → ℕ → Task → Option Line → MachineState
stepped p m t x None = m
stepped p m t x (Some line) = follow m t x line.number (effect (setting m t x) x.top m.store line.instr)

abbrev pub goes_on : Option End → Bool → Bool
goes_on None runs_now = runs_now
goes_on (Some e) runs_now = false

-- a task can take a step if and only if it runs and the machine hasn't ended
abbrev pub can_step : MachineState → ℕ → Bool
can_step m t = goes_on m.end (is_running (slice_get m.tasks t))

-- one step of a task; nothing changes if it can't take one
abbrev pub step : ProgramText → MachineState → ℕ → MachineState
step p m t = if can_step m t then or_same m (slice_get m.tasks t) (λ x. stepped p m t x (fetched p x.top)) else m

-- the words that the next step of a task allocates, if it allocates
abbrev pub asked_line : ℕ → Frame → Option Line → Option ℕ
asked_line limit f None = None
asked_line limit f (Some line) = words_asked limit f line.instr

abbrev pub asked_by : ProgramText → MachineState → Option Task → Option ℕ
asked_by p m None = None
asked_by p m (Some x) = if is_running (Some x) then asked_line m.field_limit x.top (fetched p x.top) else None

abbrev pub asked : ProgramText → MachineState → ℕ → Option ℕ
asked p m t = asked_by p m (slice_get m.tasks t)

-- RUNS

-- the first task, before its first step: all its registers are 0 and nil
abbrev pub root : ProgramText → Task
root p = record {
  parent = None;
  depth = 0;
  status = Running;
  top = record { function = p.main; next = 0; ints = replicate 16 (pos 0); refs = replicate 16 None };
  below = [];
  joins = 0;
}

-- the machine before its first step, with this limit of fields
abbrev pub start : ProgramText → ℕ → MachineState
start p limit = record {
  field_limit = limit;
  tasks = root p ∷ [];
  store = [] ∷ [];
  edges = [];
  outputs = [];
  end = None;
}

-- steps of these tasks, in this order
abbrev pub run_from : ProgramText → MachineState → List ℕ → MachineState
run_from p m [] = m
run_from p m (t ∷ ts) = run_from p (step p m t) ts

abbrev pub run : ProgramText → ℕ → List ℕ → MachineState
run p limit ts = run_from p (start p limit) ts
