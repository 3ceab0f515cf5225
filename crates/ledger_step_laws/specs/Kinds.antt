-- What a fork, a join, the end of a task and a store change of the accounts.
use Rattle.std.specs.Prelude.{◌≡◌, ◌⊎◌, ℕ, ℤ, ◌+◌, ◌<◌, true, false, Option, Some, None, List, slice_get, slice_set, length}
use Rattle.ledger_step_laws.specs.Common.{Name, Frame, Object, Running, Waiting, Ended, Task, object_at, row_of, onward, ref_in, int_in, with_int, owner_of, is_on_path, is_waiting, is_joined, parents, resumed, child, result_of, Ledger, heap_of, merged, emptied, forked_heap, fresh}
use Rattle.ledger_step_laws.specs.Accounts.{Rests, StepsAlone, WritesOne}

-- of the accounts
pub record ForksTask (l l' : Ledger) (t a b g h : ℕ) (x : Task) : Type 0 where
  pub task : slice_get l.machine.tasks t ≡ Some x
  pub waits : slice_get l'.machine.tasks t ≡ Some (record x { status = Waiting; top = onward x.top })
  pub left : slice_get l'.machine.tasks a ≡ Some (child t (x.depth + 1) g x.top)
  pub right : slice_get l'.machine.tasks b ≡ Some (child t (x.depth + 1) h x.top)
  pub tasks : (u : ℕ) → (u ≡ t → ⊥) → (u ≡ a → ⊥) → (u ≡ b → ⊥) → slice_get l'.machine.tasks u ≡ slice_get l.machine.tasks u
  pub owners : (n : ℕ) → owner_of l'.machine.tasks n ≡ owner_of l.machine.tasks n
  pub paths : (z u : ℕ) → (u ≡ a → ⊥) → (u ≡ b → ⊥) → is_on_path l'.machine.tasks z u ≡ is_on_path l.machine.tasks z u
  pub store : (n : Name) → object_at l'.machine.store n ≡ object_at l.machine.store n
  pub rows : (u : ℕ) → length (row_of (slice_get l'.machine.store u)) ≡ length (row_of (slice_get l.machine.store u))
  -- the children hadn't been made
  pub unmade_left : slice_get l.machine.tasks a ≡ None
  pub unmade_right : slice_get l.machine.tasks b ≡ None
  pub new_left : length (row_of (slice_get l.machine.store a)) ≡ 0
  pub new_right : length (row_of (slice_get l.machine.store b)) ≡ 0
  pub lone_left : (z : ℕ) → is_on_path l.machine.tasks z a ≡ true → z ≡ a
  pub lone_right : (z : ℕ) → is_on_path l.machine.tasks z b ≡ true → z ≡ b
  -- the ancestors of a child are itself and those of the parent
  pub above_left : (z : ℕ) → is_on_path l'.machine.tasks z a ≡ true → (z ≡ a) ⊎ (is_on_path l.machine.tasks z t ≡ true)
  pub above_right : (z : ℕ) → is_on_path l'.machine.tasks z b ≡ true → (z ≡ b) ⊎ (is_on_path l.machine.tasks z t ≡ true)
  pub left_apart : a ≡ t → ⊥
  pub right_apart : b ≡ t → ⊥
  pub two : a ≡ b → ⊥
  pub names : List Name
  pub heap : heap_of l' t ≡ forked_heap names (heap_of l t)
  pub heap_left : heap_of l' a ≡ fresh
  pub heap_right : heap_of l' b ≡ fresh
  pub heaps : (u : ℕ) → (u ≡ t → ⊥) → (u ≡ a → ⊥) → (u ≡ b → ⊥) → heap_of l' u ≡ heap_of l u

-- of the accounts
pub record JoinsTasks (l l' : Ledger) (p c d : ℕ) (x : Task) (rl rr : ℤ × Option Name) : Type 0 where
  pub owners : (a : ℕ) → let o = owner_of l.machine.tasks a in let o' = owner_of l'.machine.tasks a in ((o' ≡ p) × ((o ≡ c) ⊎ (o ≡ d))) ⊎ ((o' ≡ o) × ((o ≡ c → ⊥) × (o ≡ d → ⊥)))
  pub paths : (a u : ℕ) → is_on_path l'.machine.tasks a u ≡ is_on_path l.machine.tasks a u
  pub store : (n : Name) → object_at l'.machine.store n ≡ object_at l.machine.store n
  pub rows : (u : ℕ) → length (row_of (slice_get l'.machine.store u)) ≡ length (row_of (slice_get l.machine.store u))
  pub parent : slice_get l.machine.tasks p ≡ Some x
  pub resumed : slice_get l'.machine.tasks p ≡ Some (resumed x rl rr)
  pub left : is_joined (slice_get l'.machine.tasks c) ≡ true
  pub right : is_joined (slice_get l'.machine.tasks d) ≡ true
  pub tasks : (u : ℕ) → (u ≡ p → ⊥) → (u ≡ c → ⊥) → (u ≡ d → ⊥) → slice_get l'.machine.tasks u ≡ slice_get l.machine.tasks u
  pub heap : heap_of l' p ≡ merged (heap_of l p) (heap_of l c) (heap_of l d)
  pub heap_left : heap_of l' c ≡ emptied (heap_of l c)
  pub heap_right : heap_of l' d ≡ emptied (heap_of l d)
  pub heaps : (u : ℕ) → (u ≡ p → ⊥) → (u ≡ c → ⊥) → (u ≡ d → ⊥) → heap_of l' u ≡ heap_of l u

-- of the task p and its children before the join
pub record TasksCanJoin (l : Ledger) (p c d : ℕ) (x : Task) : Type 0 where
  pub left : parents l.machine.tasks c ≡ Some p
  pub right : parents l.machine.tasks d ≡ Some p
  pub two : c ≡ d → ⊥
  pub waits : x.status ≡ Waiting
  pub left_idle : is_waiting (slice_get l.machine.tasks c) ≡ false
  pub right_idle : is_waiting (slice_get l.machine.tasks d) ≡ false
  pub left_live : is_joined (slice_get l.machine.tasks c) ≡ false
  pub right_live : is_joined (slice_get l.machine.tasks d) ≡ false
  pub rests : Rests l p
  pub left_rests : Rests l c
  pub right_rests : Rests l d
  -- no chunk is reserved for the children
  pub left_spares : (heap_of l c).reserved ≡ 0
  pub right_spares : (heap_of l d).reserved ≡ 0

-- of the accounts
pub record EndsTask (l l' : Ledger) (t : ℕ) (x : Task) : Type 0 where
  pub task : slice_get l.machine.tasks t ≡ Some x
  pub runs : x.status ≡ Running
  pub ended : slice_get l'.machine.tasks t ≡ Some (record x { status = Ended (result_of x.top).0 (result_of x.top).1 })
  pub alone : StepsAlone l l' t
  pub heap : heap_of l' t ≡ heap_of l t
  pub row : length (row_of (slice_get l'.machine.store t)) ≡ length (row_of (slice_get l.machine.store t))
  pub store : (n : Name) → object_at l'.machine.store n ≡ object_at l.machine.store n

-- the frame that goes on, with a number in one of its registers if the step sets one
abbrev pub onward_with : Option (ℕ × ℤ) → Frame → Frame
onward_with None f = onward f
onward_with (Some c) f = onward (with_int f c.0 c.1)

-- of the accounts: the step sets the number register c, as a compare and swap does, or none
pub record StoresOne (l l' : Ledger) (t : ℕ) (x : Task) (n : Name) (y : Object) (o w i : ℕ) (c : Option (ℕ × ℤ)) : Type 0 where
  pub task : slice_get l.machine.tasks t ≡ Some x
  pub runs : x.status ≡ Running
  pub object : ref_in x.top o ≡ Some n
  pub field : i < length y.refs
  pub mutable : y.mutable ≡ true
  pub goes : slice_get l'.machine.tasks t ≡ Some (record x { top = onward_with c x.top })
  pub writes : WritesOne l l' t n y (record y { refs = slice_set y.refs i (ref_in x.top w) })
  -- no worker holds a task that waits
  pub waits : (u : ℕ) → is_waiting (slice_get l.machine.tasks u) ≡ true → Rests l u

-- of the accounts
pub record StoresNumber (l l' : Ledger) (t : ℕ) (x : Task) (n : Name) (y : Object) (o w i : ℕ) : Type 0 where
  pub task : slice_get l.machine.tasks t ≡ Some x
  pub runs : x.status ≡ Running
  pub object : ref_in x.top o ≡ Some n
  pub mutable : y.mutable ≡ true
  pub goes : slice_get l'.machine.tasks t ≡ Some (record x { top = onward x.top })
  pub writes : WritesOne l l' t n y (record y { ints = slice_set y.ints i (int_in x.top w) })
  pub waits : (u : ℕ) → is_waiting (slice_get l.machine.tasks u) ≡ true → Rests l u
