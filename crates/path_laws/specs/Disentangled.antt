-- Names are on the path: a task names only what its path owns, and an object refers only along a path.
use Rattle.std.specs.Prelude.{◌≡◌, ℕ, ◌<◌, Bool, true, Option, Some, List, length, slice_get}
use Rattle.path_laws.specs.Common.{In, Name, Object, Task, refs_at, task_names, parents, joined, owner_in, path_in}
use Rattle.path_laws.specs.Paths.{OnePath}

-- the owner of a name is on the path of the task u, for n tasks with these parents
abbrev pub IsOnPathOf : ℕ → (ℕ → Option ℕ) → (ℕ → Bool) → ℕ → Name → Type 0
IsOnPathOf n par jd u r = (r.task < n) × (path_in par (owner_in par jd r.task) u ≡ true)

-- the owners of two names are on one path
abbrev pub AreOnOnePath : ℕ → (ℕ → Option ℕ) → (ℕ → Bool) → Name → Name → Type 0
AreOnOnePath n par jd k r = (k.task < n) × (r.task < n) × OnePath par (owner_in par jd k.task) (owner_in par jd r.task)

-- what a task holds, in its registers or as its result, is on its path; an object and what it refers to are on one path
pub record Apart (n : ℕ) (par : ℕ → Option ℕ) (jd : ℕ → Bool) (tasks : List Task) (store : List (List Object)) : Type 0 where
  pub of_task : (u : ℕ) (x : Task) (r : Name) → slice_get tasks u ≡ Some x → In (task_names x) r → IsOnPathOf n par jd u r
  pub of_object : (k r : Name) → In (refs_at store k) r → AreOnOnePath n par jd k r

abbrev pub Disentangled : List Task → List (List Object) → Type 0
Disentangled tasks store = Apart (length tasks) (parents tasks) (joined tasks) tasks store
