-- What a manager of hierarchical heaps would meet on a log's run: words by the depth of tasks, and down-pointers.
use Rattle.std.specs.Prelude.{◌≡◌, ◌⊎◌, ◌↔◌, ◌≤◌, ◌<◌, ◌^◌, ℕ, Bool, IsTrue, Option, List, length, map}
use Rattle.std.specs.List.Sorted.{IsStrictlyIncreasing}
use Rattle.log_heaps.specs.Common.{IsWalk, In, LogTasks, Event, Act, GraphStrand, tasks_in, IsParent, StrandPrecedes, IsLowestCommon, born, released, used, DoesToBlock, HeapDepth, LogHeaps}
use Rattle.log_heaps.specs.declared.births.BlockBirth.{BlockBirth}
use Rattle.log_heaps.specs.declared.error.HeapsError.{HeapsError}
use Rattle.log_heaps.specs.declared.error.HeapsError.TheVariants.{TooLong, TooManyWords, NoMemory}
use Rattle.log_heaps.specs.Acts.{referred, stored, stored_into, words_born}
use Rattle.log_heaps.specs.Rows.{depth_row, words_at}

-- so many spawns lead from the root to the task
abbrev pub HasDepth : LogTasks → ℕ → ℕ → Type 0
HasDepth tasks t depth = IsWalk (λ x. x ≡ 0) (IsParent (tasks_in tasks.turns)) depth t

-- just the things that are so, each once, by ascending keys
pub record AreThose {A : Type 0} (key : A → ℕ) (Is : A → Type 0) (xs : List A) : Type 0 where
  pub ascending : IsStrictlyIncreasing (map key xs)
  pub are : (x : A) → In xs x ↔ Is x

-- n acts are so
abbrev pub CountsActs : (ℕ → Type 0) → ℕ → Type 0
CountsActs Is n = (acts : List ℕ) × AreThose (λ (k : ℕ). k) Is acts × (n ≡ length acts)

-- DOWN-POINTERS

-- no strand of the graph bears the block, which was there before the root began
abbrev pub IsUnborn : List Event → LogTasks → ℕ → Type 0
IsUnborn events tasks b = (n : ℕ) (u : GraphStrand) → DoesToBlock born events tasks b n u → ⊥

-- a birth happens before strand v. The block is then in the heap of the lowest common ancestor of both tasks, as joined
-- tasks leave their heaps to their parents
pub record IsInherited (events : List Event) (tasks : LogTasks) (b : ℕ) (v : GraphStrand) (depth : ℕ) : Type 0 where
  pub line : ℕ
  pub birth : GraphStrand
  pub born_there : DoesToBlock born events tasks b line birth
  pub before : StrandPrecedes (tasks_in tasks.turns) birth v
  pub home : ℕ
  pub lowest : IsLowestCommon (tasks_in tasks.turns) home birth.task v.task
  pub depth_is : HasDepth tasks home depth

-- at strand v the block is in a heap of this depth: the root's, if it is unborn
abbrev pub HasHome : List Event → LogTasks → ℕ → GraphStrand → ℕ → Type 0
HasHome events tasks b v depth = (IsUnborn events tasks b × (depth ≡ 0)) ⊎ IsInherited events tasks b v depth

-- act n stores a reference that isn't nil
abbrev pub StoresReference : List Event → LogTasks → ℕ → Type 0
StoresReference events tasks n = (c : ℕ) × (v : GraphStrand) × DoesToBlock stored events tasks c n v

-- act n stores a reference into a block that is in a higher heap than the one to which it refers
pub record IsDownPointer (events : List Event) (tasks : LogTasks) (n : ℕ) : Type 0 where
  pub strand : GraphStrand
  pub block : ℕ
  pub target : ℕ
  pub into : DoesToBlock stored_into events tasks block n strand
  pub refers : DoesToBlock stored events tasks target n strand
  pub upper : ℕ
  pub lower : ℕ
  pub block_home : HasHome events tasks block strand upper
  pub target_home : HasHome events tasks target strand lower
  pub down : upper < lower

-- BIRTHS

-- an act bears the block, and its task has this depth
pub record IsBirth (events : List Event) (tasks : LogTasks) (birth : BlockBirth) : Type 0 where
  pub strand : GraphStrand
  pub born_there : DoesToBlock born events tasks birth.block birth.line strand
  pub words_are : words_born born_there.act ≡ birth.words
  pub depth_is : HasDepth tasks strand.task birth.depth

-- acts that do this to the block are of task t alone
abbrev pub IsOfTask : (Act → Option ℕ) → List Event → LogTasks → ℕ → ℕ → Type 0
IsOfTask does events tasks b t = (n : ℕ) (v : GraphStrand) → DoesToBlock does events tasks b n v → v.task ≡ t

-- no other task names the block: accesses or releases it, or reads or stores a reference to it
pub record IsNamedAlone (events : List Event) (tasks : LogTasks) (b t : ℕ) : Type 0 where
  pub accesses : IsOfTask used events tasks b t
  pub references : IsOfTask referred events tasks b t
  pub releases : IsOfTask released events tasks b t

-- the blocks that only the task that bore them names
abbrev pub AreOwn : List Event → LogTasks → (ℕ → Bool) → Type 0
AreOwn events tasks own = (b n : ℕ) (u : GraphStrand) → DoesToBlock born events tasks b n u → IsTrue (own b) ↔ IsNamedAlone events tasks b u.task

-- ALL

-- blocks are born at this depth, and the row is on them
abbrev pub IsDepthRow : List BlockBirth → (ℕ → Bool) → HeapDepth → Type 0
IsDepthRow births own row = (row ≡ depth_row births own row.depth) × (0 < row.blocks)

pub record AreHeaps (events : List Event) (tasks : LogTasks) (heaps : LogHeaps) : Type 0 where
  pub births : List BlockBirth
  pub own : ℕ → Bool
  pub are_births : AreThose (λ (b : BlockBirth). b.line) (IsBirth events tasks) births
  pub are_own : AreOwn events tasks own
  pub depths : AreThose (λ (row : HeapDepth). row.depth) (IsDepthRow births own) heaps.depths
  pub stores : CountsActs (StoresReference events tasks) heaps.stores
  pub down : CountsActs (IsDownPointer events tasks) heaps.down

-- the words that are born at a depth don't fit in 64 bits
pub record HasTooManyWords (events : List Event) (tasks : LogTasks) : Type 0 where
  pub births : List BlockBirth
  pub are_births : AreThose (λ (b : BlockBirth). b.line) (IsBirth events tasks) births
  pub depth : ℕ
  pub many : 2 ^ 64 ≤ words_at depth births

-- why heaps aren't told
abbrev pub HeapsAreTooLarge : List Event → LogTasks → HeapsError → Type 0
HeapsAreTooLarge events tasks TooLong = 2 ^ 32 ≤ length events
HeapsAreTooLarge events tasks TooManyWords = HasTooManyWords events tasks
HeapsAreTooLarge events tasks NoMemory = Unit {0}
