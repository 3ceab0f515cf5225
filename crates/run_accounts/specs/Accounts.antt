-- What contracts see of accounts that are updated entry by entry.
use Rattle.std.specs.Prelude.{◌≡◌, ℕ, ◌+◌, ◌-◌, ◌<◌, ◌≤◌, ◌^◌, ◌&&◌, ◌||◌, not, if◌then◌else◌, false, Option, Some, None, List, [], ◌∷◌, ◌++◌, nat_le, nat_lt, is_some, length, slice_get, slice_set}
use Rattle.run_trace.specs.Settings.{SettingsValue, worker_limit}
use Rattle.run_trace.specs.declared.entry.Kind.{Kind}
use Rattle.run_trace.specs.declared.entry.Kind.TheVariants.{Took}
use Rattle.run_ledger.specs.declared.data.Refused.{Refused as Cause}
use Rattle.run_ledger.specs.declared.data.Refused.TheVariants.{Over, Spent, NoWorker}
use Rattle.run_ledger.specs.Entries.{refused_if, refused_unless, is_fuel}
use Rattle.hh_lang.specs.Form.{ProgramText}
use Rattle.hh_model.specs.declared.data.Name.{Name}
use Rattle.hh_model.specs.declared.data.MachineState.{MachineState}
use Rattle.hh_model.specs.Effect.{row_of}
use Rattle.hh_model.specs.Step.{step, can_step, asked, parents, is_left}
use Rattle.run_ledger.specs.declared.data.Ledger.{Ledger}
use Rattle.run_ledger.specs.declared.data.Heap.{Heap}
use Rattle.run_ledger.specs.Heaps.{fresh, with_heap, forked_heap, heap_of, begun_in, is_small_size, units, words_at, words_in, units_in, in_use}
use Rattle.run_ledger.specs.Steps.{join_heaps, is_due, is_in_need, is_private, task_step, task_steps, standing}
use Rattle.ledger_heaps.specs.Accounts.{AreOwned}
use Rattle.run_accounts.specs.declared.ran.Stood.{Stood}
use Rattle.run_accounts.specs.declared.ran.Stood.TheVariants.{Not, Last, More}

-- the program, the settings and the accounts; and what is cached beside the accounts, so that an entry needn't look at
-- all heaps: the chunks in use, and for each worker the task that it took last
pub record AccountsValue : Type 0 where
  pub program : ProgramText
  pub settings : SettingsValue
  pub ledger : Ledger
  pub used : ℕ
  pub taken : List (Option ℕ)

-- what is cached beside the accounts agrees with them: the number of chunks in use is right, and a worker that holds a
-- task took it last. There is a slot for each possible worker
pub record CachesAgree (s : AccountsValue) : Type 0 where
  pub used : s.used ≡ in_use s.ledger
  pub places : length s.taken ≡ worker_limit
  pub taken : (t w : ℕ) → (heap_of s.ledger t).worker ≡ Some w → slice_get s.taken w ≡ Some (Some t)

-- the accounts become these, and the count of the chunks in use theirs
abbrev pub went_on : AccountsValue → Ledger → AccountsValue
went_on s l = record s { ledger = l; used = in_use l }

-- the tasks that workers took last, after an entry
abbrev pub taken_after : List (Option ℕ) → ℕ → Kind → List (Option ℕ)
taken_after taken w (Took t) = slice_set taken w (Some t)
taken_after taken w _ = taken

-- the left one of the two children of which t is one
abbrev pub left_of_pair : ℕ → ℕ
left_of_pair t = if is_left t then t else t - 1

-- each task with a parent is one of two children with consecutive numbers, above their parent's, and both have a heap
abbrev pub ChildrenArePaired : Ledger → Type 0
ChildrenArePaired l = (t p : ℕ) → parents l.machine.tasks t ≡ Some p → (p < left_of_pair t) × (left_of_pair t + 1 < length l.heaps)

-- the counts of accounts fit their types; this holds for every legal journal
pub record Steady (l : Ledger) : Type 0 where
  pub steps : l.steps < 2 ^ 30
  pub heaps : length l.heaps < 2 ^ 31
  pub words : (t : ℕ) → words_in l.machine (heap_of l t) < 2 ^ 27
  pub units : (t : ℕ) → units_in l.machine (heap_of l t) < 2 ^ 20
  pub in_use : in_use l < 2 ^ 20
  pub since : (t : ℕ) → (heap_of l t).since < 2 ^ 61
  pub snapshot : (t : ℕ) → length (heap_of l t).snapshot < 2 ^ 31
  pub owned : AreOwned l.machine.tasks l.heaps
  pub paired : ChildrenArePaired l

-- these heaps become those in which the task t has forked, in whose heap these names are reachable
abbrev pub Forks : List Heap → List Heap → ℕ → List Name → Type 0
Forks heaps after t names =
    (l : Ledger) → l.heaps ≡ heaps → with_heap (record l { heaps = heaps ++ fresh ∷ fresh ∷ [] }) t (forked_heap names) ≡ record l { heaps = after }

-- these heaps become those in which the two heaps from the left one on have joined the parent's
abbrev pub JoinsHeaps : List Heap → List Heap → ℕ → ℕ → Type 0
JoinsHeaps heaps after parent left = (l : Ledger) → l.heaps ≡ heaps → join_heaps l parent left ≡ record l { heaps = after }

-- THE STEPS OF ONE ENTRY

-- how the next step of a task fits in an entry
abbrev pub stood : SettingsValue → ProgramText → Ledger → ℕ → Stood
stood s p l t = if is_due s p l t || is_in_need p l t then Not else if is_private p l.machine t then More else Last

-- the accounts after it, if it fits
abbrev pub after_stood : ProgramText → Ledger → ℕ → Stood → Ledger
after_stood p l t Not = l
after_stood p l t Last = task_step p l t
after_stood p l t More = task_step p l t

-- the chunks that a heap uses, in units, except those of large objects
abbrev pub places_in : Heap → ℕ
places_in h = length h.chunks + h.reserved + begun_in h

-- the large object that the next step of t allocates, if that allocates w words
abbrev pub large_by : Ledger → ℕ → Option ℕ → Option Name
large_by l t None = None
large_by l t (Some w) = if is_small_size w then None else Some (record { task = t; count = length (row_of (slice_get l.machine.store t)) })

abbrev pub next_large : ProgramText → Ledger → ℕ → Option Name
next_large p l t = large_by l t (asked p l.machine t)

-- the chunks in use after a large object is placed: it is counted in place of the chunk that was reserved for it
abbrev pub used_by : ℕ → ℕ → MachineState → Option Name → ℕ
used_by used reserved m None = used
used_by used reserved m (Some n) = used - reserved + units (words_at m n)

-- the cached count of the chunks in use after the next step of t
abbrev pub used_after : ProgramText → Ledger → ℕ → ℕ
used_after p l t = if can_step l.machine t then used_by (in_use l) (heap_of l t).reserved (step p l.machine t) (next_large p l t) else in_use l

-- after each of the steps that fit in one entry the counts fit their types, and the count of the chunks in use is right
-- after the next one that fits
pub record StaysSteady (s : SettingsValue) (p : ProgramText) (l : Ledger) (t k : ℕ) : Type 0 where
  pub steady : (i : ℕ) → i ≤ standing s p l t k → Steady (task_steps p l t i)
  pub used : (i : ℕ) → i ≤ standing s p l t k → let q = task_steps p l t i in (is_due s p q t || is_in_need p q t) ≡ false → used_after p q t ≡ in_use (task_step p q t)

-- ENTRIES

-- why an entry is refused whatever its task
abbrev pub general_refusal : SettingsValue → Ledger → ℕ → Kind → Option Cause
general_refusal s l w kind =
    refused_if (is_some l.end) Over (refused_if (nat_le s.fuel l.steps && not (is_fuel kind)) (Spent l.steps) (refused_unless (nat_lt w s.workers) NoWorker None))
