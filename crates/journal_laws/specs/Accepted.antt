-- The conditions of each kind of entry: an entry is accepted if and only if they hold.
use Rattle.std.specs.Prelude.{◌≡◌, ◌↔◌, ◌⊎◌, ℕ, ◌+◌, ◌<◌, ◌≤◌, true, false, None, Some, slice_get, is_some}
use Rattle.journal_laws.specs.Common.{Kind, Took, Ran, Chunk, Begin, End, PutOff, Mark, More, Sweep, Fuel, EntryValue, SettingsValue, ProgramText, is_running, is_waiting, Ledger, end_numbers, heap_of, in_use, left_in, sweep_number, take_of, words_in, is_due, is_in_need, most_steps, standing, is_fuel, refusal}

-- the worker holds the task t
pub record WorkerHoldsTask (l : Ledger) (w t : ℕ) : Type 0 where
  pub runs : is_running (slice_get l.machine.tasks t) ≡ true
  pub out : (heap_of l t).worker ≡ Some w

-- the same, and no leaf collection of t goes on
pub record IsOutAt (l : Ledger) (w t : ℕ) : Type 0 where
  pub out : WorkerHoldsTask l w t
  pub idle : is_some (heap_of l t).begun ≡ false

-- t waits, and its heap wasn't swept since its last fork
pub record IsUnswept (l : Ledger) (t : ℕ) : Type 0 where
  pub waits : is_waiting (slice_get l.machine.tasks t) ≡ true
  pub unswept : (heap_of l t).swept ≡ false

-- the conditions of each kind of entry of the worker w
abbrev pub Allows : ProgramText → SettingsValue → Ledger → ℕ → Kind → Type 0
-- nobody holds the task, and the worker holds none
Allows p s l w (Took t) = (is_running (slice_get l.machine.tasks t) ≡ true) × ((heap_of l t).worker ≡ None) × ((u : ℕ) → (heap_of l u).worker ≡ Some w → ⊥)
-- this many steps fit in one entry
Allows p s l w (Ran t k) = IsOutAt l w t × (k ≤ most_steps) × (k ≤ standing s p l t k)
-- the next step's object doesn't fit yet, and no leaf collection is due
Allows p s l w (Chunk t) = IsOutAt l w t × (is_due s p l t ≡ false) × (is_in_need p l t ≡ true)
-- a leaf collection is due, and enough chunks are free for it
Allows p s l w (Begin t) = IsOutAt l w t × (is_due s p l t ≡ true) × (in_use l + take_of l.machine (heap_of l t) ≤ s.chunks)
-- it goes on, and the numbers are right
Allows p s l w (End t taken given left) = WorkerHoldsTask l w t × (is_some (heap_of l t).begun ≡ true) × ((taken, given, left) ≡ end_numbers l.machine (heap_of l t))
-- it is due, and too few chunks are free
Allows p s l w (PutOff t) = IsOutAt l w t × (is_due s p l t ≡ true) × (s.chunks < in_use l + take_of l.machine (heap_of l t))
-- nobody has begun to mark the heap, and it has enough words
Allows p s l w (Mark t) = IsUnswept l t × (is_some (heap_of l t).marked ≡ false) × (s.inner ≤ words_in l.machine (heap_of l t))
-- the heap is being marked, and something is left to mark
Allows p s l w (More t n) = IsUnswept l t × (is_some (heap_of l t).marked ≡ true) × (0 < left_in (heap_of l t))
-- all is marked, and the number is right
Allows p s l w (Sweep t given) = IsUnswept l t × (is_some (heap_of l t).marked ≡ true) × (left_in (heap_of l t) ≡ 0) × (given ≡ sweep_number l.machine (heap_of l t))
-- the fuel is used up
Allows p s l w Fuel = s.fuel ≤ l.steps

-- the run hasn't ended; fuel is left, unless the entry ends the run without fuel; the worker exists; and the entry is
-- allowed
pub record IsAccepted (p : ProgramText) (s : SettingsValue) (l : Ledger) (e : EntryValue) : Type 0 where
  pub on : l.end ≡ None
  pub fuel : (is_fuel e.kind ≡ true) ⊎ (l.steps < s.fuel)
  pub worker : e.worker < s.workers
  pub allows : Allows p s l e.worker e.kind

abbrev pub AcceptedIsAllowed : Type 0
AcceptedIsAllowed = (p : ProgramText) (s : SettingsValue) (l : Ledger) (e : EntryValue) → (refusal p s l e ≡ None) ↔ IsAccepted p s l e
