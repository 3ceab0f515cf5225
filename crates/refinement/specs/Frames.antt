-- The terms of the frame law: two accounts that agree for a task, and two parts beside each other.
use Rattle.std.specs.Prelude.{List, [], ◌∷◌, ◌≡◌, ◌⊎◌, ℕ, true, false, Some, slice_get, is_some}
use Rattle.refinement.specs.Common.{Addr, Running, Task, is_waiting, is_joined, is_running, can_step, Ledger, heap_of, SoundLedger, collecting, Rests, StepsAlone, ChangesHeap, WorkerTakes, ProgramText, SettingsValue}
use Rattle.refinement.specs.Memory.{Belongings, Memory}
use Rattle.refinement.specs.Fits.{FitsAt, ahead, Part, with_belongings}
use Rattle.refinement.specs.Changes.{Moves}

-- the running task t has begun its collection
pub record Collects (l : Ledger) (t : ℕ) (x : Task) : Type 0 where
  pub task : slice_get l.machine.tasks t ≡ Some x
  pub runs : x.status ≡ Running
  pub begun : is_some (heap_of l t).begun ≡ true
  pub rests : Rests l t

-- a part has taken no steps since it began a collection
abbrev pub IsSteady : Part → Ledger → Type 0
IsSteady q l = (q.fresh ≡ 0) ⊎ (collecting (slice_get l.heaps q.task) ≡ false)

-- a running task with a part
pub record RunsWithPart (l : Ledger) (q : Part) (x : Task) : Type 0 where
  pub task : slice_get l.machine.tasks q.task ≡ Some x
  pub runs : is_running (Some x) ≡ true
  pub can : can_step l.machine q.task ≡ true
  pub steady : IsSteady q l

-- two parts that are out, of two tasks
pub record AreOut (l : Ledger) (q r : Part) (x y : Task) : Type 0 where
  pub first : RunsWithPart l q x
  pub second : RunsWithPart l r y
  pub apart : q.task ≡ r.task → ⊥

-- the parts of t and u, with belongings g and h: t rests in lt, u in k, both in K
pub record Beside (lt k K : Ledger) (t u : ℕ) : Type 0 where
  pub apart : t ≡ u → ⊥
  pub sound_t : SoundLedger lt
  pub sound_u : SoundLedger k
  pub sound : SoundLedger K
  pub steps_t : StepsAlone lt K u
  pub steps_u : StepsAlone k K t
  pub idle_t : is_waiting (slice_get K.machine.tasks t) ≡ false
  pub idle_u : is_waiting (slice_get K.machine.tasks u) ≡ false
  pub live_t : is_joined (slice_get K.machine.tasks t) ≡ false
  pub live_u : is_joined (slice_get K.machine.tasks u) ≡ false

-- The end of a collection of t. Of the memories v and v' before and after it, t's belongings were g and are g', and
-- those of the other part, of u, are h. Of the accounts, t rests in lt and lt', u has taken its steps and rests in k
-- and k', and both in K and K'.
pub record EndsBeside (v v' : Memory) (lt lt' k k' K K' : Ledger) (t u w : ℕ) (g g' h : Belongings) (x : Task) (f : Addr → Addr) : Type 0 where
  pub apart : t ≡ u → ⊥
  pub sound_t : SoundLedger lt
  pub sound_u : SoundLedger k
  pub sound : SoundLedger K
  pub steps_t : StepsAlone lt K u
  pub steps_u : StepsAlone k K t
  pub steps_t' : StepsAlone lt' K' u
  pub collects : Collects K t x
  pub survivors : (heap_of K t).survivors ≡ (heap_of lt t).survivors
  pub ends : ChangesHeap lt lt' t
  pub machine : K'.machine ≡ K.machine
  pub heap : heap_of K' u ≡ heap_of K u
  pub rests : Rests K u
  pub idle : is_waiting (slice_get K.machine.tasks u) ≡ false
  pub live : is_joined (slice_get K.machine.tasks u) ≡ false
  pub moves : Moves (with_belongings v t g) (with_belongings v' t g') lt lt' t (heap_of lt t).survivors f
  pub takes : WorkerTakes K' k' t w

-- ALL PARTS: each fits the memory and is out, and no two are of one task

abbrev pub NotOf : ℕ → List Part → Type 0
NotOf t [] = Unit {0}
NotOf t (r ∷ rs) = (t ≡ r.task → ⊥) × NotOf t rs

abbrev pub AllFitAt : ProgramText → SettingsValue → List Part → Memory → Ledger → Type 0
AllFitAt p s [] v l = Unit {0}
AllFitAt p s (q ∷ qs) v l = FitsAt p s q v l × (x : Task) × RunsWithPart l q x × NotOf q.task qs × AllFitAt p s qs v l

-- the memory with all their belongings, and the accounts with all their steps, their tasks at rest
abbrev pub with_all_belongings : Memory → List Part → Memory
with_all_belongings v [] = v
with_all_belongings v (q ∷ qs) = with_all_belongings (with_belongings v q.task q.belongings) qs

abbrev pub all_ahead : ProgramText → List Part → Ledger → Ledger
all_ahead p [] l = l
all_ahead p (q ∷ qs) l = all_ahead p qs (ahead p q l)
