-- How a worker's hand finds and puts tasks: k is the worker.
use Rattle.std.specs.Prelude.{◌≡◌, ◌≢◌, ◌⊎◌, ℕ, ◌+◌, ◌%◌, ◌<◌, List, Option, Some, None, slice_get, length}
use Rattle.worker_run.specs.Common.{ProgramText, Hand, Theft, AreNewHands, ChangesAt, KeepsOwn, PutOnDeque, PutOnList, SameHand, TookFromDeque, TookFromList, TookNone, empty_pops, thefts, SameTheft, Stole, StoleNone, Collecting, Next, Running, Copied as HasCopied, Found as GoesFor, Forked, Resumed, Idle, Waits, Stop, Ready, Paused as HasPaused, OutOfMemory, GrowsTo, WasCopied}
use Rattle.turn_entries.specs.declared.between_turns.Next.TheVariants.{Collecting as Collects}
use Rattle.turn_entries.specs.declared.between_turns.Ready.TheVariants.{Copied as IsCopied, Found}

-- ---- TASKS ARE PUT

-- list, deque, ways to steal and counts are unchanged
pub record KeepsHand (old new : Hand) : Type 0 where
  pub same : SameHand old new
  pub own : KeepsOwn old new
  pub counted : empty_pops new ≡ empty_pops old
  pub thieves : thefts new ≡ thefts old

-- the task was put on the deque or on the list, as the last one, and nothing else changed
pub record Puts (old new : Hand) (task : ℕ) : Type 0 where
  pub same : SameHand old new
  pub put : PutOnDeque old new task ⊎ PutOnList old new task
  pub counted : empty_pops new ≡ empty_pops old
  pub thieves : thefts new ≡ thefts old

-- the hands of n workers: new ones, which reach each other's deques, and the first has put the root
pub record HaveRoot (n : ℕ) (hands : List Hand) : Type 0 where
  pub count : length hands ≡ n
  pub before : List Hand
  pub were_new : AreNewHands n before
  pub root : (h g : Hand) → slice_get before 0 ≡ Some h → slice_get hands 0 ≡ Some g → Puts h g 0
  pub others : (j : ℕ) → j ≢ 0 → slice_get hands j ≡ slice_get before j

-- ---- A TASK IS LOOKED FOR

-- the j-th worker after it among n, going round
abbrev pub after_it : ℕ → ℕ → ℕ → ℕ
after_it k n j = (k + j) % n

-- each of those before the j-th after it was tried once, and nothing was stolen; the others weren't tried
pub record TriedBefore (k j : ℕ) (old new : List Theft) : Type 0 where
  pub count : length new ≡ length old
  pub vain : (i : ℕ) → 0 < i → i < j → (t u : Theft) → slice_get old (after_it k (length old) i) ≡ Some t → slice_get new (after_it k (length old) i) ≡ Some u
      → SameTheft t u × StoleNone t u
  pub others : (v : ℕ) → ((i : ℕ) → 0 < i → i < j → v ≢ after_it k (length old) i) → slice_get new v ≡ slice_get old v

-- it was the newest of the own tasks
pub record FindsOwn (old new : Hand) (task : ℕ) : Type 0 where
  pub same : SameHand old new
  pub took : TookFromList old new task ⊎ TookFromDeque old new task
  pub counted : empty_pops new ≡ empty_pops old
  pub thieves : thefts new ≡ thefts old

-- there was no own one, and it was stolen from the j-th after it, after those before were tried in vain
pub record Steals (k : ℕ) (old new : Hand) (task : ℕ) : Type 0 where
  pub same : SameHand old new
  pub own : TookNone old new
  pub j : ℕ
  pub another : 0 < j
  pub within : j < length (thefts old)
  pub between : List Theft
  pub tried : TriedBefore k j (thefts old) between
  pub stole : ChangesAt between (thefts new) (after_it k (length (thefts old)) j) (Stole task)

-- there was no own one, and all others were tried in vain: nothing was taken
pub record FindsNone (k : ℕ) (old new : Hand) : Type 0 where
  pub same : SameHand old new
  pub own : TookNone old new
  pub tried : TriedBefore k (length (thefts old)) (thefts old) (thefts new)

-- WHAT A WORKER FINDS
abbrev pub Finds : ℕ → Hand → Hand → Option ℕ → Type 0
Finds k old new (Some task) = FindsOwn old new task ⊎ Steals k old new task
Finds k old new None = FindsNone k old new

-- ---- HOW A WORKER GOES ON BETWEEN TWO TURNS

-- it has looked for a task, and brings what it found
abbrev pub Looks : ℕ → Hand → Hand → Ready → Type 0
Looks k old new (HasPaused part why) = ⊥
Looks k old new (IsCopied c) = ⊥
Looks k old new (Found o) = Finds k old new o
Looks k old new OutOfMemory = ⊥

-- it has put the right child of its fork, and goes on with the left one; or an allocation has failed
abbrev pub SharesRight : ℕ → ℕ → Hand → Hand → Ready → Type 0
SharesRight left right old new (HasPaused part why) = ⊥
SharesRight left right old new (IsCopied c) = ⊥
SharesRight left right old new (Found o) = (o ≡ Some left) × Puts old new right
SharesRight left right old new OutOfMemory = KeepsHand old new

-- the heap of the part was copied
abbrev pub CopiesTo : ProgramText → ℕ → Collecting → Ready → Type 0
CopiesTo p k c (HasPaused part why) = ⊥
CopiesTo p k c (IsCopied d) = (d.begun.value ≡ c.part) × WasCopied p k d
CopiesTo p k c (Found o) = ⊥
CopiesTo p k c OutOfMemory = ⊥

-- WHAT A WORKER BRINGS: a part has taken steps of its own, or its heap was copied; a task is at hand, or was found
abbrev pub Prepares : ProgramText → ℕ → Next → Hand → Hand → Ready → Type 0
Prepares p k (Running part) old new ready = (new ≡ old) × GrowsTo p k part ready
Prepares p k (Collects c) old new ready = (new ≡ old) × CopiesTo p k c ready
Prepares p k (HasCopied c) old new ready = (new ≡ old) × (ready ≡ IsCopied c)
Prepares p k (GoesFor task) old new ready = (new ≡ old) × (ready ≡ Found (Some task))
Prepares p k (Forked left right) old new ready = SharesRight left right old new ready
Prepares p k (Resumed task) old new ready = (new ≡ old) × (ready ≡ Found (Some task))
Prepares p k Idle old new ready = Looks k old new ready
Prepares p k Waits old new ready = Looks k old new ready
Prepares p k Stop old new ready = ⊥
