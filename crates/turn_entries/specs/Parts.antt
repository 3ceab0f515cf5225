-- What a worker holds between its turns, and how it goes on.
use Rattle.std.specs.Prelude.{◌≡◌, ℕ, ◌≤◌, Option, Some, None}
use Rattle.std.specs.declared.snapshot.Snapshot.{Snapshot}
use Rattle.turn_entries.specs.Common.{ProgramText, EntryValue, private_limit, Private, Paused, Spent, Pauses, WorkerPartFits, CopyingHasBegun, IsSharedValue, SharedValue, accounts, machine_after, FitsCopied, SeatView}
use Rattle.turn_entries.specs.declared.between_turns.Collecting.{Collecting}
use Rattle.turn_entries.specs.declared.between_turns.Copied.{Copied}
use Rattle.turn_entries.specs.declared.between_turns.Next.{Next}
use Rattle.turn_entries.specs.declared.between_turns.Next.TheVariants.{Running, Collecting as Collects, Copied as HasCopied, Found as GoesFor, Idle, Stop}
use Rattle.turn_entries.specs.declared.between_turns.Ready.{Ready}
use Rattle.turn_entries.specs.declared.between_turns.Ready.TheVariants.{Paused as HasPaused, Copied as IsCopied, Found, OutOfMemory}
use Rattle.turn_entries.specs.declared.run.Run.{Run}
use Rattle.turn_entries.specs.declared.run.Setup.{Setup}

-- what a seat knows of such a value
abbrev pub Sight : Type 0 → Type 0
Sight P = SeatView (Run P) EntryValue (Snapshot Private) Setup

-- a value that runs this program, and hasn't ended
pub record RunGoesOn (p : ProgramText) (w : SharedValue) : Type 0 where
  pub shared : IsSharedValue w
  pub program : w.program ≡ p
  pub goes : (accounts w).end ≡ None

-- ---- AT A VALUE

-- the part may take steps
pub record MayRun (w : SharedValue) (k : ℕ) (part : Private) : Type 0 where
  pub fits : WorkerPartFits w k part
  pub few : part.fresh ≤ private_limit
  pub idle : part.begun ≡ None

-- the part has taken private steps, at most as many as one entry holds, and this is why they paused
pub record IsPaused (w : SharedValue) (k : ℕ) (part : Private) (why : Paused) : Type 0 where
  pub may : MayRun w k part
  pub next : Pauses w.program part (machine_after w part) why
  pub spent : why ≡ Spent → part.fresh ≡ private_limit

-- the part's leaf collection has begun, and its heap may be copied
pub record MayCopy (w : SharedValue) (k : ℕ) (c : Collecting) : Type 0 where
  pub fits : WorkerPartFits w k c.part
  pub fresh : c.part.fresh ≡ 0
  pub before : Private
  pub begun : CopyingHasBegun before c.part c.lists.roots.items c.lists.to_chunks

-- ---- WHATEVER THE VALUE IS

-- this part has come from the recorded one by steps of its own
abbrev pub HasGrown : ProgramText → ℕ → Private → Private → Paused → Type 0
HasGrown p k kept part why = (w : SharedValue) → RunGoesOn p w → WorkerPartFits w k kept → IsPaused w k part why

-- the part fits for the end of its collection
abbrev pub WasCopied : ProgramText → ℕ → Copied → Type 0
WasCopied p k c = (w : SharedValue) → RunGoesOn p w → WorkerPartFits w k c.begun.value → FitsCopied w k c.part c.moved

-- ---- BETWEEN TURNS: p is the program, and k the worker

-- the seat records this part
abbrev pub KeepsPart : Option (Snapshot Private) → Private → Type 0
KeepsPart o part = (s : Snapshot Private) × (o ≡ Some s) × (s.value ≡ part)

-- what was recorded fits some value
abbrev pub AtSome : ProgramText → (SharedValue → Type 0) → Type 0
AtSome p Here = (w : SharedValue) × RunGoesOn p w × Here w

-- what the worker goes on with after its turn, if its seat records this
abbrev pub GoesWith : ProgramText → ℕ → Option (Snapshot Private) → Next → Type 0
GoesWith p k kept (Running part) = KeepsPart kept part × AtSome p (λ w. MayRun w k part)
GoesWith p k kept (Collects c) = KeepsPart kept c.part × AtSome p (λ w. MayCopy w k c)
GoesWith p k kept (HasCopied c) = KeepsPart kept c.begun.value × WasCopied p k c
GoesWith p k kept _ = Unit {0}

-- what it brings to its turn
abbrev pub ComesWith : ProgramText → ℕ → Option (Snapshot Private) → Ready → Type 0
ComesWith p k kept (HasPaused part why) = (before : Private) × KeepsPart kept before × HasGrown p k before part why
ComesWith p k kept (IsCopied c) = KeepsPart kept c.begun.value × WasCopied p k c
ComesWith p k kept _ = Unit {0}

-- ---- IN A TURN

-- the same if the worker has the value w
abbrev pub BringsTo : SharedValue → ℕ → Ready → Type 0
BringsTo w k (HasPaused part why) = (kept : Private) × WorkerPartFits w k kept × HasGrown w.program k kept part why
BringsTo w k (IsCopied c) = WorkerPartFits w k c.begun.value × WasCopied w.program k c
BringsTo w k _ = Unit {0}

-- what it may go on with if it gives this value back
abbrev pub TakesFrom : SharedValue → ℕ → Next → Type 0
TakesFrom w k (Running part) = ((accounts w).end ≡ None) × MayRun w k part
TakesFrom w k (Collects c) = ((accounts w).end ≡ None) × MayCopy w k c
TakesFrom w k (HasCopied c) = WorkerPartFits w k c.begun.value × WasCopied w.program k c
TakesFrom w k _ = Unit {0}

-- how a worker goes on after it has paid what it owed
abbrev pub next_after : Ready → Next
next_after (HasPaused part why) = Running part
next_after (IsCopied c) = HasCopied c
next_after (Found (Some t)) = GoesFor t
next_after (Found None) = Idle
next_after OutOfMemory = Stop

-- the result of a part's steps
abbrev pub GrowsTo : ProgramText → ℕ → Private → Ready → Type 0
GrowsTo p k kept (HasPaused part why) = HasGrown p k kept part why
GrowsTo p k kept (IsCopied c) = ⊥
GrowsTo p k kept (Found task) = ⊥
GrowsTo p k kept OutOfMemory = Unit {0}
