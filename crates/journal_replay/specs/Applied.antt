-- The effect of an entry on the world.
use Rattle.std.specs.Prelude.{◌≡◌, ℕ, ◌==◌, Bool, true, false, Option, Some, None, List, Result, Ok, Err, if◌then◌else◌}
use Rattle.heap_reading.specs.below.run_trace.{Kind, Fuel, Mark, More, Sweep, EntryValue}
use Rattle.heap_reading.specs.below.run_ledger.{Refused, Collecting, NotCollecting, NotOut}
use Rattle.heap_reading.specs.below.core_invariant.{NotEntered, NoMemory, Refuses, Enters, refused, EachPartStillFits, OthersFit, SharedValue}
use Rattle.fork_join_commit.specs.Joins.{SameButPlaces}
use Rattle.legal_calls.specs.below.entry_calls.{Ran, Done, Ended, Forked, Over}
use Rattle.journal_replay.specs.declared.out_part.OutPart.{OutPart}
use Rattle.journal_replay.specs.declared.out_part.OutPart.TheVariants.{Nothing, Part, Copied}
use Rattle.journal_replay.specs.declared.out_part.Made.{Made}
use Rattle.journal_replay.specs.declared.world.NotApplied.{NotApplied}
use Rattle.journal_replay.specs.declared.world.NotApplied.TheVariants.{Stopped, Refuses as IsRefused, NoMemory as WantsMemory}
use Rattle.journal_replay.specs.WorldValue.{AllHold, WorkerHolds, WorldValue}

-- the same shared value, except for the spare capacity of its journal
abbrev pub SameButRoomier : SharedValue → SharedValue → Type 0
SameButRoomier w after = after ≡ record w { journal = record { items = w.journal.items; room = after.journal.room } }

-- the same, except also for the spare capacities of heaps and sets
pub record SameButReserved (w after : SharedValue) : Type 0 where
  pub journal : after.journal.items ≡ w.journal.items
  pub rest : SameButPlaces w (record after { journal = w.journal })

-- ---- CAUSES FROM WHAT A WORKER HOLDS

-- why an entry for a task whose leaf collection hasn't begun is refused because of what its worker holds
abbrev pub idle_cause : OutPart → ℕ → Option Refused
idle_cause Nothing t = Some NotOut
idle_cause (Part p) t = if p.task == t then None else Some NotOut
idle_cause (Copied p moved) t = if p.task == t then Some Collecting else Some NotOut

-- and one for a task whose leaf collection has
abbrev pub copied_cause : OutPart → ℕ → Option Refused
copied_cause Nothing t = Some NotOut
copied_cause (Part p) t = if p.task == t then Some NotCollecting else Some NotOut
copied_cause (Copied p moved) t = if p.task == t then None else Some NotOut

-- what a worker holds after a step is committed that gives its part up
abbrev pub holding_of : Ran → OutPart
holding_of (Forked left right) = Nothing
holding_of (Ended resumed) = Nothing
holding_of (Over p) = Part p
holding_of Done = Nothing

-- ---- AN ENTRY OF A WORKER, and what the worker holds afterwards

-- an entry is for a task that its worker takes or holds
abbrev pub is_own : Kind → Bool
is_own (Mark t) = false
is_own (More t n) = false
is_own (Sweep t given) = false
is_own Fuel = false
is_own _ = true

pub record EntersFor (w after : SharedValue) (k : ℕ) (e : EntryValue) (holding : OutPart) : Type 0 where
  pub free : refused w e ≡ None
  pub enters : Enters w after e
  pub others : OthersFit w after k
  pub holds : WorkerHolds after false k holding

pub record RefusesFor (w after : SharedValue) (k : ℕ) (e : EntryValue) (cause : Refused) (holding : OutPart) : Type 0 where
  pub cause_is : refused w e ≡ Some cause
  pub same : after ≡ w
  pub holds : WorkerHolds after true k holding

pub record WantsFor (w after : SharedValue) (k : ℕ) (holding : OutPart) : Type 0 where
  pub same : SameButPlaces w after
  pub still : EachPartStillFits w after
  pub holds : WorkerHolds after true k holding

abbrev pub AnswersFor : SharedValue → SharedValue → ℕ → EntryValue → OutPart → Result (Unit {0}) NotEntered → Type 0
AnswersFor w after k e holding (Ok x) = EntersFor w after k e holding
AnswersFor w after k e holding (Err (Refuses cause)) = RefusesFor w after k e cause holding
AnswersFor w after k e holding (Err NoMemory) = WantsFor w after k holding

abbrev pub MakesFor : SharedValue → SharedValue → ℕ → EntryValue → Made → Type 0
MakesFor w after k e made = AnswersFor w after k e made.holding made.answer

-- ---- AN ENTRY FOR A TASK THAT NO WORKER HOLDS, or the end without fuel

pub record EntersApart (w after : SharedValue) (e : EntryValue) : Type 0 where
  pub free : refused w e ≡ None
  pub enters : Enters w after e
  pub fit : EachPartStillFits w after

abbrev pub AnswersApart : SharedValue → SharedValue → EntryValue → Result (Unit {0}) NotEntered → Type 0
AnswersApart w after e (Ok x) = EntersApart w after e
AnswersApart w after e (Err (Refuses cause)) = (refused w e ≡ Some cause) × (after ≡ w)
AnswersApart w after e (Err NoMemory) = after ≡ w

-- ---- AN ENTRY, and what all workers hold afterwards

pub record EntersAll (w after : SharedValue) (e : EntryValue) (holdings : List OutPart) : Type 0 where
  pub free : refused w e ≡ None
  pub enters : Enters w after e
  pub holds : AllHold after false holdings

pub record RefusesAll (w after : SharedValue) (e : EntryValue) (cause : Refused) (holdings : List OutPart) : Type 0 where
  pub cause_is : refused w e ≡ Some cause
  pub same : SameButRoomier w after
  pub holds : AllHold after true holdings

pub record WantsAll (w after : SharedValue) (holdings : List OutPart) : Type 0 where
  pub same : SameButReserved w after
  pub holds : AllHold after true holdings

abbrev pub AnswersAll : SharedValue → SharedValue → EntryValue → List OutPart → Result (Unit {0}) NotEntered → Type 0
AnswersAll w after e holdings (Ok x) = EntersAll w after e holdings
AnswersAll w after e holdings (Err (Refuses cause)) = RefusesAll w after e cause holdings
AnswersAll w after e holdings (Err NoMemory) = WantsAll w after holdings

-- ---- AN ENTRY OF THE WORLD

-- it is made: the world went on and goes on
pub record Applies (x y : WorldValue) (e : EntryValue) : Type 0 where
  pub went : x.stopped ≡ false
  pub free : refused x.shared e ≡ None
  pub enters : Enters x.shared y.shared e
  pub goes : y.stopped ≡ false

-- it is refused: the world went on, and has stopped; its shared value is unchanged
pub record IsStoppedBy (x y : WorldValue) (e : EntryValue) (cause : Refused) : Type 0 where
  pub went : x.stopped ≡ false
  pub cause_is : refused x.shared e ≡ Some cause
  pub same : SameButRoomier x.shared y.shared
  pub stops : y.stopped ≡ true

-- an allocation failed: the world went on, and has stopped; its shared value still stands
pub record WantedMemory (x y : WorldValue) : Type 0 where
  pub went : x.stopped ≡ false
  pub same : SameButReserved x.shared y.shared
  pub stops : y.stopped ≡ true

abbrev pub AppliesTo : WorldValue → WorldValue → EntryValue → Result (Unit {0}) NotApplied → Type 0
AppliesTo x y e (Ok u) = Applies x y e
AppliesTo x y e (Err Stopped) = (x.stopped ≡ true) × (y ≡ x)
AppliesTo x y e (Err (IsRefused cause)) = IsStoppedBy x y e cause
AppliesTo x y e (Err WantsMemory) = WantedMemory x y
