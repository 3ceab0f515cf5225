-- What a worker does in its turn.
use Rattle.std.specs.Prelude.{◌≡◌, ◌⊎◌, ℕ, ◌+◌, true, false, Option, Some, None, is_some, length, Result}
use Rattle.entry_calls.specs.declared.answers.Ran.{Ran as RanOf}
use Rattle.turn_entries.specs.Common.{Kind, Took, Ran, Private, Shared, refused, EachPartStillFits, WorkerPartFits, IsSharedValue, SharedValue, accounts, running_parent, HoldsNone, EntersLeaving, NotLeft}
use Rattle.turn_entries.specs.declared.act.TurnOutcome.{TurnOutcome}
use Rattle.turn_entries.specs.declared.act.TurnOutcome.TheVariants.{Entered, Same}
use Rattle.turn_entries.specs.declared.between_turns.Next.{Next}
use Rattle.turn_entries.specs.declared.between_turns.Next.TheVariants.{Running, Collecting as Collects, Copied as HasCopied, Found as GoesFor, Forked, Resumed, Idle, Waits, Stop}
use Rattle.turn_entries.specs.declared.between_turns.Ready.{Ready}
use Rattle.turn_entries.specs.declared.between_turns.Ready.TheVariants.{Paused as HasPaused, Copied as IsCopied, Found}
use Rattle.turn_entries.specs.Next.{is_out_of_memory, next_kind}
use Rattle.turn_entries.specs.Parts.{BringsTo, MayCopy, MayRun, WasCopied}
use Rattle.turn_entries.specs.Values.{EntersOne, NoEntryMade, is_over}

-- ---- HOW IT GOES ON AFTER ITS ENTRY

-- the run goes on after it
abbrev pub Goes : SharedValue → Type 0
Goes after = (accounts after).end ≡ None

-- the worker brought a part whose task has forked or ended, and holds none now
pub record GaveTaskUp (after : SharedValue) (k : ℕ) (ready : Ready) : Type 0 where
  pub part : Private
  pub brought : ready ≡ HasPaused part Shared
  pub none : HoldsNone after k

-- with the part of the task that it holds; with what it brought; with what its step made ready; and it stops only if
-- the run has ended
abbrev pub ComesNext : SharedValue → SharedValue → ℕ → Ready → Next → Type 0
ComesNext w after k ready (Running part) = Goes after × MayRun after k part
ComesNext w after k ready (Collects c) = Goes after × MayCopy after k c
ComesNext w after k ready (HasCopied c) = Goes after × (ready ≡ IsCopied c) × WorkerPartFits after k c.begun.value × WasCopied after.program k c
ComesNext w after k ready (GoesFor t) = Goes after × (ready ≡ Found (Some t))
ComesNext w after k ready (Forked left right) = Goes after × GaveTaskUp after k ready × (left ≡ length (accounts w).machine.tasks) × (right ≡ left + 1)
ComesNext w after k ready (Resumed t) = Goes after × (p : GaveTaskUp after k ready) × (running_parent (accounts after).machine.tasks p.part.task ≡ Some t)
ComesNext w after k ready Idle = Goes after × ((ready ≡ Found None) ⊎ ((p : GaveTaskUp after k ready) × (running_parent (accounts after).machine.tasks p.part.task ≡ None)))
ComesNext w after k ready Waits = ⊥
ComesNext w after k ready Stop = is_some (accounts after).end ≡ true

-- a worker whose task has ended puts the parent on its deque, if that runs again, or looks for a task
abbrev pub after_end : Option ℕ → Next
after_end None = Idle
after_end (Some parent) = Resumed parent

-- ---- THE RESULT OF A TURN: w is the value that was taken, after the one to give back, and kind the entry that comes
-- next, if any

pub record MakesEntry (w after : SharedValue) (k : ℕ) (ready : Ready) (kind : Option Kind) (next : Next) : Type 0 where
  pub made : Kind
  pub is_next : kind ≡ Some made
  pub enters : EntersOne w after k made
  pub shared : IsSharedValue after
  pub on : after.halted ≡ false
  pub follows : ComesNext w after k ready next

-- no entry is made if the run is over, or is now because an allocation failed: the worker stops; if the task that it
-- brought can't be taken: it looks for another; or if it has found none: it waits
abbrev pub WhyNone : SharedValue → SharedValue → ℕ → Ready → Option Kind → Next → Type 0
WhyNone w after k ready kind Stop = (is_over after ≡ true) × (is_over w ≡ true → after ≡ w)
WhyNone w after k ready kind Idle = (is_over after ≡ false) × (t : ℕ) × (kind ≡ Some (Took t)) × (is_some (refused w (record { worker = k; kind = Took t })) ≡ true)
WhyNone w after k ready kind Waits = (is_over after ≡ false) × (is_over w ≡ false) × (ready ≡ Found None) × (kind ≡ None)
WhyNone w after k ready kind _ = ⊥

-- what the worker did for this entry, if any came next
abbrev pub ActsFor : SharedValue → SharedValue → ℕ → Ready → Option Kind → TurnOutcome → Type 0
ActsFor w after k ready kind (Entered next) = MakesEntry w after k ready kind next
ActsFor w after k ready kind (Same next) = NoEntryMade w after × WhyNone w after k ready kind next

-- WHAT THE WORKER DOES IN ITS TURN: it makes the entry that comes next, or none for one of these reasons
abbrev pub Acts : SharedValue → SharedValue → ℕ → Ready → TurnOutcome → Type 0
Acts w after k ready acted = ActsFor w after k ready (next_kind w k ready) acted

-- ---- HOW A TURN ENDS, in terms of the value afterwards

-- an entry was made, and the worker may go on in this way as long as the run does
abbrev pub EndsEntered : SharedValue → Next → TurnOutcome → Type 0
EndsEntered after next acted = (w : SharedValue) (k : ℕ) (ready : Ready) (kind : Kind) → EntersOne w after k kind → w.halted ≡ false → (Goes after → ComesNext w after k ready next)
    → ActsFor w after k ready (Some kind) acted

-- none was made up to this value, and then an allocation failed
abbrev pub EndsHalted : SharedValue → SharedValue → TurnOutcome → Type 0
EndsHalted same after acted = (w : SharedValue) (k : ℕ) (ready : Ready) (kind : Option Kind) → NoEntryMade w same → is_over w ≡ false → ActsFor w after k ready kind acted

-- the fresh steps of a part and its next one, which gives the part up, were committed with this result; or an
-- allocation failed
abbrev pub EndsLeft : SharedValue → SharedValue → Result RanOf NotLeft → TurnOutcome → Type 0
EndsLeft then after left acted = (w : SharedValue) (k : ℕ) (part : Private) → EntersLeaving w then k part left → w.halted ≡ false → Goes w
    → ActsFor w after k (HasPaused part Shared) (Some (Ran part.task (part.fresh + 1))) acted

-- an entry was made by which each part still fits, and the worker goes on with what it brought
abbrev pub EndsPaid : SharedValue → Ready → TurnOutcome → Type 0
EndsPaid after ready acted = (w : SharedValue) (k : ℕ) (kind : Kind) → IsSharedValue w → Goes w → is_out_of_memory ready ≡ false → BringsTo w k ready → EntersOne w after k kind → EachPartStillFits w after → w.halted ≡ false
    → ActsFor w after k ready (Some kind) acted

-- the worker makes this entry, whatever it brought
abbrev pub ActsAnyhow : SharedValue → SharedValue → ℕ → Kind → TurnOutcome → Type 0
ActsAnyhow w after k kind acted = (ready : Ready) → ActsFor w after k ready (Some kind) acted
