-- The shared value in turns, as the turn sees it.
use Rattle.std.specs.Prelude.{◌≡◌, ◌<◌, ℕ, ◌||◌, Bool, true, false, None, List, is_some}
use Rattle.std.specs.declared.snapshot.Snapshot.{Snapshot}
use Rattle.turn_entries.specs.Common.{EntryValue, Kind, Owed, Private, first_cause, Enters, EachPartStillFits, WorkerPartFits, OthersFit, SharedValue, accounts, owed_by}
use Rattle.turn_entries.specs.declared.run.Run.{Run}
use Rattle.turn_entries.specs.declared.run.Setup.{Setup}

abbrev pub worker_of : EntryValue → ℕ
worker_of e = e.worker

-- no more entries are made: the run has ended, or an allocation of some worker has failed
abbrev pub is_over : SharedValue → Bool
is_over w = w.halted || is_some (accounts w).end

-- whoever keeps the shared value
module _ {P : Type 0} (value : P → SharedValue) where
  abbrev pub journal_of : Run P → List EntryValue
  journal_of r = (value r.paced).journal.items

  abbrev pub setup_of : Run P → Setup
  setup_of r = record { program = (value r.paced).program; settings = (value r.paced).settings }

  -- a worker keeps a part that fits
  abbrev pub FitsSnapshot : Run P → ℕ → Snapshot Private → Type 0
  FitsSnapshot r k kept = WorkerPartFits (value r.paced) k kept.value

-- worker k may make an entry, for which there is capacity, and owes this
pub record MayEnter (w : SharedValue) (k : ℕ) (owes : Owed) : Type 0 where
  pub room : 0 < w.journal.room
  pub goes : (accounts w).end ≡ None
  pub on : w.halted ≡ false
  pub free : first_cause w.end w.steps w.settings k false ≡ None
  pub owed : owed_by w k ≡ owes

-- worker k may end the run, for which there is capacity, since the fuel is used up
pub record MayEnd (w : SharedValue) (k : ℕ) : Type 0 where
  pub room : 0 < w.journal.room
  pub worker : k < w.settings.workers
  pub goes : (accounts w).end ≡ None
  pub on : w.halted ≡ false
  pub spent : is_some (first_cause w.end w.steps w.settings k false) ≡ true

-- no entry was made, and all on which workers depend is the same
pub record NoEntryMade (w after : SharedValue) : Type 0 where
  pub journal : after.journal.items ≡ w.journal.items
  pub program : after.program ≡ w.program
  pub settings : after.settings ≡ w.settings
  pub all : EachPartStillFits w after

-- worker k made this entry
pub record EntersOne (w after : SharedValue) (k : ℕ) (kind : Kind) : Type 0 where
  pub enters : Enters w after (record { worker = k; kind = kind })
  pub others : OthersFit w after k
