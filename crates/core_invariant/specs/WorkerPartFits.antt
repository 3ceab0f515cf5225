-- The part that a worker holds fits the shared value.
use Rattle.std.specs.Prelude.{◌≡◌, ◌≢◌, ℕ, pos, Some, None}
use Rattle.core_invariant.specs.Common.{ProgramText, SettingsValue, field_limit, Ledger, heap_of, task_steps, FramesValue, aside, rested, Belongings, Part, part_for, WorkerFits, Private, ParkedTask, Work, Calls, Result}
use Rattle.core_invariant.specs.Measured.{IsMeasured}
use Rattle.core_invariant.specs.Stands.{HeapForm}
use Rattle.core_invariant.specs.SharedValue.{SharedValue, accounts, frames_down, belongings_with, value_of}

-- the belongings of a part, with the collection that it has begun
abbrev pub belongings_of_part : Private → Belongings
belongings_of_part p = record (belongings_with p.heap p.view p.allocations (frames_down p.frames) (pos 0, None)) { begun = p.begun }

-- with the limits of the settings
abbrev pub part_of : SettingsValue → Private → Part
part_of s p = part_for s p.task (belongings_of_part p) p.fresh

-- the accounts after the part's fresh steps, ignoring the machine's end
abbrev pub beyond : ProgramText → Ledger → Private → Ledger
beyond program l p = rested (task_steps program (aside l) p.task p.fresh) p.task

-- the part fits the value with these accounts: the worker holds its task, and what it holds fits, with the limits of
-- the settings
pub record FitsFor (w : SharedValue) (l : Ledger) (worker : ℕ) (p : Private) : Type 0 where
  pub out : (heap_of l p.task).worker ≡ Some worker
  pub fits : WorkerFits w.program w.settings (part_of w.settings p) (value_of w) l
  pub form : HeapForm p.heap
  pub measured : IsMeasured w.pool p
  pub leaf_limit : p.leaf_limit ≡ w.settings.leaf
  pub field_limit : p.field_limit ≡ field_limit w.settings.version

-- THE PART FITS
abbrev pub WorkerPartFits : SharedValue → ℕ → Private → Type 0
WorkerPartFits w worker p = FitsFor w (accounts w) worker p

-- the part of every other worker that fitted the value fits the new one
abbrev pub OthersFit : SharedValue → SharedValue → ℕ → Type 0
OthersFit w after worker = (k : ℕ) (p : Private) → k ≢ worker → WorkerPartFits w k p → WorkerPartFits after k p

-- and so does the part of each worker
abbrev pub EachPartStillFits : SharedValue → SharedValue → Type 0
EachPartStillFits w after = (k : ℕ) (p : Private) → WorkerPartFits w k p → WorkerPartFits after k p

-- the task has frames to go on with
abbrev pub HasFrames : Work → Type 0
HasFrames (Calls s) = Unit {0}
HasFrames (Result k r) = ⊥

-- the part of a task that no worker held, without fresh steps
abbrev pub taken_part : ℕ → ℕ → ℕ → ParkedTask → FramesValue → Private
taken_part task leaf_limit field_limit r s = record { task = task; frames = s; heap = r.heap; view = r.view; allocations = r.allocations; leaf_limit = leaf_limit; field_limit = field_limit; fresh = 0; begun = None }
