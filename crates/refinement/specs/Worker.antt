-- What a worker holds fits a memory.
use Rattle.std.specs.Prelude.{◌≡◌, ℕ, true, Some, List, [], ◌∷◌, slice_get}
use Rattle.refinement.specs.Common.{ProgramText, SettingsValue, field_limit, Task, is_running, Ledger, Kind, Took, Ran, Chunk, Begin, End, PutOff, Mark, More, Sweep, Fuel, aside}
use Rattle.refinement.specs.Memory.{Memory}
use Rattle.refinement.specs.Fits.{Part}
use Rattle.refinement.specs.Frames.{IsSteady, NotOf}
use Rattle.refinement.specs.Copies.{PartFits}

-- its task runs, and with its belongings the memory stands for the accounts after its fresh steps, in which the task
-- rests; the machine's end is ignored
pub record WorkerFits (p : ProgramText) (s : SettingsValue) (q : Part) (v : Memory) (l : Ledger) : Type 0 where
  pub task : Task
  pub is : slice_get l.machine.tasks q.task ≡ Some task
  pub runs : is_running (Some task) ≡ true
  -- it has taken no step since it began a collection
  pub steady : IsSteady q l
  pub part : PartFits p s q v (aside l)
  pub leaf : q.leaf ≡ s.leaf
  pub fields : q.fields ≡ field_limit s.version

-- the task whose worker makes an entry, if that isn't an entry of steps
abbrev pub IsBy : Kind → ℕ → Type 0
IsBy (Took t) u = t ≡ u
IsBy (Ran t k) u = t ≡ u
IsBy (Chunk t) u = t ≡ u
IsBy (Begin t) u = t ≡ u
IsBy (End t taken given left) u = t ≡ u
IsBy (PutOff t) u = t ≡ u
IsBy (Mark t) u = ⊥
IsBy (More t n) u = ⊥
IsBy (Sweep t given) u = ⊥
IsBy Fuel u = ⊥

-- each of these fits, and no two are of one task
abbrev pub WorkersFit : ProgramText → SettingsValue → List Part → Memory → Ledger → Type 0
WorkersFit p s [] v l = Unit {0}
WorkersFit p s (q ∷ qs) v l = WorkerFits p s q v l × NotOf q.task qs × WorkersFit p s qs v l
