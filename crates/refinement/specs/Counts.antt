-- How an entry without steps changes the tree and the counts of the shared value.
use Rattle.std.specs.Prelude.{◌≡◌, ℕ, ◌+◌, Bool, true, false, Some, nat_lt, option_map}
use Rattle.refinement.specs.Common.{ProgramText, asked, SettingsValue, Kind, Took, Ran, Chunk, Begin, End, PutOff, Mark, More, Sweep, Fuel, Ledger, Pool, chunk_units, heap_of, take_of, Out, TaskNode}
use Rattle.run_ledger.specs.declared.data.RunEnd.TheVariants.{Fuel as FuelEnd}
use Rattle.refinement.specs.Whole.{TreeCounts}

-- the tree, the tasks of workers, the steps and the outputs are unchanged
pub record SameCounts (c c' : TreeCounts) : Type 0 where
  pub node : (u : ℕ) → c'.node u ≡ c.node u
  pub task_out : (w : ℕ) → c'.task_out w ≡ c.task_out w
  pub steps : c'.steps ≡ c.steps
  pub outputs : c'.outputs ≡ c.outputs

-- the worker w takes the task t
pub record TakesNode (c c' : TreeCounts) (w t : ℕ) : Type 0 where
  pub task_out : c'.task_out w ≡ Some t
  pub tasks_out : (u : ℕ) → (u ≡ w → ⊥) → c'.task_out u ≡ c.task_out u
  pub node : c'.node t ≡ option_map (λ (n : TaskNode). record n { state = Out }) (c.node t)
  pub others : (u : ℕ) → (u ≡ t → ⊥) → c'.node u ≡ c.node u
  pub used : c'.used ≡ c.used
  pub steps : c'.steps ≡ c.steps
  pub outputs : c'.outputs ≡ c.outputs
  pub end : c'.end ≡ c.end

-- a chunk of n units is asked for: too few are free, or it is given
abbrev pub AsksUnits : Bool → TreeCounts → TreeCounts → ℕ → Type 0
AsksUnits true c c' asks = (c'.used ≡ c.used) × (c'.end ≡ Some (Pool c.used))
AsksUnits false c c' asks = (c'.used ≡ c.used + asks) × (c'.end ≡ c.end)

abbrev pub CountsGo : ProgramText → SettingsValue → Ledger → TreeCounts → TreeCounts → ℕ → Kind → Type 0
CountsGo p s l c c' w (Took t) = TakesNode c c' w t
CountsGo p s l c c' w (Chunk t) = let asks : ℕ = chunk_units (asked p l.machine t) in SameCounts c c' × AsksUnits (nat_lt s.chunks (c.used + asks)) c c' asks
CountsGo p s l c c' w (Begin t) = SameCounts c c' × (c'.used ≡ c.used + take_of l.machine (heap_of l t)) × (c'.end ≡ c.end)
CountsGo p s l c c' w (End t taken given left) = SameCounts c c' × (c'.used + given ≡ c.used) × (c'.end ≡ c.end)
CountsGo p s l c c' w (Sweep t given) = SameCounts c c' × (c'.used + given ≡ c.used) × (c'.end ≡ c.end)
CountsGo p s l c c' w (PutOff t) = SameCounts c c' × (c'.used ≡ c.used) × (c'.end ≡ c.end)
CountsGo p s l c c' w (Mark t) = SameCounts c c' × (c'.used ≡ c.used) × (c'.end ≡ c.end)
CountsGo p s l c c' w (More t n) = SameCounts c c' × (c'.used ≡ c.used) × (c'.end ≡ c.end)
CountsGo p s l c c' w Fuel = SameCounts c c' × (c'.used ≡ c.used) × (c'.end ≡ Some (FuelEnd c.steps))
CountsGo p s l c c' w (Ran t k) = ⊥

-- an entry that moves no object and keeps each task with its worker
abbrev pub IsQuiet : Kind → Type 0
IsQuiet (Chunk t) = Unit {0}
IsQuiet (Begin t) = Unit {0}
IsQuiet (PutOff t) = Unit {0}
IsQuiet (Mark t) = Unit {0}
IsQuiet (More t n) = Unit {0}
IsQuiet Fuel = Unit {0}
IsQuiet _ = ⊥

-- the heap that it marks further
abbrev pub IsMarked : Kind → ℕ → Type 0
IsMarked (Mark t) u = t ≡ u
IsMarked (More t n) u = t ≡ u
IsMarked _ u = ⊥
