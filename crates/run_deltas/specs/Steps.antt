-- What the steps of an entry change of objects and outputs.
use Rattle.std.specs.Prelude.{ℕ, zero, suc, Bool, Option, Some, None, List, [], ◌∷◌, ◌++◌, if◌then◌else◌}
use Rattle.run_deltas.specs.Common.{ProgramText, Name, Object, MachineState, object_at, step}
use Rattle.run_deltas.specs.declared.data.Value.TheVariants.{Reference}
use Rattle.run_deltas.specs.declared.data.Deed.{Deed}
use Rattle.run_deltas.specs.declared.data.Deed.TheVariants.{Allocates, Writes, Swaps, Freezes, Prints}
use Rattle.run_deltas.specs.declared.data.StepAct.{StepAct}
use Rattle.run_deltas.specs.declared.data.Change.{Change}
use Rattle.run_deltas.specs.declared.data.Change.TheVariants.{New, Set, Froze, Print}
use Rattle.run_deltas.specs.declared.data.Changes.{Changes}
use Rattle.run_deltas.specs.Deeds.{act_of}

-- a new object as it is in this state
abbrev pub born : Name → Option Object → List Change
born n None = []
born n (Some x) = New (record { name = n; mutable = x.mutable; refs = x.refs; ints = x.ints }) ∷ []

-- a swap writes where the field was what was expected
abbrev pub swap : Name → ℕ → Option Name → Bool → List Change
swap n at r swapped = if swapped then Set (record { name = n; field = at; value = Reference r }) ∷ [] else []

-- what a step changes by what it does, after which the state is this
abbrev pub changed_by : MachineState → Option Deed → List Change
changed_by m (Some (Allocates n)) = born n (object_at m.store n)
changed_by m (Some (Writes n at v)) = Set (record { name = n; field = at; value = v }) ∷ []
changed_by m (Some (Swaps n at r swapped)) = swap n at r swapped
changed_by m (Some (Freezes n)) = Froze n ∷ []
changed_by m (Some (Prints k)) = Print k ∷ []
changed_by m _ = []

-- with a step more, which led to this state
abbrev pub with_act : MachineState → Changes → Option StepAct → Changes
with_act m c None = c
with_act m c (Some a) = record { last = Some a; all = c.all ++ changed_by m a.deed }

abbrev pub unchanged : Changes
unchanged = record { last = None; all = [] }

-- the state after so many steps of a task
abbrev pub stepped : ProgramText → MachineState → ℕ → ℕ → MachineState
stepped p m t zero = m
stepped p m t (suc k) = step p (stepped p m t k) t

-- what these steps change
abbrev pub changes : ProgramText → MachineState → ℕ → ℕ → Changes
changes p m t zero = unchanged
changes p m t (suc k) = with_act (stepped p m t (suc k)) (changes p m t k) (act_of p (stepped p m t k) t)
