-- The deltas of a journal: what each entry changes.
use Rattle.std.specs.Prelude.{ℕ, List, [], ◌∷◌, length, slice_get}
use Rattle.run_deltas.specs.Common.{ProgramText, MachineState, start, Kind, Took, Ran, EntryValue}
use Rattle.run_deltas.specs.declared.data.Delta.{Delta}
use Rattle.run_deltas.specs.Steps.{unchanged, stepped, changes}
use Rattle.run_deltas.specs.Tasks.{now_out, moved, children}

-- the machine after an entry: its steps move it, and nothing else does
abbrev pub machine_after : ProgramText → MachineState → Kind → MachineState
machine_after p m (Ran t k) = stepped p m t k
machine_after p m _ = m

-- what an entry changes in front of which the machine is this
abbrev pub delta : ProgramText → MachineState → Kind → Delta
delta p m (Took t) = record { children = []; tasks = now_out p m t; changes = unchanged }
delta p m (Ran t k) =
    let after = stepped p m t k in
    record {
      children = children after (length m.tasks) (length after.tasks);
      tasks = moved p after (length m.tasks) t (slice_get after.tasks t);
      changes = changes p m t k;
    }
delta p m _ = record { children = []; tasks = []; changes = unchanged }

abbrev pub deltas_from : ProgramText → MachineState → List EntryValue → List Delta
deltas_from p m [] = []
deltas_from p m (e ∷ es) = delta p m e.kind ∷ deltas_from p (machine_after p m e.kind) es

-- the deltas of a journal, whose objects have at most so many fields
abbrev pub deltas : ProgramText → ℕ → List EntryValue → List Delta
deltas p limit journal = deltas_from p (start p limit) journal
