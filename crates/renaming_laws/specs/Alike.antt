-- Two machines that are equal except for the numbers of tasks, the order of edges and the outputs.
use Rattle.std.specs.Prelude.{◌≡◌, ◌↔◌, ℕ, length, map, slice_get}
use Rattle.std.specs.Option.{option_map}
use Rattle.plain_vec.specs.Members.{In}
use Rattle.hh_model.specs.declared.data.Edge.{Edge}
use Rattle.hh_model.specs.declared.data.MachineState.{MachineState}
use Rattle.renaming_laws.specs.Renaming.{edge_to, object_to, task_to, end_to}

-- m' is m with each task t renamed to f t
pub record AreRenamed (f : ℕ → ℕ) (m m' : MachineState) : Type 0 where
  pub limit : m'.field_limit ≡ m.field_limit
  pub count : length m'.tasks ≡ length m.tasks
  pub tasks : (t : ℕ) → slice_get m'.tasks (f t) ≡ option_map (task_to f) (slice_get m.tasks t)
  pub objects : (t : ℕ) → slice_get m'.store (f t) ≡ option_map (map (object_to f)) (slice_get m.store t)
  pub edges : (e : Edge) → In m'.edges (edge_to f e) ↔ In m.edges e
  pub end : m'.end ≡ option_map (end_to f) m.end
