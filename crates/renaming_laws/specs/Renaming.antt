-- Renumberings of tasks, applied to whatever names tasks.
use Rattle.std.specs.Prelude.{◌≡◌, ℕ, ◌≤◌, Option, map}
use Rattle.std.specs.Option.{option_map}
use Rattle.hh_model.specs.declared.data.Name.{Name}
use Rattle.hh_model.specs.declared.data.Strand.{Strand}
use Rattle.hh_model.specs.declared.data.Edge.{Edge}
use Rattle.hh_model.specs.declared.data.Object.{Object}
use Rattle.hh_model.specs.declared.data.Frame.{Frame}
use Rattle.hh_model.specs.declared.data.TaskStatus.{TaskStatus}
use Rattle.hh_model.specs.declared.data.TaskStatus.TheVariants.{Running, Waiting, Ended, Joined}
use Rattle.hh_model.specs.declared.data.Task.{Task}
use Rattle.hh_model.specs.declared.data.End.{End}
use Rattle.hh_model.specs.declared.data.End.TheVariants.{Done, Trapped, Entangled}
use Rattle.hh_model.specs.Step.{is_left, sibling}

-- f renames the tasks of machines that have at least n tasks, and g is its inverse: the root and the numbers from n on
-- stay, and children of one fork stay so, the left one left
pub record IsRenaming (n : ℕ) (f g : ℕ → ℕ) : Type 0 where
  pub back : (t : ℕ) → g (f t) ≡ t
  pub forth : (t : ℕ) → f (g t) ≡ t
  pub root : f 0 ≡ 0
  pub beyond : (t : ℕ) → n ≤ t → f t ≡ t
  pub sides : (t : ℕ) → is_left (f t) ≡ is_left t
  pub siblings : (t : ℕ) → sibling (f t) ≡ f (sibling t)

abbrev pub name_to : (ℕ → ℕ) → Name → Name
name_to f n = record n { task = f n.task }

abbrev pub ref_to : (ℕ → ℕ) → Option Name → Option Name
ref_to f r = option_map (name_to f) r

abbrev pub strand_to : (ℕ → ℕ) → Strand → Strand
strand_to f s = record s { task = f s.task }

abbrev pub edge_to : (ℕ → ℕ) → Edge → Edge
edge_to f e = record { source = strand_to f e.source; target = strand_to f e.target }

abbrev pub object_to : (ℕ → ℕ) → Object → Object
object_to f o = record o { strand = strand_to f o.strand; refs = map (ref_to f) o.refs }

abbrev pub frame_to : (ℕ → ℕ) → Frame → Frame
frame_to f x = record x { refs = map (ref_to f) x.refs }

abbrev pub status_to : (ℕ → ℕ) → TaskStatus → TaskStatus
status_to f Running = Running
status_to f Waiting = Waiting
status_to f (Ended k r) = Ended k (ref_to f r)
status_to f Joined = Joined

abbrev pub task_to : (ℕ → ℕ) → Task → Task
task_to f x = record x { parent = option_map f x.parent; status = status_to f x.status; top = frame_to f x.top; below = map (frame_to f) x.below }

abbrev pub end_to : (ℕ → ℕ) → End → End
end_to f Done = Done
end_to f (Trapped kind t line) = Trapped kind (f t) line
end_to f (Entangled reader owner) = Entangled (f reader) (f owner)
