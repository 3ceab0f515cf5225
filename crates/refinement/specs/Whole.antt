-- The whole relation: belongings and what is noted, the tree and the counts, begun collections, and heaps that are
-- being marked.
use Rattle.std.specs.List.{IsDistinct}
use Rattle.std.specs.Prelude.{◌≡◌, ◌↔◌, ◌==◌, ◌&&◌, not, ℕ, ℤ, true, Option, Some, None, List, slice_get, length, option_map}
use Rattle.refinement.specs.Common.{TaskStatus, Running, Ended, Task, is_waiting, Ledger, RunEnd, Machine, Done, rested, Rests, heap_of, within, in_use, Ready, Out, Waiting as Waits, Joined as HasJoined, TaskState, TaskNode, Begun, Located}
use Rattle.hh_model.specs.declared.data.TaskStatus.TheVariants.{Waiting, Joined}
use Rattle.heap_tree.specs.declared.state.TaskState.TheVariants.{Ended as HasEnded}
use Rattle.refinement.specs.Memory.{Chunk, Memory, In, object_name, objects}
use Rattle.refinement.specs.MemoryStands.{MemoryStands}
use Rattle.refinement.specs.LeafCollectionBegins.{IsReachedAt}
use Rattle.refinement.specs.Marking.{MarkedBy}
use Rattle.refinement.specs.Since.{Since}

-- the state of a task in the tree, by its status and the worker that holds it
abbrev pub state_by : TaskStatus → Option ℕ → TaskState
state_by Running None = Ready
state_by Running (Some w) = Out
state_by Waiting w = Waits
state_by (Ended k n) w = HasEnded
state_by Joined w = HasJoined

-- a task as a node of the tree, by the worker that holds it
abbrev pub as_node : Option ℕ → Task → TaskNode
as_node w x = record { parent = x.parent; state = state_by x.status w }

-- the tree and the counts of the shared value
pub record TreeCounts : Type 0 where
  pub node : ℕ → Option TaskNode
  -- the task that a worker holds
  pub task_out : ℕ → Option ℕ
  pub used : ℕ
  pub steps : ℕ
  pub outputs : List ℤ
  pub end : Option RunEnd

pub record TreeCountsStand (c : TreeCounts) (l : Ledger) : Type 0 where
  pub node : (t : ℕ) → c.node t ≡ option_map (as_node (heap_of l t).worker) (slice_get l.machine.tasks t)
  pub task_out : (w t : ℕ) → c.task_out w ≡ Some t ↔ (heap_of l t).worker ≡ Some w
  pub used : c.used ≡ in_use l
  pub steps : c.steps ≡ l.steps
  pub outputs : c.outputs ≡ l.machine.outputs
  pub end : c.end ≡ l.end

-- a collection of t that has begun: the chunks taken are distinct, belong to t and are still empty, and what the
-- registers and the roots reach is what survives
pub record BegunStands (v : Memory) (l : Ledger) (t : ℕ) (b : Begun) : Type 0 where
  pub few : (heap_of l t).begun ≡ Some (length b.news)
  pub once : IsDistinct (λ j k. j == k) b.news
  pub owned : (k : ℕ) → In b.news k → v.owner k ≡ Some t
  pub apart : (k : ℕ) (c : Chunk) → In b.news k → In (v.belongings t).chunks c → c.number ≡ k → ⊥
  pub survivors : (o : Located) → In (objects v t) o → IsReachedAt (v.belongings t) b.roots o.at ↔ In (heap_of l t).survivors (object_name o)

-- t's collection begins: its belongings record the roots and the numbers of the new chunks b
pub record LeafCollectionBegins (v v' : Memory) (l l' : Ledger) (t : ℕ) (b : Begun) : Type 0 where
  pub belongings : v'.belongings t ≡ record (v.belongings t) { begun = Some b }
  pub heap : heap_of l' t ≡ record (heap_of l t) { begun = Some (length b.news); survivors = within l t }
  pub once : IsDistinct (λ j k. j == k) b.news
  pub owned : (k : ℕ) → In b.news k → v'.owner k ≡ Some t
  pub apart : (k : ℕ) (c : Chunk) → In b.news k → In (v.belongings t).chunks c → c.number ≡ k → ⊥

abbrev pub BegunBy : Memory → Ledger → ℕ → Option Begun → Type 0
BegunBy v l t None = (heap_of l t).begun ≡ None
BegunBy v l t (Some b) = BegunStands v l t b

-- after the run is done the root is returned, like any task that has ended
abbrev pub by_end : Ledger → Option RunEnd → Ledger
by_end l (Some (Machine Done)) = rested l 0
by_end l _ = l

abbrev pub handed : Ledger → Ledger
handed l = by_end l l.end

pub record StandsFor (v : Memory) (c : TreeCounts) (l : Ledger) : Type 0 where
  pub belongings : MemoryStands v l
  pub tree_counts : TreeCountsStand c l
  pub begun : (t : ℕ) → Rests l t → BegunBy v l t (v.belongings t).begun
  pub keeps : (t : ℕ) → (v.noted t).keeps ≡ (is_waiting (slice_get l.machine.tasks t) && not (heap_of l t).swept)
  pub since : (t : ℕ) → (v.noted t).keeps ≡ true → Since v l t
  pub marks : (t : ℕ) → (v.noted t).keeps ≡ true → MarkedBy v l t (v.noted t).marked

-- a memory stands for the accounts of a journal, done or not
abbrev pub StandsForAll : Memory → TreeCounts → Ledger → Type 0
StandsForAll v c l = StandsFor v c (handed l)
