-- The invariant of the shared value, in terms of its accounts; and before the run's end, of the parts that fit.
use Rattle.core_invariant.proofs.Common.{◌≡◌, ℕ, false, Option, Some, None, is_some, length, option_map, slice_get, refl, ap, sym, subst, ◌∙◌, option_flatten, Done, Trapped, Entangled, MachineState, Running, Task, is_waiting, runs_idle, runs_is, Heap, Ledger, RunEnd, Fuel, Machine, Pool, heap_at, heap_of, in_use, let_go, units_in, with_heap_at, out_from, machine_goes_on, units_in_use, TaskNode, PartFits, FitsAt, StandsFor, as_node, by_end, handed, tasks_out_are_told, Private, SharedValue, accounts, tree_counts_of, value_of, IsSharedValue, WorkerPartFits, part_of}
use Rattle.refinement_laws.proofs.parts.Workers as workers
use Rattle.core_invariant.proofs.OneAccount.{sum_put}
use Rattle.core_invariant.proofs.SameLength.{same_length}

-- what holds for each task and its node holds for a position of the tree and the same position of the machine's tasks
pub by_node : (P : Option TaskNode → Option Task → Type 0) (worker : Option ℕ) → P None None → ((x : Task) → P (Some (as_node worker x)) (Some x)) → (n : Option TaskNode) (x : Option Task) → n ≡ option_map (as_node worker) x → P n x
by_node P worker none some n x e = subst (λ (z : Option TaskNode). P z x) (sym e) (by_node_by_cases x)
  where
    by_node_by_cases : (o : Option Task) → P (option_map (as_node worker) o) o
    by_node_by_cases None = none
    by_node_by_cases (Some y) = some y

-- releasing a task changes nothing else
pub record LetsGo (l l' : Ledger) : Type 0 where
  pub machine : l'.machine ≡ l.machine
  pub steps : l'.steps ≡ l.steps
  pub end : l'.end ≡ l.end
  pub used : in_use l' ≡ in_use l

lets_go : (l : Ledger) (t : ℕ) → LetsGo l (with_heap_at l t let_go (heap_at l t))
lets_go l t = lets_go_by_cases (heap_at l t) refl
  where
    lets_go_by_cases : (o : Option Heap) → heap_at l t ≡ o → LetsGo l (with_heap_at l t let_go o)
    lets_go_by_cases None e = record { machine = refl; steps = refl; end = refl; used = refl }
    lets_go_by_cases (Some h) e = record { machine = refl; steps = refl; end = refl; used = sum_put (units_in l.machine) l.heaps t h (let_go h) e refl }

none_goes : (l : Ledger) → LetsGo l l
none_goes l = record { machine = refl; steps = refl; end = refl; used = refl }

pub goes_by : (l : Ledger) (o : Option RunEnd) → LetsGo l (by_end l o)
goes_by l None = none_goes l
goes_by l (Some (Fuel n)) = none_goes l
goes_by l (Some (Pool n)) = none_goes l
goes_by l (Some (Machine Done)) = lets_go l 0
goes_by l (Some (Machine (Trapped kind t line))) = none_goes l
goes_by l (Some (Machine (Entangled t u))) = none_goes l

module _ (w : SharedValue) (I : IsSharedValue w) where
  goes_on : LetsGo (accounts w) (handed (accounts w))
  goes_on = goes_by (accounts w) (accounts w).end

  pub end_now : w.end ≡ (accounts w).end
  end_now = I.stands.tree_counts.end ∙ goes_on.end

  pub steps_now : w.steps ≡ (accounts w).steps
  steps_now = I.stands.tree_counts.steps ∙ goes_on.steps

  pub outputs_now : w.outputs ≡ (accounts w).machine.outputs
  outputs_now = I.stands.tree_counts.outputs ∙ ap (λ (m : MachineState). m.outputs) goes_on.machine

  pub used_now : units_in_use w.pool ≡ in_use (accounts w)
  used_now = I.stands.tree_counts.used ∙ goes_on.used

  -- what holds for each task and its node, whichever worker holds it
  pub node_now : (P : Option TaskNode → Option Task → Type 0) → P None None → ((x : Task) (worker : Option ℕ) → P (Some (as_node worker x)) (Some x)) → (t : ℕ) → P (slice_get w.tree t) (slice_get (accounts w).machine.tasks t)
  node_now P none some t =
      let k : Ledger = handed (accounts w) in
      subst (λ (m : MachineState). P (slice_get w.tree t) (slice_get m.tasks t)) goes_on.machine
      (by_node P (heap_of k t).worker none (λ x. some x (heap_of k t).worker) (slice_get w.tree t) (slice_get k.machine.tasks t) (I.stands.tree_counts.node t))

  -- as many tasks as nodes
  pub tree_long : length w.tree ≡ length (accounts w).machine.tasks
  tree_long = same_length w.tree (accounts w).machine.tasks (node_now (λ n x. is_some n ≡ is_some x) refl (λ x worker. refl))

  -- before the end it stands for the accounts themselves
  pub stands_now : (accounts w).end ≡ None → StandsFor (value_of w) (tree_counts_of w) (accounts w)
  stands_now on = subst (λ o. StandsFor (value_of w) (tree_counts_of w) (by_end (accounts w) o)) on I.stands

  pub task_out_now : (accounts w).end ≡ None → (k : ℕ) → option_flatten (slice_get w.tasks_out k) ≡ out_from k 0 (accounts w).heaps
  task_out_now on k = tasks_out_are_told (tree_counts_of w) (accounts w) (stands_now on).tree_counts k

-- A PART THAT FITS, before the run's end
module _ (w : SharedValue) (k : ℕ) (p : Private) (F : WorkerPartFits w k p) (on : (accounts w).end ≡ None) where
  pub alive : (accounts w).machine.end ≡ None
  alive = machine_goes_on w.program w.settings w.journal.items on

  pub part_now : PartFits w.program w.settings (part_of w.settings p) (value_of w) (accounts w)
  part_now = workers.part_now w.program w.settings (part_of w.settings p) (value_of w) (accounts w) alive F.fits

  pub fits_now : FitsAt w.program w.settings (part_of w.settings p) (value_of w) (accounts w)
  fits_now = part_now.fits

  pub status : F.fits.task.status ≡ Running
  status = runs_is F.fits.task.status F.fits.runs

  pub part_idle : is_waiting (slice_get (accounts w).machine.tasks p.task) ≡ false
  part_idle = runs_idle F.fits.task F.fits.is status
