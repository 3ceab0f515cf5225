-- A worker takes a task.
use Rattle.core_invariant.proofs.Common.{◌≡◌, ℕ, ◌<◌, Bool, true, false, not, ◌&&◌, nat_le, nat_lt, Option, Some, None, List, [], ◌∷◌, ◌++◌, length, length-set, slice_get, slice_set, option_map, is_none, is_some, refl, ap, sym, subst, ◌∙◌, arith, option_flatten, IsSome, and_parts, false≢true, ltb-true, ReservedVecValue, got_same, got_other, got_within, got_set, none_is, none_some, Name, Task, Running, is_running, parent_of, parents, runs_is, Took, EntryValue, field_limit, Ledger, heap_of, Refused, NoWorker, Over, Spent, after, out_from, is_fuel, is_ready, kind_refusal, refused_holding, refused_if, refused_unless, entry_tells, none_unless, Addr, FramesValue, TaskState, Out, TaskNode, set_at, with_state, parent_in, Rests, Belongings, Memory, SameBut, TakesNode, LetsGo, FramesAreRead, HoldsRead, LiesWithOwner, part_for, WorkerFits, StandsFor, took_stands_for, took_fits_then, took_leaves, Private, ParkedTask, Work, Calls, Result, SharedValue, accounts, belongings_in, belongings_by, rest_at, tree_counts_of, value_of, IsSharedValue, WorkerPartFits, HasFrames, OthersFit, belongings_of_part, part_of, taken_part, Enters, refused}
use Rattle.refinement_laws.specs.below.heap_tree.{parent_of as parent_in_tree}
use Rattle.core_invariant.proofs.EntryMade.{ChangesRest, changed_form, entered_world, entry_on, fits_then, free_at_rest, free_before, part_fits, worker_when_out}
use Rattle.core_invariant.proofs.UnitsMeasured.{all_kept}
use Rattle.core_invariant.proofs.BeforeTheEnd.{node_now, task_out_now, stands_now}

-- the tree and the machine have the same parent, whether or not the run has ended
pub parent_is : (w : SharedValue) → IsSharedValue w → (t : ℕ) → parent_in_tree w.tree t ≡ parents (accounts w).machine.tasks t
parent_is w I t = node_now w I (λ n x. parent_in n ≡ parent_of x) refl (λ x worker. refl) t

pub some_flat : {A : Type 0} (o : Option (Option A)) (x : A) → option_flatten o ≡ Some x → o ≡ Some (Some x)
some_flat None x e = absurd cc
some_flat (Some o) x e = ap Some e

-- a running task exists
task_of : (o : Option Task) → is_running o ≡ true → (x : Task) × (o ≡ Some x) × (x.status ≡ Running)
task_of None h = absurd (false≢true h)
task_of (Some x) h = (x, refl, runs_is x.status h)

-- a task at rest that runs or waits has frames in the value
abbrev pub HasCalls : Option ParkedTask → Type 0
HasCalls None = ⊥
HasCalls (Some r) = (s : FramesValue) × (r.work ≡ Calls s)

pub has_calls : (at : Name → Addr → Type 0) (o : Option ParkedTask) (x : Task) → FramesAreRead at (belongings_in o).frames (x.top ∷ x.below) → HasCalls o
has_calls at None x h = absurd h
has_calls at (Some r) x h = has_calls_by_cases r.work refl h
  where
    has_calls_by_cases : (k : Work) → r.work ≡ k → FramesAreRead at (belongings_by r.heap r.view r.allocations k).frames (x.top ∷ x.below) → HasCalls (Some r)
    has_calls_by_cases (Calls s) q g = (s, q)
    has_calls_by_cases (Result n a) q g = absurd g

pub some_calls : (o : Option ParkedTask) → HasCalls o → IsSome o
some_calls None h = absurd h
some_calls (Some r) h = refl

worker_free : (a b c : Bool) (x y z : Refused) (rest : Option Refused) → refused_if a x (refused_if b y (refused_unless c z rest)) ≡ None → c ≡ true
worker_free true b c x y z rest h = absurd cc
worker_free false true c x y z rest h = absurd cc
worker_free false false true x y z rest h = refl
worker_free false false false x y z rest h = absurd cc

-- a worker that may make an entry is one of the run's
pub worker_there : (w : SharedValue) (e : EntryValue) → IsSharedValue w → refused w e ≡ None → e.worker < length w.tasks_out
worker_there w e I free =
    let lt : e.worker < w.settings.workers =
    ltb-true e.worker w.settings.workers (worker_free (is_some (accounts w).end) (nat_le w.settings.fuel (accounts w).steps && not (is_fuel e.kind)) (nat_lt e.worker w.settings.workers) Over (Spent (accounts w).steps) NoWorker (kind_refusal w.program w.settings (accounts w) e.worker e.kind) free) in
    omega (arith, lt, I.workers)

-- and it may release its task
pub lets_go : (w after : SharedValue) (e : EntryValue) → IsSharedValue w → refused w e ≡ None → after.tasks_out ≡ slice_set w.tasks_out e.worker None → LetsGo (tree_counts_of w) (tree_counts_of after) e.worker
lets_go w after e I free same = record {
  task_out = ap (λ (ts : List (Option ℕ)). option_flatten (slice_get ts e.worker)) same ∙ ap option_flatten (got_set w.tasks_out e.worker None (worker_there w e I free));
  others = λ u ne. ap (λ (ts : List (Option ℕ)). option_flatten (slice_get ts u)) same ∙ ap option_flatten (got_other w.tasks_out e.worker u None ne);
}

pub made_by : (xs : List TaskNode) (t : ℕ) (s : TaskState) (o : Option TaskNode) → length (set_at xs t s o) ≡ length xs
made_by xs t s None = refl
made_by xs t s (Some m) = length-set xs t (record m { state = s })

-- the node of a task in another state
pub node_by : (xs : List TaskNode) (t : ℕ) (s : TaskState) (n : Option TaskNode) → slice_get xs t ≡ n → slice_get (set_at xs t s n) t ≡ option_map (λ (x : TaskNode). record x { state = s }) n
node_by xs t s None is = is
node_by xs t s (Some m) is = got_same xs t m (record m { state = s }) is

pub node_off : (xs : List TaskNode) (t : ℕ) (s : TaskState) (n : Option TaskNode) (u : ℕ) → (u ≡ t → ⊥) → slice_get (set_at xs t s n) u ≡ slice_get xs u
node_off xs t s None u ne = refl
node_off xs t s (Some m) u ne = got_other xs t u (record m { state = s }) ne

none_holds : (o : Option ℕ) {u : ℕ} → o ≡ Some u → is_none (refused_holding o None) ≡ true → ⊥
none_holds None e h = absurd cc
none_holds (Some x) e h = false≢true h

module _ (w : SharedValue) (k t : ℕ) (I : IsSharedValue w) (free : refused w (record { worker = k; kind = Took t }) ≡ None) where
  abbrev e : EntryValue
  e = record { worker = k; kind = Took t }

  abbrev l : Ledger
  l = accounts w

  abbrev v : Memory
  v = value_of w

  on : l.end ≡ None
  on = entry_on w e free

  S : StandsFor v (tree_counts_of w) l
  S = stands_now w I on

  ready : is_ready l t ≡ true
  ready = (none_unless (is_ready l t) _ _ (entry_tells w.program w.settings l e (ap is_none free)).2).0

  running : is_running (slice_get l.machine.tasks t) ≡ true
  running = (and_parts (is_running (slice_get l.machine.tasks t)) (is_none (heap_of l t).worker) ready).0

  rests : Rests l t
  rests = none_is (heap_of l t).worker (and_parts (is_running (slice_get l.machine.tasks t)) (is_none (heap_of l t).worker) ready).1

  -- the worker holds nothing
  free_of_tasks : is_none (refused_holding (out_from k 0 l.heaps) None) ≡ true
  free_of_tasks = (none_unless (is_ready l t) _ _ (entry_tells w.program w.settings l e (ap is_none free)).2).1

  running_task_is_there : (x : Task) × (slice_get l.machine.tasks t ≡ Some x) × (x.status ≡ Running)
  running_task_is_there = task_of (slice_get l.machine.tasks t) running

  pub calls : HasCalls (rest_at w.rests t)
  calls = has_calls (LiesWithOwner v l) (rest_at w.rests t) running_task_is_there.0 (subst (HoldsRead (LiesWithOwner v l) (v.belongings t) running_task_is_there.0) running_task_is_there.2 (S.belongings.tasks t running_task_is_there.0 rests running_task_is_there.1))

  pub has_slot : t < length w.rests
  has_slot = there_by (slice_get w.rests t) refl calls
    where
      there_by : (o : Option (Option ParkedTask)) → slice_get w.rests t ≡ o → HasCalls (option_flatten o) → t < length w.rests
      there_by None q c = absurd c
      there_by (Some x) q c = got_within w.rests t x q

  pub has_node : t < length w.tree
  has_node = subst (λ n. t < n) I.made has_slot

  pub calls_of : (r : ParkedTask) → rest_at w.rests t ≡ Some r → (s : FramesValue) × (r.work ≡ Calls s)
  calls_of r q = subst HasCalls q calls

  pub at_work : (r : ParkedTask) → rest_at w.rests t ≡ Some r → HasFrames r.work
  at_work r q = subst HasFrames (sym (calls_of r q).1) tt

  module _ (j : ReservedVecValue EntryValue) where
    abbrev w' : SharedValue
    w' = record w { tree = with_state w.tree t Out; rests = slice_set w.rests t None; tasks_out = slice_set w.tasks_out k (Some t); journal = record { items = w.journal.items ++ e ∷ []; room = j.room } }

    enters : Enters w w' e
    enters = record { journal = refl; program = refl; settings = refl; halted = refl }

    abbrev v' : Memory
    v' = value_of w'

    task_slots_off : (u : ℕ) → (u ≡ t → ⊥) → rest_at w'.rests u ≡ rest_at w.rests u
    task_slots_off u ne = ap option_flatten (got_other w.rests t u None ne)

    but : SameBut v v' t
    but = record { belongings = λ u ne. ap belongings_in (task_slots_off u ne); owner = λ c. refl; sources = λ u. refl }

    counts : TakesNode (tree_counts_of w) (tree_counts_of w') k t
    counts = record {
      task_out = ap option_flatten (got_set w.tasks_out k (Some t) (worker_there w e I free));
      tasks_out = λ c ne. ap option_flatten (got_other w.tasks_out k c (Some t) ne);
      node = node_by w.tree t Out (slice_get w.tree t) refl;
      others = λ u ne. node_off w.tree t Out (slice_get w.tree t) u ne;
      used = refl;
      steps = refl;
      outputs = refl;
      end = refl;
    }

    abbrev L : Ledger
    L = after w.program w.settings l e

    changes : ChangesRest w w' t None
    changes = record { rests = refl; there = has_slot; keeps = λ u ne. all_kept w.pool u; free = λ u ne f. free_before w.tasks_out k (Some t) u f (λ h. none_holds (out_from k 0 l.heaps) (sym (task_out_now w I on k) ∙ h) free_of_tasks) }

    pub took_world : IsSharedValue w'
    took_world =
        entered_world I free enters (changed_form I changes (λ r q. absurd (none_some q)) (made_by w.tree t Out (slice_get w.tree t)) refl (length-set w.tasks_out k (Some t)) refl)
        (took_stands_for w.program w.settings w.journal.items I.form I.legal v v' (tree_counts_of w) (tree_counts_of w') k t free I.stands but (λ u. record { keeps = refl; kept = refl; marked = refl }) counts)

    -- THE PART THAT IS TAKEN
    module _ (r : ParkedTask) (s : FramesValue) (rest_is : rest_at w.rests t ≡ Some r) (calls_is : r.work ≡ Calls s) where
      abbrev p : Private
      p = taken_part t w.settings.leaf (field_limit w.settings.version) r s

      belongings_are : v.belongings t ≡ belongings_of_part p
      belongings_are = ap belongings_in rest_is ∙ ap (belongings_by r.heap r.view r.allocations) calls_is

      pub took_part : WorkerPartFits w' k p
      took_part =
          fits_then I free enters took_world k p (worker_when_out I free enters took_world k t counts.task_out) refl refl (I.heaps t r rest_is) (I.measured t r rest_is (free_at_rest w t I on rests), λ n i. absurd i)
          (subst (λ (g : Belongings). WorkerFits w.program w.settings (part_for w.settings t g 0) v' L) belongings_are (took_fits_then w.program w.settings w.journal.items I.legal v v' (tree_counts_of w) k t free I.stands but))

    -- THE PARTS OF OTHERS
    pub took_others : OthersFit w w' k
    took_others u q ne F =
        part_fits I free enters took_world u q q (counts.tasks_out u ne) F refl F.form F.measured
        (took_leaves w.program w.settings w.journal.items I.legal v v' k t free but (part_of w.settings q) F.fits)
