-- A part whose next step is the last return of a task that isn't the root: what is known before it is committed.
use Rattle.fork_join_commit.proofs.Common.{◌≡◌, ℕ, ℤ, ◌+◌, ◌-◌, ◌<◌, ◌&&◌, arith, not, Bool, true, false, Option, Some, None, List, [], ◌∷◌, length, slice_get, option_map, is_some, refl, ap, sym, subst, ◌∙◌, and_parts, cond-false, cond-true, false≢true, same_Some, none_some, Instr, Ret, Line, Frame, Name, MachineState, TaskStatus, Running, Waiting as WaitingOf, Joined as JoinedOf, Task, effect, child_ended_by, fetched, follow, is_joined, is_over, is_waiting, result_at, last_of, last_return, parents, result_in, result_of, returned_to, setting, step, TreeOf, has_no_caller, is_open, is_private_by, is_private_line, TaskState, Ended, TaskNode, parent_of as parent_in_tree, state_of as state_in_tree, state_by, as_node, Private, is_some_place, refused, WorkerPartFits, IsSharedValue, SharedValue, accounts, node_now, After, parent_is as tree_parent_is, IsShared, alone_entry, machine_after, AsksAlone, node_there, runs_on, AsksLast, machine_same, IsAtEnd, is_last_return, is_last_by, is_last_line}
use Rattle.step_commit.specs.below.hh_model.{Ended as EndedWith, is_left, parent_of, sibling}
use Rattle.step_commit.proofs.below.core_invariant.PartFitsMachine as link
use Rattle.step_commit.proofs.AloneEntries as own
use Rattle.step_commit.proofs.LastStepEntry as last

-- ---- IT ISN'T PRIVATE

last_open : (x : Task) (i : Instr) (b : Bool) → is_last_return x i ≡ true → (not (is_open x i) && b) ≡ false
last_open x Ret b e = ap (λ c. not c && b) (and_parts (has_no_caller x.below) (is_some x.parent) e).0
last_open x _ b e = absurd cc

lone_is : (fs : List Frame) → has_no_caller fs ≡ true → fs ≡ []
lone_is [] e = refl
lone_is (f ∷ fs) e = absurd (false≢true e)

last_is : (x : Task) (i : Instr) → is_last_return x i ≡ true → (i ≡ Ret) × (x.below ≡ []) × (q : ℕ) × (x.parent ≡ Some q)
last_is x Ret e =
    let b = and_parts (has_no_caller x.below) (is_some x.parent) e in
    let q = is_some_place x.parent b.1 in
    (refl, lone_is x.below b.0, q.0, q.1)
last_is x _ e = absurd cc

module _ (w : SharedValue) (p : Private) where
  abbrev m : MachineState
  m = machine_after w p

  by_line : (x : Task) (o : Option Line) → is_last_line x o ≡ true → is_private_line w.program m p.task x o ≡ false
  by_line x None h = refl
  by_line x (Some line) h = last_open x line.instr _ h

  by_task : (o : Option Task) → is_last_by w.program o ≡ true → is_private_by w.program m p.task o ≡ false
  by_task None h = refl
  by_task (Some x) h = by_line x (fetched w.program x.top) h

  pub end_shared : IsAtEnd w p → IsShared w p
  end_shared at = record { last = by_task (slice_get m.tasks p.task) at.ends; few = at.few }

-- ---- WHETHER A TASK HAS ENDED, by the tree

not_running : (o : Option ℕ) → Ended ≡ state_by Running o → ⊥
not_running None e = cc
not_running (Some k) e = cc

abbrev Tells : TaskStatus → TaskState → Type 0
Tells s st = (st ≡ Ended → (r : ℤ × Option Name) × (result_in s ≡ Some r)) × ((st ≡ Ended → ⊥) → result_in s ≡ None)

status_tells : (k : Option ℕ) (s : TaskStatus) (st : TaskState) → st ≡ state_by s k → Tells s st
status_tells k Running st e = ((λ q. absurd (not_running k (sym q ∙ e))), (λ n. refl))
status_tells k WaitingOf st e = ((λ q. let z = sym q ∙ e in absurd cc), (λ n. refl))
status_tells k (EndedWith n r) st e = ((λ q. ((n, r), refl)), (λ never. absurd (never e)))
status_tells k JoinedOf st e = ((λ q. let z = sym q ∙ e in absurd cc), (λ n. refl))

abbrev state_in : Option TaskNode → Option TaskState
state_in o = option_map (λ (n : TaskNode). n.state) o

abbrev NodeTells : Option TaskNode → Option Task → Type 0
NodeTells n o = (state_in n ≡ Some Ended → (r : ℤ × Option Name) × (result_at o ≡ Some r)) × ((state_in n ≡ Some Ended → ⊥) → result_at o ≡ None)

node_tells : (x : Task) (worker : Option ℕ) → NodeTells (Some (as_node worker x)) (Some x)
node_tells x worker =
    let s = status_tells worker x.status (state_by x.status worker) refl in
    ((λ q. s.0 (same_Some (state_by x.status worker) Ended q)), (λ never. s.1 (λ q. never (ap Some q))))

sibling_by : (t : ℕ) (b : Bool) → is_left t ≡ b → 0 < t → sibling t ≡ t → ⊥
sibling_by t true e pos same = let s : sibling t ≡ t + 1 = cond-true (is_left t) (t + 1) (t - 1) e in omega (arith, s, same)
sibling_by t false e pos same = let s : sibling t ≡ t - 1 = cond-false (is_left t) (t + 1) (t - 1) e in omega (arith, s, same, pos)

-- ---- THE NEXT STEP

-- a call asks for the entry of a child's end, and nothing refuses it
pub record AsksEnd (w : SharedValue) (k : ℕ) (p : Private) : Type 0 where
  pub I : IsSharedValue w
  pub F : WorkerPartFits w k p
  pub at_end : IsAtEnd w p
  pub free : refused w (alone_entry k p) ≡ None

-- by what is known of an equal value
pub asks_end : {w after : SharedValue} {k : ℕ} {p : Private} → w ≡ after → IsSharedValue w → WorkerPartFits after k p → IsAtEnd after p → refused after (alone_entry k p) ≡ None → AsksEnd w k p
asks_end {w} {after} {k} {p} same I F at free = record { I = I; F = subst (λ z. WorkerPartFits z k p) (sym same) F; at_end = subst (λ z. IsAtEnd z p) (sym same) at; free = subst (λ z. refused z (alone_entry k p) ≡ None) (sym same) free }

module _ {w : SharedValue} {k : ℕ} {p : Private} (asks : AsksEnd w k p) where
  open asks use {I, F, at_end, free}

  abbrev pub shared : IsShared w p
  shared = end_shared w p at_end

  abbrev pub asked_alone : AsksAlone w k p
  asked_alone = record { I = I; F = F; shared = shared; free = free }

  pub on : (accounts w).end ≡ None
  on = runs_on asked_alone

  abbrev pub asked : AsksLast w k p
  asked = own.asks_last asked_alone

  open (last.names asked) use {t, l, M, S}

  last_here : is_last_return S.task S.line.instr ≡ true
  last_here =
      ap (is_last_line S.task) (sym S.at.next)
      ∙ (ap (is_last_by w.program) (sym S.at.task) ∙ (ap (λ (m : MachineState). is_last_by w.program (slice_get m.tasks t)) (sym (machine_same w k p I F on)) ∙ at_end.ends))

  pub says : (S.line.instr ≡ Ret) × (S.task.below ≡ []) × (q : ℕ) × (S.task.parent ≡ Some q)
  says = last_is S.task S.line.instr last_here

  abbrev pub parent : ℕ
  parent = says.2

  abbrev pub parent_is : S.task.parent ≡ Some parent
  parent_is = says.3

  abbrev pub kept_tree : TreeOf M.machine.tasks M.machine.edges
  kept_tree = (last.knows_mid asked).sound.fork_join.tree

  pub par_mid : parents M.machine.tasks t ≡ Some parent
  par_mid = ap parent_of S.at.task ∙ parent_is

  pub parent_low : parent < t
  parent_low = kept_tree.low t parent par_mid

  pub parent_apart : parent ≡ t → ⊥
  parent_apart e = omega (arith, parent_low, e)

  pub live_mid : is_joined (slice_get M.machine.tasks t) ≡ false
  live_mid = ap is_joined S.at.task ∙ ap is_over S.at.runs

  pub parent_waits : is_waiting (slice_get M.machine.tasks parent) ≡ true
  parent_waits = kept_tree.waits t parent par_mid live_mid

  abbrev A : After l M t F.fits.task
  A = link.A w k p I F on

  pub same_then : (u : ℕ) → (u ≡ t → ⊥) → slice_get M.machine.tasks u ≡ slice_get l.machine.tasks u
  same_then u ne = A.others u ne

  pub tree_parent : parent_in_tree w.tree t ≡ Some parent
  tree_parent = tree_parent_is w I t ∙ (sym (last.then_parents asked t) ∙ par_mid)

  pub own_made : t < length w.tree
  own_made = node_there (record { I = I; F = F; shared = shared; free = free })

  abbrev pub other : ℕ
  other = sibling t

  pub other_apart : other ≡ t → ⊥
  other_apart e = sibling_by t (is_left t) refl (omega (arith, parent_low)) e

  pub other_parent : parents M.machine.tasks other ≡ Some parent
  other_parent = kept_tree.pairs t parent par_mid

  other_same : slice_get M.machine.tasks other ≡ slice_get l.machine.tasks other
  other_same = A.others other other_apart

  other_told : NodeTells (slice_get w.tree other) (slice_get l.machine.tasks other)
  other_told = node_now w I NodeTells ((λ q. none_some q), (λ n. refl)) node_tells other

  pub other_ended : state_in_tree w.tree other ≡ Some Ended → (r : ℤ × Option Name) × (result_at (slice_get M.machine.tasks other) ≡ Some r)
  other_ended e = let r = other_told.0 e in (r.0, ap result_at other_same ∙ r.1)

  pub other_open : (state_in_tree w.tree other ≡ Some Ended → ⊥) → result_at (slice_get M.machine.tasks other) ≡ None
  other_open never = ap result_at other_same ∙ other_told.1 never

  -- the machine after the step
  pub step_is : step w.program M.machine t ≡ child_ended_by M.machine t S.task parent (result_of S.task.top) (result_at (slice_get M.machine.tasks other))
  step_is =
      last.taken asked
      ∙ (ap (λ (i : Instr). follow M.machine t S.task S.line.number (effect (setting M.machine t S.task) S.task.top M.machine.store i)) says.0
      ∙ (ap (λ (fs : List Frame). returned_to M.machine t S.task (last_of fs)) says.1 ∙ ap (last_return M.machine t S.task) parent_is))
