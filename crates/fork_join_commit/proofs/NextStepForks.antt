-- A part whose next step is a fork: what is known before it is committed.
use Rattle.fork_join_commit.proofs.Common.{◌≡◌, ℕ, ◌<◌, ◌≤◌, ◌^◌, ◌&&◌, arith, not, nat_lt, Bool, true, false, Option, Some, None, length, slice_get, option_map, is_some, inl, inr, refl, ap, ap₂, sym, subst, ◌∙◌, cases_eq, cond-false, ltb-true, same_Some, Instr, Par, Line, Trapped, MachineState, Task, Depth, effect, depth_limit, ended_by, fetched, follow, parents, setting, step, AreLow, heap_of, is_open, is_private_by, is_private_line, steps_are_bounded, journals_are_counted, TaskNode, depth_of, parent_of as parent_in_tree, state_of as state_in_tree, StandsFor, state_by, as_node, Private, FitsNow as FitsMachine, Places, same_line, Traps, refused, WorkerPartFits, above_of, next_line, IsSharedValue, SharedValue, accounts, tree_counts_of, value_of, stands_now, tree_long, status, After, same_length, parent_is, IsShared, EndingTells, alone_entry, machine_after, AsksAlone, runs_on, AreDeep, deep_in, run_deep, AsksLast, fits_machine, machine_same, ForksTo, IsAtFork, is_fork, is_fork_by, is_par}
use Rattle.step_commit.specs.below.hh_model.{forked as forked_machine}
use Rattle.step_commit.specs.below.heap_tree.{Out}
use Rattle.step_commit.proofs.below.core_invariant.PartFitsMachine as link
use Rattle.step_commit.proofs.AloneEntries as own
use Rattle.step_commit.proofs.LastStepEntry as last

-- ---- A FORK ISN'T PRIVATE

par_open : (x : Task) (i : Instr) (b : Bool) → is_par i ≡ true → (not (is_open x i) && b) ≡ false
par_open x (Par g h) b e = refl
par_open x _ b e = absurd cc

pub par_is : (i : Instr) → is_par i ≡ true → (g : ℕ) × (h : ℕ) × (i ≡ Par g h)
par_is (Par g h) e = (g, h, refl)
par_is _ e = absurd cc

module _ (w : SharedValue) (p : Private) where
  abbrev m : MachineState
  m = machine_after w p

  by_line : (x : Task) (o : Option Line) → is_fork o ≡ true → is_private_line w.program m p.task x o ≡ false
  by_line x None h = refl
  by_line x (Some line) h = par_open x line.instr _ h

  by_task : (o : Option Task) → is_fork_by w.program o ≡ true → is_private_by w.program m p.task o ≡ false
  by_task None h = refl
  by_task (Some x) h = by_line x (fetched w.program x.top) h

  pub fork_shared : IsAtFork w p → IsShared w p
  fork_shared at = record { last = by_task (slice_get m.tasks p.task) at.forks; few = at.few }

-- ---- THE TREE AND THE TASKS

-- fewer than 2^31 tasks
pub few_tasks : (w : SharedValue) → IsSharedValue w → length w.tree < 2 ^ 31
few_tasks w I =
    let c = (journals_are_counted w.program w.settings w.journal.items).counts.made in
    let s = steps_are_bounded w.program w.settings w.journal.items I.legal in
    let d = I.settings.fuel.1 in
    let n = tree_long w I in
    omega (arith, c, s, d, n)

module _ (w : SharedValue) (I : IsSharedValue w) (on : (accounts w).end ≡ None) where
  abbrev S0 : StandsFor (value_of w) (tree_counts_of w) (accounts w)
  S0 = stands_now w I on

  -- the task of a part is out
  module _ (k : ℕ) (p : Private) (F : WorkerPartFits w k p) where
    node_out : (n : TaskNode) × (slice_get w.tree p.task ≡ Some n) × (n.state ≡ Out)
    node_out =
        let is : slice_get w.tree p.task ≡ Some (as_node (heap_of (accounts w) p.task).worker F.fits.task) = S0.tree_counts.node p.task ∙ ap (option_map (as_node (heap_of (accounts w) p.task).worker)) F.fits.is in
        (as_node (heap_of (accounts w) p.task).worker F.fits.task, is, ap₂ state_by (status w k p I F on) F.out)

    pub tree_out : state_in_tree w.tree p.task ≡ Some Out
    tree_out = ap (option_map (λ (n : TaskNode). n.state)) node_out.1 ∙ ap Some node_out.2

-- ---- THE NEXT STEP

-- a call asks for the entry of a fork, and nothing refuses it
pub record AsksFork (w : SharedValue) (k : ℕ) (p : Private) : Type 0 where
  pub I : IsSharedValue w
  pub F : WorkerPartFits w k p
  pub at_fork : IsAtFork w p
  pub free : refused w (alone_entry k p) ≡ None

-- by what is known of an equal value
pub asks_fork : {w after : SharedValue} {k : ℕ} {p : Private} → w ≡ after → IsSharedValue w → WorkerPartFits after k p → IsAtFork after p → refused after (alone_entry k p) ≡ None → AsksFork w k p
asks_fork {w} {after} {k} {p} same I F at free = record { I = I; F = subst (λ z. WorkerPartFits z k p) (sym same) F; at_fork = subst (λ z. IsAtFork z p) (sym same) at; free = subst (λ z. refused z (alone_entry k p) ≡ None) (sym same) free }

module _ {w : SharedValue} {k : ℕ} {p : Private} (asks : AsksFork w k p) where
  open asks use {I, F, at_fork, free}

  abbrev pub shared : IsShared w p
  shared = fork_shared w p at_fork

  abbrev pub asked_alone : AsksAlone w k p
  asked_alone = record { I = I; F = F; shared = shared; free = free }

  pub on : (accounts w).end ≡ None
  on = runs_on asked_alone

  abbrev pub asked : AsksLast w k p
  asked = own.asks_last asked_alone

  open (last.names asked) use {t, l, M, S}

  abbrev above : Places
  above = above_of (value_of w) l t

  abbrev G : FitsMachine w.program p M.machine above
  G = fits_machine w k p I F on

  fork_at : is_fork_by w.program (Some G.task) ≡ true
  fork_at = ap (is_fork_by w.program) (sym G.is) ∙ (ap (λ (m : MachineState). is_fork_by w.program (slice_get m.tasks t)) (sym (machine_same w k p I F on)) ∙ at_fork.forks)

  line_at : (line : Line) → next_line w.program p ≡ Some line → fetched w.program G.task.top ≡ Some line
  line_at line e = sym (same_line w.program p M.machine above G) ∙ e

  pub is_par_line : (line : Line) → next_line w.program p ≡ Some line → is_par line.instr ≡ true
  is_par_line line e = ap is_fork (sym (line_at line e)) ∙ fork_at

  pub forks_to : (line : Line) (left right : ℕ) → next_line w.program p ≡ Some line → line.instr ≡ Par left right → ForksTo w p left right line.number
  forks_to line left right e by = record { task = G.task; line = line; is = G.is; next = line_at line e; number_is = refl; by = by }

  abbrev A : After l M t F.fits.task
  A = link.A w k p I F on

  pub then_long : length M.machine.tasks ≡ length l.machine.tasks
  then_long = same_length M.machine.tasks l.machine.tasks each
    where
      each : (u : ℕ) → is_some (slice_get M.machine.tasks u) ≡ is_some (slice_get l.machine.tasks u)
      each u = elim (cases_eq u t) [
        | inl q ↦ ap (λ z. is_some (slice_get M.machine.tasks z)) q ∙ (ap is_some A.is ∙ (ap is_some (sym F.fits.is) ∙ ap (λ z. is_some (slice_get l.machine.tasks z)) (sym q)))
        | inr ne ↦ ap is_some (A.others u ne)
      ]

  low : AreLow (parents M.machine.tasks)
  low = (last.knows_mid asked).sound.fork_join.tree.low

  deep : AreDeep M.machine.tasks
  deep = let r = G.reached in subst (λ (m : MachineState). AreDeep m.tasks) (sym r.2) (run_deep w.program r.0 r.1)

  pub depth_is : depth_of w.tree t ≡ S.task.depth
  depth_is = deep_in M.machine.tasks low deep (parent_in_tree w.tree) (λ u. parent_is w I u ∙ sym (last.then_parents asked u)) t S.task S.at.task

  module _ (left right number : ℕ) (B : ForksTo w p left right number) where
    same_task : B.task ≡ S.task
    same_task = same_Some B.task S.task (sym B.is ∙ S.at.task)

    same_line_then : B.line ≡ S.line
    same_line_then = same_Some B.line S.line (sym B.next ∙ (ap (λ (x : Task). fetched w.program x.top) same_task ∙ S.at.next))

    pub line_is_fork : S.line.instr ≡ Par left right
    line_is_fork = ap (λ (z : Line). z.instr) (sym same_line_then) ∙ B.by

    pub number_is : S.line.number ≡ number
    number_is = ap (λ (z : Line). z.number) (sym same_line_then) ∙ B.number_is

    pub forked_so : step w.program M.machine t ≡ forked_machine M.machine t S.task left right S.line.number
    forked_so =
        last.taken asked
        ∙ ap (λ (i : Instr). follow M.machine t S.task S.line.number (effect (setting M.machine t S.task) S.task.top M.machine.store i)) line_is_fork

    -- too deep, it traps
    pub deep_traps : 1000 ≤ depth_of w.tree t → EndingTells w p (Traps Depth) number
    deep_traps le =
        let not : nat_lt S.task.depth depth_limit ≡ false = too_deep (nat_lt S.task.depth depth_limit) refl in
        record {
          task = S.task;
          line = S.line;
          is = S.at.task;
          next = S.at.next;
          number_is = number_is;
          says = forked_so ∙ cond-false (nat_lt S.task.depth depth_limit) _ (ended_by M.machine (Trapped Depth t S.line.number)) not;
        }
      where
        too_deep : (b : Bool) → nat_lt S.task.depth depth_limit ≡ b → nat_lt S.task.depth depth_limit ≡ false
        too_deep false e = e
        too_deep true e = let lt : S.task.depth < 1000 = ltb-true S.task.depth 1000 e in absurd (omega (arith, lt, le, depth_is))
