-- How a part's next step involves other tasks, by the next line; what remains if an allocation fails.
use Rattle.std.specs.Result.{OnErr}
use Rattle.shared_tree.proofs.Common.{IfErr, ◌≡◌, ℕ, Result, Ok, Err, ◌||◌, not, true, Option, Some, None, List, length, slice_get, slice_set, option_map, is_some, refl, ap, sym, subst, ◌∙◌, option_flatten, or_false, got_set, Instr, Par, Ret, Line, MachineState, Task, fetched, Ledger, owns, task_steps, touched, Refused, SetOf, content_of, Private, Places, same_line, SharedValue, accounts, rest_at, value_of, IsSharedValue, EachPartStillFits, EntersLeaving, EntersOrRefuses, IsCaused, refused, NotEntered, NoMemory, Refuses, FitsNow as FitsMachine, above_of, is_beyond, is_beyond_by, is_beyond_line, is_joint, same_length, worker_there, alone_entry, machine_after, runs_on, fits_machine, machine_same, IsAtEnd, is_last_return, is_last_by, is_last_line, IsAtFork, is_fork, is_fork_by, is_par, HoldsNone, IsUnchanged, SameButPlaces, same_itself, same_world, IsOther, SameButRoom, is_other, is_other_by, is_other_line, same_Some, Beyond, Returns, EndingTells, AsksAlone, child_beyond, other_beyond, tells, HasNextLine, IsAtRootEnd}

other_by : (tasks : List Task) (t : ℕ) (x : Task) (i : Instr) → ((g h : ℕ) → i ≡ Par g h → ⊥) → (i ≡ Ret → ⊥) → (is_joint x i || not (owns tasks t (touched x.top i))) ≡ true → not (owns tasks t (touched x.top i)) ≡ true
other_by tasks t x (Par g h) par ret e = absurd (par g h refl)
other_by tasks t x Ret par ret e = absurd (ret refl)
other_by tasks t x _ par ret e = e

module _ {w : SharedValue} {k : ℕ} {p : Private} (asks : AsksAlone w k p) (instr : Instr) (number : ℕ) (next : HasNextLine w p instr number) where
  abbrev t : ℕ
  t = p.task

  abbrev line : Line
  line = record { instr = instr; number = number }

  abbrev M : Ledger
  M = task_steps w.program (accounts w) t p.fresh

  abbrev above : Places
  above = above_of (value_of w) (accounts w) t

  abbrev G : FitsMachine w.program p M.machine above
  G = fits_machine w k p asks.I asks.F (runs_on asks)

  machine_is : machine_after w p ≡ M.machine
  machine_is = machine_same w k p asks.I asks.F (runs_on asks)

  line_is_fetched : fetched w.program G.task.top ≡ Some line
  line_is_fetched = sym (same_line w.program p M.machine above G) ∙ next

  joint_line : is_beyond w.program (machine_after w p) t ≡ true → (is_joint G.task instr || not (owns M.machine.tasks t (touched G.task.top instr))) ≡ true
  joint_line joint =
      ap (is_beyond_line M.machine t G.task) (sym line_is_fetched)
      ∙ (ap (is_beyond_by w.program M.machine t) (sym G.is) ∙ (ap (λ (m : MachineState). is_beyond w.program m t) (sym machine_is) ∙ joint))

  -- what a return of the last frame does
  returns : instr ≡ Ret → EndingTells w p Returns number
  returns by =
      tells w k p asks.I asks.F asks.shared (runs_on asks) (record { instr = Ret; number = number }) (subst (λ (i : Instr). HasNextLine w p i number) by next)

  pub at_root_end : instr ≡ Ret → p.task ≡ 0 → IsAtRootEnd w p
  at_root_end by root = record { returns = (number, returns by); root = root }

  pub at_end : instr ≡ Ret → (p.task ≡ 0 → ⊥) → IsAtEnd w p
  at_end by ne = record {
    ends =
        ap (λ (m : MachineState). is_last_by w.program (slice_get m.tasks t)) machine_is
        ∙ (ap (is_last_by w.program) G.is
        ∙ (ap (is_last_line G.task) line_is_fetched
        ∙ (ap (is_last_return G.task) by
        ∙ or_false _ (ap (λ i. is_joint G.task i || not (owns M.machine.tasks t (touched G.task.top i))) (sym by) ∙ joint_line (child_beyond asks number (returns by) ne)))));
    few = asks.shared.few;
  }

  pub at_fork : (g h : ℕ) → instr ≡ Par g h → IsAtFork w p
  at_fork g h by = record {
    forks =
        ap (λ (m : MachineState). is_fork_by w.program (slice_get m.tasks t)) machine_is
        ∙ (ap (is_fork_by w.program) G.is ∙ (ap is_fork line_is_fetched ∙ ap is_par by));
    few = asks.shared.few;
  }

  -- a step that returns does so by its line
  pub returns_by : EndingTells w p Returns number → instr ≡ Ret
  returns_by T =
      let task : T.task ≡ G.task = same_Some T.task G.task (sym T.is ∙ G.is) in
      let is : T.line ≡ line = same_Some T.line line (sym T.next ∙ (ap (λ (x : Task). fetched w.program x.top) task ∙ line_is_fetched)) in
      ap (λ (z : Line). z.instr) (sym is) ∙ T.says.0

  pub at_other : EndingTells w p Beyond number → ((g h : ℕ) → instr ≡ Par g h → ⊥) → (instr ≡ Ret → ⊥) → IsOther w p
  at_other T par ret =
      ap (λ (m : MachineState). is_other w.program m t) machine_is
      ∙ (ap (is_other_by w.program M.machine t) G.is
      ∙ (ap (is_other_line M.machine t G.task) line_is_fetched ∙ other_by M.machine.tasks t G.task instr par ret (joint_line (other_beyond asks number T))))

-- ---- WHICH WORKER HOLDS NOTHING

pub holds_none : (w after : SharedValue) (k : ℕ) (p : Private) → IsSharedValue w → IsSharedValue after → refused w (alone_entry k p) ≡ None → after.tasks_out ≡ slice_set w.tasks_out k None → HoldsNone after k
holds_none w after k p I I' free task_out t held =
    no_task (sym (ap (λ hs. option_flatten (slice_get hs k)) task_out ∙ ap option_flatten (got_set w.tasks_out k None (worker_there w (alone_entry k p) I free))) ∙ (I'.stands.tree_counts.task_out k t).1 held)
  where
    no_task : ◌≡◌ {A = Option ℕ} None (Some t) → ⊥
    no_task e = cc

-- ---- OUT OF MEMORY

some_is : (o : Option SetOf) → is_some (option_map content_of o) ≡ is_some o
some_is None = refl
some_is (Some s) = refl

pub same_places : (w after : SharedValue) → SameButRoom w after → SameButPlaces w after
same_places w after S =
    let task_slots_are : after.rests ≡ w.rests = ap (λ (z : SharedValue). z.rests) S.same in
    record {
      rest = S.same ∙ ap (λ hs. let z : SharedValue = record w { rests = hs; sets = after.sets } in z) (sym task_slots_are);
      many = ap length task_slots_are;
      rests = λ u. same_itself (rest_at w.rests u) (rest_at after.rests u) (ap (λ hs. rest_at hs u) task_slots_are);
      many_sets = same_length after.sets w.sets (λ u. sym (some_is (slice_get after.sets u)) ∙ (ap is_some (S.sets u) ∙ some_is (slice_get w.sets u)));
      sets = S.sets;
    }

-- an entry that isn't refused fails only if an allocation fails
pub room_unchanged : (w after : SharedValue) (e : NotEntered) → IsCaused e None → SameButRoom w after → IsUnchanged e w after
room_unchanged w after (Refuses cause) why S = absurd (none_cause why)
  where
    none_cause : {r : Refused} → ◌≡◌ {A = Option Refused} None (Some r) → ⊥
    none_cause q = cc
room_unchanged w after NoMemory why S = same_places w after S

pub results_unchanged : {A : Type 0} → (w after : SharedValue) (r : Result A NotEntered) → EntersOrRefuses r None → OnErr r (SameButRoom w after) → IfErr r (λ e. IsUnchanged e w after)
results_unchanged w after (Ok a) why S = tt
results_unchanged w after (Err e) why S = room_unchanged w after e why S

pub results_fit : {A : Type 0} → (w after : SharedValue) (r : Result A NotEntered) → OnErr r (SameButRoom w after) → OnErr r (EachPartStillFits w after)
results_fit w after (Ok a) S = tt
results_fit w after (Err e) S = S.fit

-- ---- THE RESULT

-- what holds of a value and a part if nothing was committed, and vice versa
pub then_same : (w after : SharedValue) (p q : Private) → after ≡ w → q ≡ p → (G : SharedValue → Private → Type 0) → G w p → G after q
then_same w after p q same part G g = subst (λ (z : SharedValue). G z q) (sym same) (subst (G w) (sym part) g)

pub before_same : (w after : SharedValue) (p q : Private) → after ≡ w → q ≡ p → (G : SharedValue → Private → Type 0) → G after q → G w p
before_same w after p q same part G g = then_same after w q p (sym same) (sym part) G g

pub same_by : (w after : SharedValue) (e : NotEntered) → after ≡ w → IsUnchanged e w after
same_by w after (Refuses cause) same = same
same_by w after NoMemory same = subst (SameButPlaces w) (sym same) (same_world w)

pub fit_by : (w after : SharedValue) → after ≡ w → EachPartStillFits w after
fit_by w after same = subst (EachPartStillFits w) (sym same) (λ k p F. F)

-- an allocation failed before anything was committed
pub no_memory_left : (w v : SharedValue) (k : ℕ) (p : Private) → v ≡ w → EntersLeaving w v k p (Err (record { cause = NoMemory; part = p }))
no_memory_left w v k p same = record { refused = refl; same = same_by w v NoMemory same; still = fit_by w v same; back = refl; answered = tt }
