-- Private steps are committed.
use Rattle.core_invariant.proofs.Common.{◌≡◌, ℕ, zero, suc, ◌+◌, ◌-◌, ◌<◌, ◌≤◌, true, false, min, Bool, Option, Some, None, [], ◌∷◌, ◌++◌, map, slice_get, nat_le, is_none, is_some, inl, inr, refl, ap, sym, subst, ◌∙◌, arith, eq-eqb, le-leb, and_from, ReservedVecValue, option_is, ProgramText, Running, MachineState, is_running, step, Ran, EntryValue, SettingsValue, Ledger, Refused, NotOut, Collecting, Long, heap_of, let_go, is_private, task_step, task_steps, most_steps, standing, after, is_out, kind_refusal, refused_if, refused_unless, none_of, ran_tells, collecting_is, heap_machine, task_step_machine, steps_last, ArePrivate, aside, RunsPrivateSteps, rested_worker, entry_runs, reserved_chunks, reserved_units, Chunk, Belongings, Memory, ahead, part_for, with_belongings, IsSteady, ChunksHaveNames, BelongingsStand, WorkerFits, at_belongings, Private, HeapMatchesAccount, unended, steps, SharedValue, accounts, value_of, IsSharedValue, WorkerPartFits, OthersFit, beyond, belongings_of_part, part_of, refused, first_cause, or_else}
use Rattle.refinement_laws.proofs.below.run_ledger.{collecting}
use Rattle.refinement_laws.specs.below.ledger_step_laws.{Private as PrivateKind}
use Rattle.core_invariant.proofs.HeapCounts.{counted_from}
use Rattle.core_invariant.proofs.EntryMade.{entry_on, same_form}
use Rattle.core_invariant.proofs.StepsMade.{MakesSteps, ran_entry, steps_others, steps_part, steps_world}
use Rattle.core_invariant.proofs.UnitsMeasured.{all_kept}
use Rattle.core_invariant.proofs.BeforeTheEnd as now
use Rattle.core_invariant.proofs.BeforeTheEnd.{end_now, fits_now, steps_now}
use Rattle.core_invariant.proofs.CausesTold.{refused_is}
use Rattle.core_invariant.proofs.StepAccounts.{After, after_all, all_stand}

-- the machine after a task's steps, and after a part's fresh ones
pub machine_steps : (p : ProgramText) (l : Ledger) (t k : ℕ) → (task_steps p l t k).machine ≡ steps p l.machine t k
machine_steps p l t zero = refl
machine_steps p l t (suc k) = ap (λ (z : Ledger). z.machine) (steps_last p l t k) ∙ (task_step_machine p (task_steps p l t k) t ∙ ap (λ (m : MachineState). step p m t) (machine_steps p l t k))

pub beyond_machine : (p : ProgramText) (l : Ledger) (q : Private) → (beyond p l q).machine ≡ steps p (unended l.machine) q.task q.fresh
beyond_machine p l q = heap_machine (task_steps p (aside l) q.task q.fresh) q.task let_go ∙ machine_steps p (aside l) q.task q.fresh

-- a part that fits, before the run's end
module _ (w : SharedValue) (k : ℕ) (p : Private) (I : IsSharedValue w) (F : WorkerPartFits w k p) (on : (accounts w).end ≡ None) where
  pub goes : (accounts w).machine.end ≡ None
  goes = now.alive w k p F on

  pub status : F.fits.task.status ≡ Running
  status = now.status w k p F on

  abbrev vp : Memory
  vp = with_belongings (value_of w) p.task (belongings_of_part p)

  abbrev M : Ledger
  M = ahead w.program (part_of w.settings p) (accounts w)

  abbrev own_belongings : vp.belongings p.task ≡ belongings_of_part p
  own_belongings = at_belongings (value_of w) p.task (belongings_of_part p)

  pub belongings_stand : BelongingsStand vp M p.task
  belongings_stand = (fits_now w k p F on).stands.belongings p.task (rested_worker (task_steps w.program (accounts w) p.task p.fresh) p.task)

  -- its heap is as its account then says
  pub counted_now : HeapMatchesAccount p.heap (heap_of M p.task)
  counted_now =
      counted_from p.heap (heap_of M p.task) F.form (subst (λ (z : Belongings). ChunksHaveNames z.chunks (heap_of M p.task)) own_belongings belongings_stand.names) (ap (λ (z : Belongings). z.room) (sym own_belongings) ∙ belongings_stand.room) (ap (λ (z : Belongings). z.since) (sym own_belongings) ∙ belongings_stand.since)
      (subst (λ (z : Belongings). map (λ (c : Chunk). c.units) (reserved_chunks z.chunks) ≡ reserved_units (heap_of M p.task).reserved) own_belongings belongings_stand.laid.reserved)

-- WHY IT IS REFUSED

free_by : (out begun fits : Bool) (m : ℕ) → out ≡ true → begun ≡ false → fits ≡ true → refused_unless out NotOut (refused_if begun Collecting (refused_unless fits (Long m) None)) ≡ None
free_by true false true m a b c = refl
free_by false begun fits m a b c = absurd cc
free_by true true fits m a b c = absurd cc
free_by true false false m a b c = absurd cc

pub end_by : (a b c : Bool) (x y z : Refused) → refused_if a x (refused_if b y (refused_unless c z None)) ≡ None → a ≡ false
end_by true b c x y z h = absurd cc
end_by false b c x y z h = refl

else_same : (o : Option Refused) (rest : Option Refused) → (o ≡ None → rest ≡ None) → or_else o rest ≡ o
else_same None rest h = h refl
else_same (Some c) rest h = refl

module _ (w : SharedValue) (k : ℕ) (p : Private) (I : IsSharedValue w) (F : WorkerPartFits w k p) (pos : 0 < p.fresh) where
  free_kind : (accounts w).end ≡ None → kind_refusal w.program w.settings (accounts w) k (Ran p.task p.fresh) ≡ None
  free_kind on =
      let l : Ledger = accounts w in
      let V = fits_now w k p F on in
      let stand : standing w.settings w.program l p.task p.fresh ≡ p.fresh = all_stand w.program w.settings p.task p.fresh l V.private in
      let few : p.fresh ≤ 257 = V.few in
      let fits : nat_le p.fresh (min most_steps (standing w.settings w.program l p.task p.fresh)) ≡ true = le-leb p.fresh (min most_steps (standing w.settings w.program l p.task p.fresh)) (omega (arith, stand, few)) in
      free_by (is_out l k p.task) (is_some (heap_of l p.task).begun) (nat_le p.fresh (min most_steps (standing w.settings w.program l p.task p.fresh))) (min most_steps (standing w.settings w.program l p.task p.fresh))
      (and_from (is_running (slice_get l.machine.tasks p.task)) (option_is (heap_of l p.task).worker k) (ap is_running F.fits.is ∙ F.fits.runs) (ap (λ o. option_is o k) F.out ∙ eq-eqb k k refl))
      (collecting_is (slice_get l.heaps p.task) ∙ steady_by F.fits.steady)
      fits
    where
      -- a part with fresh steps is in no leaf collection
      steady_by : IsSteady (part_of w.settings p) (accounts w) → collecting (slice_get (accounts w).heaps p.task) ≡ false
      steady_by (inl none) = absurd (omega (arith, none, pos))
      steady_by (inr steady) = steady

  -- it is refused for the causes that precede those of its kind
  pub ran_answer : refused w (record { worker = k; kind = Ran p.task p.fresh }) ≡ first_cause w.end w.steps w.settings k false
  ran_answer =
      refused_is w I (record { worker = k; kind = Ran p.task p.fresh })
      ∙ else_same (first_cause w.end w.steps w.settings k false) (kind_refusal w.program w.settings (accounts w) k (Ran p.task p.fresh))
      (λ h. free_kind (sym (end_now w I) ∙ none_of w.end (end_by (is_some w.end) _ _ _ _ _ h)))

-- WHAT IT CHANGES

private_at : (p : ProgramText) (s : SettingsValue) (t n : ℕ) (l : Ledger) → ArePrivate p s l t (suc n) → is_private p (task_steps p l t n).machine t ≡ true
private_at p s t zero l h = h.2
private_at p s t (suc n) l h = private_at p s t n (task_step p l t) h.3

abbrev ran_with : SharedValue → ℕ → Private → ℕ → ℕ → SharedValue
ran_with w k p m room = record w { steps = w.steps + m; journal = record { items = w.journal.items ++ ran_entry k p m ∷ []; room = room } }

module _ (w : SharedValue) (k : ℕ) (p : Private) (I : IsSharedValue w) (F : WorkerPartFits w k p) (n : ℕ) (is : p.fresh ≡ suc n) (free : refused w (ran_entry k p (suc n)) ≡ None) (room : ℕ) where
  abbrev e : EntryValue
  e = ran_entry k p (suc n)

  abbrev l : Ledger
  l = accounts w

  abbrev t : ℕ
  t = p.task

  abbrev h : Belongings
  h = belongings_of_part p

  abbrev L : Ledger
  L = after w.program w.settings l e

  abbrev v : Memory
  v = value_of w

  abbrev w' : SharedValue
  w' = ran_with w k p (suc n) room

  on : l.end ≡ None
  on = entry_on w e free

  private : ArePrivate w.program w.settings l t (suc n)
  private = subst (ArePrivate w.program w.settings l t) is (fits_now w k p F on).private

  A : After l L t F.fits.task
  A = after_all w.program w.settings t (suc n) l F.fits.task (goes w k p I F on) F.fits.is (status w k p I F on) private

  R : RunsPrivateSteps w.program w.settings l L t k n
  R = entry_runs w.program w.settings w.journal.items k t n I.form I.legal free

  -- how the entry splits
  abbrev E : RunsPrivateSteps w.program w.settings l L t k n
  E = record R { splits = record R.splits { kind = PrivateKind; last = private_at w.program w.settings t n l private; apart = tt; on = λ u. A.goes ∙ goes w k p I F on } }

  abbrev made : MakesSteps w w' k p n
  made = record {
    enters = record { journal = refl; program = refl; settings = refl; halted = refl };
    form = same_form I refl refl (all_kept w.pool);
    units = λ u q ne G. G.measured;
    runs = E;
    own = subst (λ m. WorkerFits w.program w.settings (part_for w.settings t h m) v l) is F.fits;
    makes = refl;
    notes = tt;
    counts = record { tree = λ u. refl; task_out = λ u. refl; outputs = refl; end = refl; used = refl; steps = refl };
  }

module _ (w : SharedValue) (k : ℕ) (p : Private) (I : IsSharedValue w) (F : WorkerPartFits w k p) (pos : 0 < p.fresh) (free : refused w (record { worker = k; kind = Ran p.task p.fresh }) ≡ None) (j : ReservedVecValue EntryValue) where
  abbrev n : ℕ
  n = p.fresh - 1

  fresh_is_next : p.fresh ≡ suc n
  fresh_is_next = omega (arith, pos)

  free_so : refused w (ran_entry k p (suc n)) ≡ None
  free_so = subst (λ m. refused w (ran_entry k p m) ≡ None) fresh_is_next free

  made_so : MakesSteps w (ran_with w k p p.fresh j.room) k p n
  made_so = subst (λ m. MakesSteps w (ran_with w k p m j.room) k p n) (sym fresh_is_next) (made w k p I F n fresh_is_next free_so j.room)

  pub ran_world : IsSharedValue (ran_with w k p p.fresh j.room)
  ran_world = steps_world I F free_so made_so

  pub ran_part : WorkerPartFits (ran_with w k p p.fresh j.room) k (record p { fresh = 0 })
  ran_part = subst (λ m. WorkerPartFits (ran_with w k p m j.room) k (record p { fresh = 0 })) (sym fresh_is_next) (steps_part I F free_so (made w k p I F n fresh_is_next free_so j.room) p.frames refl F.measured refl)

  pub ran_others : OthersFit w (ran_with w k p p.fresh j.room) k
  ran_others = steps_others I F free_so made_so

-- the counts are small
pub steps_small : (w : SharedValue) (k : ℕ) (p : Private) → IsSharedValue w → WorkerPartFits w k p → refused w (record { worker = k; kind = Ran p.task p.fresh }) ≡ None → (w.steps < w.settings.fuel) × (w.settings.fuel ≤ 1000000000) × (p.fresh ≤ 257)
steps_small w k p I F free =
    let a = ran_tells w.program w.settings (accounts w) k p.task p.fresh (ap is_none free) in
    let b : w.steps ≡ (accounts w).steps = steps_now w I in
    (omega (arith, a.2, b), I.settings.fuel.1, F.fits.part.fits.few)
