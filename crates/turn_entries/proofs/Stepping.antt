-- A part after private steps, whatever value it fits.
use Rattle.turn_entries.proofs.Common.{◌≡◌, ℕ, zero, suc, ◌+◌, ◌<◌, ◌≤◌, None, length, slice_get, refl, ap, sym, subst, ◌∙◌, arith, ProgramText, MachineState, Counted, row_of, IsForkJoinState, steps_count, run_is_fork_join_state, start_is_fork_join_state, step_is_fork_join_state, field_limit, private_limit, Ledger, tasks_of, steps_are_bounded, machine_is_run, journals_are_counted, Private, Paused, Spent, KeepsAccounts, unended, steps, FitsSome, KeepsRest, PausesBy, RunsSteps, WorkerPartFits, FitsFirst, IsSharedValue, SharedValue, accounts, second_gives_first, beyond_machine, machine_after, fits_on, next_on, ran, AtSome, HasGrown, IsPaused, MayRun}

-- ---- ITS OBJECTS are counted

counted_then : (p : ProgramText) (m : MachineState) (t j n k : ℕ) → k ≡ n + j → IsForkJoinState m → Counted j m.tasks m.store → IsForkJoinState (steps p m t n) × Counted k (steps p m t n).tasks (steps p m t n).store
counted_then p m t j zero k e K C = (K, subst (λ i. Counted i m.tasks m.store) (let h : j ≡ k = omega (arith, e) in h) C)
counted_then p m t j (suc n) k e K C =
    let b = counted_then p m t j n (n + j) refl K C in
    let h : suc (n + j) ≡ k = omega (arith, e) in
    (step_is_fork_join_state p (steps p m t n) t b.0, subst (λ i. Counted i (steps p m t (suc n)).tasks (steps p m t (suc n)).store) h (steps_count p (steps p m t n) t (n + j) b.0 b.1))

fork_join_now : (w : SharedValue) → IsForkJoinState (accounts w).machine
fork_join_now w = subst IsForkJoinState (sym (machine_is_run w.program w.settings w.journal.items)) (run_is_fork_join_state w.program _ (tasks_of w.journal.items) (start_is_fork_join_state w.program (field_limit w.settings.version)))

module _ (w : SharedValue) (k : ℕ) (part : Private) (I : IsSharedValue w) (on : (accounts w).end ≡ None) (F : WorkerPartFits w k part) where
  pub first : FitsFirst w part
  first = second_gives_first w k part I F on

  pub few_allocations : (n : ℕ) → part.fresh ≤ private_limit → n ≤ private_limit → part.allocations + n < 4294967296
  few_allocations n few most =
      let l : Ledger = accounts w in
      let counts = (journals_are_counted w.program w.settings w.journal.items).counts in
      let m : MachineState = unended l.machine in
      let then : Counted (part.fresh + l.steps) (steps w.program m part.task part.fresh).tasks (steps w.program m part.task part.fresh).store = (counted_then w.program m part.task l.steps part.fresh (part.fresh + l.steps) refl (fork_join_now w) counts).1 in
      let count : part.allocations ≡ length (row_of (slice_get (steps w.program m part.task part.fresh).store part.task)) =
      first.count ∙ ap (λ (z : MachineState). length (row_of (slice_get z.store part.task))) (beyond_machine w.program l part) in
      let rows : length (row_of (slice_get (steps w.program m part.task part.fresh).store part.task)) ≤ part.fresh + l.steps = then.objects part.task in
      let bound : l.steps ≤ w.settings.fuel + 256 = steps_are_bounded w.program w.settings w.journal.items I.legal in
      let fuel = I.settings.fuel.1 in
      omega (arith, count, rows, bound, fuel, few, most)

-- ---- AFTER A RUN OF STEPS

module _ (w : SharedValue) (text : ProgramText) (same : w.program ≡ text) (k : ℕ) (I : IsSharedValue w) (old new : Private) (fits : WorkerPartFits w k old) (on : (accounts w).end ≡ None) (idle : old.begun ≡ None) (n : ℕ)
    (runs : RunsSteps text old n new) (accounts_kept : KeepsAccounts text old n new) (rest : KeepsRest old new) (few : old.fresh + n ≤ private_limit) where
  F : FitsFirst w old
  F = first w k old I on fits

  within : old.fresh + n ≤ 257
  within = omega (arith, few)

  ran_fresh : new.fresh ≡ old.fresh + n
  ran_fresh = (ran w text same k I old new fits on F idle n runs accounts_kept rest within).fresh

  pub paused_then : (why : Paused) → PausesBy text old n new why → (why ≡ Spent → new.fresh ≡ private_limit) → IsPaused w k new why
  paused_then why by spent = record {
    may = record {
      fits = fits_on w text same k I old new fits on F idle n runs accounts_kept rest within;
      few = (let e = ran_fresh in omega (arith, e, few));
      idle = ap (λ (q : Private). q.begun) rest ∙ idle;
    };
    next = next_on w text same k I old new fits on F idle n runs accounts_kept rest within why by;
    spent = spent;
  }

-- of a part that may run at some value
module _ (p : ProgramText) (k : ℕ) (part : Private) (A : AtSome p (λ w. MayRun w k part)) where
  pub fits_some : FitsSome p part
  fits_some = subst (λ q. FitsSome q part) A.1.program (machine_after A.0 part, _, first A.0 k part A.1.shared A.1.goes A.2.fits)

  pub few_then : (n : ℕ) → n ≤ private_limit → part.allocations + n < 4294967296
  few_then n most = few_allocations A.0 k part A.1.shared A.1.goes A.2.fits n A.2.few most

  pub grows : (new : Private) (n : ℕ) → RunsSteps p part n new → KeepsAccounts p part n new → KeepsRest part new → part.fresh + n ≤ private_limit → (why : Paused) → PausesBy p part n new why → (why ≡ Spent → new.fresh ≡ private_limit) → HasGrown p k part new why
  grows new n runs kept rest few why by spent = λ w G f. paused_then w p G.program k G.shared part new f G.goes A.2.idle n runs kept rest few why by spent
