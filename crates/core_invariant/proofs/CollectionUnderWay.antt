-- A part has begun a leaf collection if and only if its account says so.
use Rattle.core_invariant.proofs.Common.{◌≡◌, ℕ, Bool, true, false, Option, Some, None, List, slice_get, is_none, is_some, refl, ap, sym, ◌∙◌, eq-eqb, and_from, false≢true, none_of, Name, is_running, Heap, Ledger, Refused, Collecting, NotOut, heap_of, or_fresh, task_steps, is_out, on_running, refused_if, refused_unless, collecting, option_is, rested, rested_view, with_belongings, Memory, BegunBy, Begun, Private, SharedValue, accounts, value_of, WorkerPartFits, belongings_of_part}
use Rattle.core_invariant.proofs.BeforeTheEnd.{alive, part_now, status}
use Rattle.core_invariant.proofs.StepAccounts.{After, after_all, hold_same}

idle_of : (out begun : Bool) (rest : Option Refused) → is_none (refused_unless out NotOut (refused_if begun Collecting rest)) ≡ true → begun ≡ false
idle_of true false rest h = refl
idle_of true true rest h = absurd (false≢true h)
idle_of false begun rest h = absurd (false≢true h)

out_by : (out begun amid : Bool) (rest : Option Refused) → out ≡ true → begun ≡ amid → refused_unless out NotOut (refused_if begun Collecting rest) ≡ refused_if amid Collecting rest
out_by true begun amid rest a b = ap (λ c. refused_if c Collecting rest) b
out_by false begun amid rest a b = absurd (false≢true a)

module _ (w : SharedValue) (k : ℕ) (p : Private) (F : WorkerPartFits w k p) (on : (accounts w).end ≡ None) where
  abbrev l : Ledger
  l = accounts w

  abbrev t : ℕ
  t = p.task

  abbrev M : Ledger
  M = task_steps w.program l t p.fresh

  abbrev L : Ledger
  L = rested M t

  abbrev v' : Memory
  v' = with_belongings (value_of w) t (belongings_of_part p)

  A : After l M t F.fits.task
  A = after_all w.program w.settings t p.fresh l F.fits.task (alive w k p F on) F.fits.is (status w k p F on) (part_now w k p F on).fits.private

  account_same : (heap_of L t).begun ≡ (heap_of l t).begun
  account_same =
      rested_view (λ (z : Heap). z.begun) (λ z. refl) M t
      ∙ ap (λ (x : Option ℕ × Option ℕ × List Name × Bool). x.1) (hold_same (slice_get l.heaps t) (slice_get M.heaps t) A.heap)

  by_part : (o : Option Begun) → BegunBy v' L t o → is_some (heap_of L t).begun ≡ is_some o
  by_part None B = ap is_some B
  by_part (Some b) B = ap is_some B.few

  pub begun_is : is_some (heap_of l t).begun ≡ is_some p.begun
  begun_is = ap is_some (sym account_same) ∙ by_part p.begun (part_now w k p F on).begun

  -- the worker holds the task, which is in a leaf collection if the part is
  pub at_part : (rest : Option Refused) → on_running l k t rest ≡ refused_if (is_some p.begun) Collecting rest
  at_part rest =
      out_by (is_out l k t) (is_some (heap_of l t).begun) (is_some p.begun) rest
      (and_from (is_running (slice_get l.machine.tasks t)) (option_is (heap_of l t).worker k) (ap is_running F.fits.is ∙ F.fits.runs) (ap (λ o. option_is o k) F.out ∙ eq-eqb k k refl))
      begun_is

  -- if an entry of the task isn't refused, it is in none
  pub none_begun : (rest : Option Refused) → is_none (on_running l k t rest) ≡ true → p.begun ≡ None
  none_begun rest h = none_of p.begun (sym begun_is ∙ idle_of (is_out l k t) (is_some (heap_of l t).begun) rest h)

  module _ (none : p.begun ≡ None) where
    pub account_idle : (heap_of l t).begun ≡ None
    account_idle = none_of (heap_of l t).begun (begun_is ∙ ap is_some none)

    pub steady : collecting (slice_get l.heaps t) ≡ false
    steady = steady_by_cases (slice_get l.heaps t) account_idle
      where
        steady_by_cases : (o : Option Heap) → (or_fresh o).begun ≡ None → collecting o ≡ false
        steady_by_cases None e = refl
        steady_by_cases (Some h) e = ap is_some e
