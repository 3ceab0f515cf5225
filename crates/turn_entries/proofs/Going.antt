-- Parts that may take steps.
use Rattle.turn_entries.proofs.Common.{◌≡◌, ℕ, None, ap, sym, subst, ◌∙◌, arith, LeafHeapValue, Moved, Private, Shared, WorkerPartFits, SharedValue, IsShared, FitsCopied, without_collection, IsPaused, MayRun}

module _ (w : SharedValue) (k : ℕ) (part : Private) where
  -- without fresh steps
  pub may : WorkerPartFits w k part → part.fresh ≡ 0 → part.begun ≡ None → MayRun w k part
  may fits fresh idle = record { fits = fits; few = omega (arith, fresh); idle = idle }

  pub stands_shared : IsPaused w k part Shared → IsShared w part
  stands_shared P = record { last = P.next; few = P.may.few }

-- the same if a call before it changed nothing
pub still_paused : (w same : SharedValue) (k : ℕ) (p q : Private) → same ≡ w → q ≡ p → IsPaused w k p Shared → IsPaused same k q Shared
still_paused w same k p q e part P = subst (λ (z : SharedValue). IsPaused z k q Shared) (sym e) (subst (λ (r : Private). IsPaused w k r Shared) (sym part) P)

-- after an entry
module _ (w : SharedValue) (k : ℕ) (old part : Private) where
  pub may_cleared : WorkerPartFits w k part → old.begun ≡ None → part ≡ record old { fresh = 0 } → MayRun w k part
  may_cleared fits idle e = may w k part fits (ap (λ (p : Private). p.fresh) e) (ap (λ (p : Private). p.begun) e ∙ idle)

  pub may_alone : WorkerPartFits w k part → old.begun ≡ None → part ≡ record old { frames = part.frames; fresh = 0 } → MayRun w k part
  may_alone fits idle e = may w k part fits (ap (λ (p : Private). p.fresh) e) (ap (λ (p : Private). p.begun) e ∙ idle)

  pub may_heap : (h : LeafHeapValue) → WorkerPartFits w k part → old.begun ≡ None → old.fresh ≡ 0 → part ≡ record old { heap = h } → MayRun w k part
  may_heap h fits idle fresh e = may w k part fits (ap (λ (p : Private). p.fresh) e ∙ fresh) (ap (λ (p : Private). p.begun) e ∙ idle)

  pub may_ended : (before : SharedValue) (moved : Moved) → WorkerPartFits w k part → FitsCopied before k old moved → part ≡ without_collection old → MayRun w k part
  may_ended before moved fits C e = may w k part fits (ap (λ (p : Private). p.fresh) e ∙ C.fresh) (ap (λ (p : Private). p.begun) e)
