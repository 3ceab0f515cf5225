-- Rounds of a worker, one after the other.
use Rattle.worker_run.proofs.Common.{◌≡◌, true, suc, subst, inl, inr, or_right, is_some, ProgramText, SharedValue, accounts, Next, Stop, Ready, is_over, WorkerState, DoesOnce, HasStopped, TakesTurn, GoesRound, MakesRound}

module _ {P : Type 0} (value : P → SharedValue) where
  -- after a turn that makes the worker stop, the run is over
  pub stops_then : (old new : WorkerState P) (ready : Ready) (next : Next) → TakesTurn value old new ready next → next ≡ Stop → HasStopped value new
  stops_then old new ready next T is = record { last = T.given; gave = T.gave; over = stops_then_by_cases (subst (λ (n : Next). DoesOnce value old new T.taken T.given ready n) is T.does) }
    where
      stops_then_by_cases : DoesOnce value old new T.taken T.given ready Stop → is_over (value T.given.paced) ≡ true
      stops_then_by_cases (inl d) = or_right (value T.given.paced).halted (is_some (accounts (value T.given.paced)).end) d.0.follows
      stops_then_by_cases (inr d) = d.0.1.0

  pub one_more : (p : ProgramText) (d : WorkerState P) (first : Next) (last : WorkerState P) (on : Next) (new : WorkerState P) (after : Next) → GoesRound value p d first last on → MakesRound value p last on new after → GoesRound value p d first new after
  one_more p d first last on new after R M = (suc R.0, (last, on, R.1, M))
