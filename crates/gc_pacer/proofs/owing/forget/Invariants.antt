use Rattle.gc_pacer.proofs.Common.{◌≤◌, WorkerPace, accounts, KeepsPace}
use Rattle.gc_pacer.proofs.owing.forget.Given as goal

abbrev pub invariant-loop : goal.invariant-loop
invariant-loop l = record {
  keeps : (x : WorkerPace) → KeepsPace (accounts l.shared) l.fn.pace x → KeepsPace (accounts l.shared) l.pace x;
  room : l.fn.pace.marks.room ≤ l.pace.marks.room;
}
