use Rattle.gc_pacer.proofs.Common.{◌≡◌, ◌-◌, ◌≤◌, ℕ, Some, false, length, slice_get, accounts, Fork, is_going}
use Rattle.gc_pacer.proofs.owing.last_going.Given as goal

abbrev pub invariant-loop-i : goal.invariant-loop-i
invariant-loop-i l = (k : ℕ) (f : Fork) → length l.forks - l.i ≤ k → slice_get l.forks k ≡ Some f → is_going (accounts l.shared) f ≡ false
