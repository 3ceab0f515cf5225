-- The laws of steps.
use Rattle.ledger_step_laws.specs.Common.{task_steps, ProgramText, SettingsValue, Task, is_running, can_step, Ledger, collecting}
use Rattle.std.specs.Prelude.{◌≡◌, ◌⊎◌, ℕ, true, false, Some, slice_get}
use Rattle.ledger_step_laws.specs.Accounts.{ArePrivate, AlikeFor, LedgerIsKnown}

abbrev pub PrivateStepsAreAlike : Type 0
PrivateStepsAreAlike =
    (p : ProgramText) (s : SettingsValue) (u k : ℕ) (l l' : Ledger) (x : Task) → LedgerIsKnown l → LedgerIsKnown l' → (k ≡ 0) ⊎ (collecting (slice_get l.heaps u) ≡ false) → AlikeFor u l l' → slice_get l.machine.tasks u ≡ Some x → is_running (Some x) ≡ true → can_step l.machine u ≡ true
    → ArePrivate p s l u k → ArePrivate p s l' u k × AlikeFor u (task_steps p l u k) (task_steps p l' u k)
