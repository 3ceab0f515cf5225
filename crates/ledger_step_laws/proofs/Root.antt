-- While the first task runs no other does.
use Rattle.ledger_step_laws.proofs.Common.{◌≡◌, ℕ, true, Some, None, slice_get, ap, sym, ◌∙◌, Task, is_running, OneRoot, one_root, Ledger, SoundLedger}

-- while the root runs no other task does
pub root_alone : (l : Ledger) → SoundLedger l → OneRoot l.machine.tasks → (t u : ℕ) (x y : Task) → slice_get l.machine.tasks t ≡ Some x → is_running (Some x) ≡ true → x.parent ≡ None → slice_get l.machine.tasks u ≡ Some y → is_running (Some y) ≡ true → u ≡ t
root_alone l S R t u x y is runs none at runs_u =
    let zero_is : t ≡ 0 = R t x is none in
    let first : is_running (slice_get l.machine.tasks 0) ≡ true = ap (λ z. is_running (slice_get l.machine.tasks z)) (sym zero_is) ∙ (ap is_running is ∙ runs) in
    (one_root l.machine S.fork_join R).alone u first (ap is_running at ∙ runs_u) ∙ sym zero_is
