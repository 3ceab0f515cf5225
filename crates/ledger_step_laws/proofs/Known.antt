-- All that the laws require of accounts holds for those of a legal journal.
use Rattle.ledger_step_laws.proofs.Common.{◌≡◌, ℕ, true, List, length, sym, subst, ProgramText, EntryValue, SettingsValue, field_limit, MachineState, IsStored, run, start, Ledger, SoundLedger, Closed, start_counted, rows_from, start_is_fork_join_state, run_stored, ledger_of, is_legal, tasks_of, legal_sound, machine_is_run, LedgerIsKnown}

pub legal_knows : (p : ProgramText) (s : SettingsValue) (journal : List EntryValue) → is_legal p s journal ≡ true → LedgerIsKnown (ledger_of p s journal)
legal_knows p s journal legal =
    let e = machine_is_run p s journal in
    record {
      sound = legal_sound p s journal legal;
      stored = subst (λ (m : MachineState). Closed m.tasks m.store (IsStored m)) (sym e) (run_stored p (field_limit s.version) (tasks_of journal));
      rows = subst (λ (m : MachineState). length m.store ≡ length m.tasks) (sym e) (rows_from p (start p (field_limit s.version)) (tasks_of journal) 0 (start_is_fork_join_state p (field_limit s.version)) (start_counted p (field_limit s.version)));
    }

-- for any accounts whose machine is that of a run
pub run_knows : (p : ProgramText) (limit : ℕ) (ts : List ℕ) (l : Ledger) → SoundLedger l → l.machine ≡ run p limit ts → LedgerIsKnown l
run_knows p limit ts l S e = record {
  sound = S;
  stored = subst (λ (m : MachineState). Closed m.tasks m.store (IsStored m)) (sym e) (run_stored p limit ts);
  rows = subst (λ (m : MachineState). length m.store ≡ length m.tasks) (sym e) (rows_from p (start p limit) ts 0 (start_is_fork_join_state p limit) (start_counted p limit));
}
