-- The machine that deltas follow is that of a journal's accounts.
use Rattle.run_deltas.proofs.Common.{◌≡◌, ℕ, zero, suc, replicate, refl, ap, sym, ◌∙◌, ProgramText, MachineState, step, run_from, Kind, Took, Ran, Chunk, Begin, End, PutOff, Mark, More, Sweep, Fuel, SettingsValue, Ledger, after_kind, tasks_in, kind_machine, stepped, machine_after}

module _ (p : ProgramText) where
  later : (m : MachineState) (t k : ℕ) → stepped p (step p m t) t k ≡ step p (stepped p m t k) t
  later m t zero = refl
  later m t (suc k) = ap (λ q. step p q t) (later m t k)

  stepped_run : (k : ℕ) (m : MachineState) (t : ℕ) → stepped p m t k ≡ run_from p m (replicate k t)
  stepped_run zero m t = refl
  stepped_run (suc k) m t = sym (later m t k) ∙ stepped_run k (step p m t) t

  pub after_run : (m : MachineState) (kind : Kind) → machine_after p m kind ≡ run_from p m (tasks_in kind)
  after_run m (Took t) = refl
  after_run m (Ran t k) = stepped_run k m t
  after_run m (Chunk t) = refl
  after_run m (Begin t) = refl
  after_run m (End t a g l) = refl
  after_run m (PutOff t) = refl
  after_run m (Mark t) = refl
  after_run m (More t k) = refl
  after_run m (Sweep t g) = refl
  after_run m Fuel = refl

  pub machine_moves : (s : SettingsValue) (l : Ledger) (w : ℕ) (kind : Kind) → machine_after p l.machine kind ≡ (after_kind p s l w kind).machine
  machine_moves s l w kind = after_run l.machine kind ∙ sym (kind_machine p s l w kind)
