-- Entries without steps keep what every other worker holds fitting.
use Rattle.refinement_laws.proofs.Common.{◌≡◌, ℕ, true, false, Some, None, is_none, slice_get, List, refl, ap, sym, subst, ◌∙◌, and_parts, length, none_is, none_some, ProgramText, EntryValue, SettingsValue, Took, Sweep, End as EndOf, MachineState, IsStored, is_running, is_waiting, Closed, runs_is, runs_tell, waiting_stops, Ledger, heap_of, collected, swept_heap, refusal, after, is_ready, is_out, ledger_of, is_legal, SoundLedger, none_unless, entry_sound, entry_tells, wait_tells, legal_sound, accepted_on, heap_of_task, running_at, Rests, LedgerIsKnown, with_off, took_takes, sweep_changes, end_changes, legal_knows, legal_alive, legal_idle, Memory, Part, FitsAt, WorkerFits, TookLeaves, QuietLeaves, SweepsLeave, EndsLeave}
use Rattle.refinement_laws.proofs.parts.Leave as leave
use Rattle.refinement_laws.proofs.parts.Parts.{fits_sweep}
use Rattle.refinement_laws.proofs.parts.QuietEntries.{quiet_by, quiet_off}
use Rattle.refinement_laws.proofs.whole.Together.{copies_leave}
use Rattle.refinement_laws.proofs.parts.Workers.{part_now, out, to_same}

-- what is known of accounts with the same machine
knows_same : (l l' : Ledger) → l'.machine ≡ l.machine → SoundLedger l' → LedgerIsKnown l → LedgerIsKnown l'
knows_same l l' e S K = record {
  sound = S;
  stored = subst (λ (m : MachineState). Closed m.tasks m.store (IsStored m)) (sym e) K.stored;
  rows = subst (λ (m : MachineState). length m.store ≡ length m.tasks) (sym e) K.rows;
}

module _ (p : ProgramText) (s : SettingsValue) (journal : List EntryValue) (legal : is_legal p s journal ≡ true) (e : EntryValue) (accepted : refusal p s (ledger_of p s journal) e ≡ None) where
  abbrev l : Ledger
  l = ledger_of p s journal

  abbrev S : SoundLedger l
  S = legal_sound p s journal legal

  S' : SoundLedger (after p s l e)
  S' = entry_sound p s l e S (ap is_none accepted)

  alive : l.machine.end ≡ None
  alive = legal_alive p s journal legal (accepted_on p s l e accepted)

  module _ (v : Memory) (r : Part) (R : WorkerFits p s r v l) where
    abbrev G : FitsAt p s r v l
    G = (part_now p s r v l alive R).fits

    idle_r : is_waiting (slice_get l.machine.tasks r.task) ≡ false
    idle_r = ap is_waiting R.is ∙ (runs_tell (Some R.task) R.runs).3

    -- a task at rest isn't r's
    apart : (t : ℕ) → Rests l t → t ≡ r.task → ⊥
    apart t h e = none_some (sym h ∙ (ap (λ z. (heap_of l z).worker) e ∙ G.out))

pub took_leaves : TookLeaves
took_leaves p s journal legal v v' w t accepted C r R =
    let e : EntryValue = record { worker = w; kind = Took t } in
    let l : Ledger = ledger_of p s journal in
    let S = legal_sound p s journal legal in
    let ready = (none_unless (is_ready l t) _ _ (entry_tells p s l e (ap is_none accepted)).2).0 in
    let both = and_parts (is_running (slice_get l.machine.tasks t)) _ ready in
    let g = heap_of_task l t S both.0 in
    let rests : Rests l t = none_is (heap_of l t).worker both.1 in
    let alive = alive p s journal legal e accepted in
    let ne = apart p s journal legal e accepted v r R t rests in
    let L = took_takes l t w g.0 g.1 in
    let heap = with_off l t r.task (λ h. record h { worker = Some w }) (λ q. ne (sym q)) in
    to_same p s r v l alive R v' (after p s l e) L.machine heap (λ k o. C.owner k ∙ o)
    (leave.takings p s v v' l (after p s l e) t w S (S' p s journal legal e accepted) rests (runs_tell (slice_get l.machine.tasks t) both.0).3 L C r R.steady heap (part_now p s r v l alive R).fits)

pub quiet_leaves : QuietLeaves
quiet_leaves p s journal legal v v' e accepted quiet C r ne R =
    let l : Ledger = ledger_of p s journal in
    let alive = alive p s journal legal e accepted in
    let Q = quiet_by p s l e.worker e.kind quiet in
    let heap = quiet_off p s l e.worker r.task e.kind quiet ne (entry_tells p s l e (ap is_none accepted)).2 (idle_r p s journal legal e accepted v r R) in
    to_same p s r v l alive R v' (after p s l e) Q.0.machine heap (λ k o. C.owner k r.task o)
    (leave.quiet p s v v' l (after p s l e) (legal_sound p s journal legal) (S' p s journal legal e accepted) Q.0 C r R.steady heap (part_now p s r v l alive R).fits)

pub sweeps_leave : SweepsLeave
sweeps_leave p s journal legal v v' w t given accepted C r R =
    let e : EntryValue = record { worker = w; kind = Sweep t given } in
    let l : Ledger = ledger_of p s journal in
    let alive = alive p s journal legal e accepted in
    let wait = (wait_tells l t _ (entry_tells p s l e (ap is_none accepted)).2).0 in
    let rests : Rests l t = legal_idle p s journal legal (accepted_on p s l e accepted) t (waiting_stops (slice_get l.machine.tasks t) wait) in
    let ne = apart p s journal legal e accepted v r R t rests in
    let L = sweep_changes l t in
    let heap = with_off l t r.task swept_heap (λ q. ne (sym q)) in
    to_same p s r v l alive R v' (after p s l e) L.machine heap (λ k o. C.owners k r.task (λ q. ne (sym q)) o)
    (fits_sweep p s r v v' l (after p s l e) t (legal_sound p s journal legal) (S' p s journal legal e accepted) R.steady ne wait rests L heap C (part_now p s r v l alive R).fits)

pub ends_leave : EndsLeave
ends_leave p s journal legal v v' w t taken given left h h' f accepted K E r ne R =
    let e : EntryValue = record { worker = w; kind = EndOf t taken given left } in
    let l : Ledger = ledger_of p s journal in
    let alive = alive p s journal legal e accepted in
    let held = none_unless (is_out l w t) _ _ (entry_tells p s l e (ap is_none accepted)).2 in
    let run = (and_parts (is_running (slice_get l.machine.tasks t)) _ held.0).0 in
    let g = heap_of_task l t (legal_sound p s journal legal) run in
    let x = running_at l.machine.tasks t (slice_get l.machine.tasks t) refl run in
    let L = end_changes l t in
    let knows = legal_knows p s journal legal in
    let heap = with_off l t r.task (collected l.machine) (λ q. ne (sym q)) in
    to_same p s r v l alive R v' (after p s l e) L.machine heap (λ k o. E.owners k r.task (λ q. ne (sym q)) o)
    (copies_leave p s t h h' f v v' l x.0 g.0 knows (knows_same l (after p s l e) L.machine (S' p s journal legal e accepted) knows) x.1 (runs_is x.0.status x.2) g.1 K E r R.task (out p s r v l alive R) ne (part_now p s r v l alive R).fits)
