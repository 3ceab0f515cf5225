-- The whole relation is kept by each accepted entry without steps: none of them ends the run as done.
use Rattle.refinement_laws.proofs.Common.{◌≡◌, ◌+◌, List, ℕ, Bool, true, false, cond, None, Some, nat_lt, refl, sym, subst, ◌∙◌, ProgramText, SettingsValue, EntryValue, Kind, Took, Ran, Chunk, Begin, End as EndOf, PutOff, Mark, More, Sweep, Fuel, asked, Heap, Ledger, Pool, in_use, with_heap, refusal, after_kind, chunk_units, with_chunk, ledger_of, accepted_on, Memory, IsQuiet, TreeCounts, StandsFor, StandsForAll, handed, TookStandsFor, QuietStandsFor, SweepsStandFor, EndsStandFor}
use Rattle.refinement_laws.proofs.whole.Counts.{with_steps}
use Rattle.refinement_laws.proofs.whole.HandedBack.{handed_on}
use Rattle.refinement_laws.proofs.whole.Past as past

module _ (p : ProgramText) (s : SettingsValue) (l : Ledger) (on : l.end ≡ None) where
  -- if an entry changes one heap's account, the run goes on
  pub heap_on : (t : ℕ) (f : Heap → Heap) → handed (with_heap l t f) ≡ with_heap l t f
  heap_on t f = handed_on (with_heap l t f) ((with_steps l t f).1 ∙ on)

  pub quiet_on : (w : ℕ) (kind : Kind) → IsQuiet kind → handed (after_kind p s l w kind) ≡ after_kind p s l w kind
  quiet_on w (Took t) q = absurd q
  quiet_on w (Ran t k) q = absurd q
  quiet_on w (Chunk t) q = quiet_on_by_cases (nat_lt s.chunks (in_use l + chunk_units (asked p l.machine t)))
    where
      quiet_on_by_cases : (b : Bool) → handed (cond b (record l { end = Some (Pool (in_use l)) }) (with_heap l t (with_chunk (asked p l.machine t)))) ≡ cond b (record l { end = Some (Pool (in_use l)) }) (with_heap l t (with_chunk (asked p l.machine t)))
      quiet_on_by_cases true = refl
      quiet_on_by_cases false = heap_on t (with_chunk (asked p l.machine t))
  quiet_on w (Begin t) q = heap_on t _
  quiet_on w (EndOf t a g n) q = absurd q
  quiet_on w (PutOff t) q = heap_on t _
  quiet_on w (Mark t) q = heap_on t _
  quiet_on w (More t n) q = heap_on t _
  quiet_on w (Sweep t g) q = absurd q
  quiet_on w Fuel q = refl

module _ (p : ProgramText) (s : SettingsValue) (journal : List EntryValue) (e : EntryValue) (accepted : refusal p s (ledger_of p s journal) e ≡ None) where
  before : (v : Memory) (c : TreeCounts) → StandsForAll v c (ledger_of p s journal) → StandsFor v c (ledger_of p s journal)
  before v c W = subst (StandsFor v c) (handed_on (ledger_of p s journal) (accepted_on p s (ledger_of p s journal) e accepted)) W

pub took_stands_for : TookStandsFor
took_stands_for p s journal program legal v v' c c' w t accepted W B N C =
    let e : EntryValue = record { worker = w; kind = Took t } in
    subst (StandsFor v' c') (sym (heap_on p s (ledger_of p s journal) (accepted_on p s (ledger_of p s journal) e accepted) t _)) (past.took_stands_for p s journal program legal v v' c c' w t accepted (before p s journal e accepted v c W) B N C)

pub quiet_stands_for : QuietStandsFor
quiet_stands_for p s journal program legal v v' c c' e accepted quiet W B N M C =
    subst (StandsFor v' c') (sym (quiet_on p s (ledger_of p s journal) (accepted_on p s (ledger_of p s journal) e accepted) e.worker e.kind quiet)) (past.quiet_stands_for p s journal program legal v v' c c' e accepted quiet (before p s journal e accepted v c W) B N M C)

pub sweeps_stand_for : SweepsStandFor
sweeps_stand_for p s journal program legal v v' c c' w t given accepted W B N begun C =
    let e : EntryValue = record { worker = w; kind = Sweep t given } in
    subst (StandsFor v' c') (sym (heap_on p s (ledger_of p s journal) (accepted_on p s (ledger_of p s journal) e accepted) t _)) (past.sweeps_stand_for p s journal program legal v v' c c' w t given accepted (before p s journal e accepted v c W) B N begun C)

pub ends_stand_for : EndsStandFor
ends_stand_for p s journal program legal v v' c c' w t taken given left h h' f accepted W K E none N C =
    let e : EntryValue = record { worker = w; kind = EndOf t taken given left } in
    subst (StandsFor v' c') (sym (heap_on p s (ledger_of p s journal) (accepted_on p s (ledger_of p s journal) e accepted) t _)) (past.ends_stand_for p s journal program legal v v' c c' w t taken given left h h' f accepted (before p s journal e accepted v c W) K E none N C)
