-- An entry of one worker keeps what every other holds fitting.
use Rattle.refinement_laws.proofs.Common.{◌≡◌, ℕ, true, Some, None, slice_get, inr, ap, ap₂, sym, subst, ◌∙◌, ◌+◌, Instr, Set, Mov, Movr, Nil as NilOf, Calc, Same, Jmp, Jz, Newm, Pack, Getr, Geti, Putr, Puti, Cntr, Cnti, Freeze, Cas, Call, Par, Ret, Out, ProgramText, SettingsValue, MachineState, can_step, goes_on, is_joined, is_running, runs, running_tells, leaf_alone, SameOf, alike_steps, steps_limit, steps_end, steps_off, root_alone, Ledger, heap_of, or_fresh, task_steps, AlikeFor, ArePrivate, LedgerIsKnown, aside, WritesOther, LastKind, Private, Reading, Writing, Printing, Forking, Ending, Joining, Finishing, Halting, IsOfKind, GoesOn, Halts, RunsPrivateSteps, Splits, Belongings, Memory, Part, FitsAt, part_for, ahead, AreOut, RunsWithPart, IsSteady, PartFits, Stores, EntryMakes, taken_by, WorkerFits, steady_same, RanLeaves}
use Rattle.refinement_laws.proofs.parts.Alike as alike
use Rattle.refinement_laws.proofs.parts.Along.{alike_alone}
use Rattle.refinement_laws.proofs.parts.Copies.{part_stays, rested_heap}
use Rattle.refinement_laws.proofs.whole.HandedBack.{alive_machine}
use Rattle.refinement_laws.proofs.parts.Leave.{held_then}
use Rattle.refinement_laws.proofs.parts.Parts.{ahead_same}
use Rattle.refinement_laws.proofs.parts.NonMovingEntries.{aside_is}
use Rattle.refinement_laws.proofs.parts.StepsPreserveParts as ran
use Rattle.refinement.proofs.below.ledger_step_laws.BeforeLast as before_last

module _ (p : ProgramText) (s : SettingsValue) (r : Part) (v : Memory) (l : Ledger) (on : l.machine.end ≡ None) (F : WorkerFits p s r v l) where
  -- by the current accounts
  pub part_now : PartFits p s r v l
  part_now = subst (PartFits p s r v) (aside_is l on) F.part

  pub can : can_step l.machine r.task ≡ true
  can = ap₂ goes_on on (ap is_running F.is ∙ F.runs)

  pub out : RunsWithPart l r F.task
  out = record { task = F.is; runs = F.runs; can = can; steady = F.steady }

  pub to : (v' : Memory) (l' : Ledger) → slice_get l'.machine.tasks r.task ≡ Some F.task → IsSteady r l' → ((k : ℕ) → v.owner k ≡ Some r.task → v'.owner k ≡ Some r.task)
      → heap_of (ahead p r (aside l')) r.task ≡ heap_of (ahead p r l) r.task → FitsAt p s r v' (aside l') → WorkerFits p s r v' l'
  to v' l' is steady owner heap fits = record { task = F.task; is = is; runs = F.runs; steady = steady; part = part_stays p s r v v' l (aside l') owner heap fits part_now; leaf = F.leaf; fields = F.fields }

  steady_too : (l' : Ledger) → slice_get l'.heaps r.task ≡ slice_get l.heaps r.task → IsSteady r l'
  steady_too l' e = steady_same r l l' e F.steady

  -- if the machine and the account of its heap are unchanged
  pub to_same : (v' : Memory) (l' : Ledger) → l'.machine ≡ l.machine → slice_get l'.heaps r.task ≡ slice_get l.heaps r.task → ((k : ℕ) → v.owner k ≡ Some r.task → v'.owner k ≡ Some r.task) → FitsAt p s r v' l' → WorkerFits p s r v' l'
  to_same v' l' m h owner fits =
      let on' : l'.machine.end ≡ None = ap (λ (z : MachineState). z.end) m ∙ on in
      let same = ahead_same p s r l l' (record { machine = m; heap = h }) part_now.fits.private in
      to v' l' (ap (λ (z : MachineState). slice_get z.tasks r.task) m ∙ F.is) (steady_too l' h) owner (ap (λ (z : Ledger). heap_of (ahead p r z) r.task) (aside_is l' on') ∙ ap or_fresh same.1.heap)
      (subst (FitsAt p s r v') (sym (aside_is l' on')) fits)

-- AN ENTRY OF STEPS

module _ (p : ProgramText) (s : SettingsValue) (v v' : Memory) (l l' : Ledger) (t w k : ℕ) (h : Belongings) (E : RunsPrivateSteps p s l l' t w k) (r : Part) (ne : t ≡ r.task → ⊥) (R : WorkerFits p s r v l) where
  abbrev m : Ledger
  m = task_steps p l t k

  abbrev S : Splits p s l l' t k
  S = E.splits

  alive : l.machine.end ≡ None
  alive = alive_machine p s l l' t w k E

  abbrev G : FitsAt p s r v l
  G = (part_now p s r v l alive R).fits

  abbrev P : RunsWithPart l r R.task
  P = out p s r v l alive R

  -- before the last step
  alike_m : AlikeFor r.task l m
  alike_m =
      alike_alone p s r l m t ne
      (λ z. ne (leaf_alone l E.knows.sound t r.task (before_last.idle_first p s l l' t w k E) (ap is_joined R.is ∙ (running_tells R.task.status R.runs).0) z))
      (before_last.alone p s l l' t w k E) (steps_limit p s t k l S.private) (steps_end p s t k l S.private) (steps_off p s t k l r.task (λ e. ne (sym e)) S.private)

  abbrev know_m : LedgerIsKnown m
  know_m = before_last.known p s l l' t w k E

  -- the heap's account after the part's steps, if the accounts agree for it
  ahead_alike : (n : Ledger) → LedgerIsKnown n → AlikeFor r.task l n → ArePrivate p s n r.task r.fresh × (heap_of (ahead p r n) r.task ≡ heap_of (ahead p r l) r.task)
  ahead_alike n K A =
      let a = alike_steps p s r.task r.fresh l n R.task E.knows K R.steady A R.is R.runs (can p s r v l alive R) G.private in
      (a.0, rested_heap (task_steps p l r.task r.fresh) (task_steps p n r.task r.fresh) r.task a.1.heap)

  -- its chunks keep their owner
  owner_writes : (W : WritesOther m l' t S.task S.line) (instr : Instr) → Stores v v' m t h S.task W.object instr → (i : ℕ) → v'.owner i ≡ v.owner i
  owner_writes W (Putr o i b) C = C.6.writes.owner
  owner_writes W (Cas d o i e b) C = C.6.writes.owner
  owner_writes W (Puti o i b) C = C.6.writes.owner
  owner_writes W (Set d a) C = absurd C
  owner_writes W (Mov d a) C = absurd C
  owner_writes W (Movr d a) C = absurd C
  owner_writes W (NilOf d) C = absurd C
  owner_writes W (Calc op d a b) C = absurd C
  owner_writes W (Same d a b) C = absurd C
  owner_writes W (Jmp to) C = absurd C
  owner_writes W (Jz a to) C = absurd C
  owner_writes W (Newm d a b) C = absurd C
  owner_writes W (Pack d a b) C = absurd C
  owner_writes W (Getr d o i) C = absurd C
  owner_writes W (Geti d o i) C = absurd C
  owner_writes W (Cntr d o) C = absurd C
  owner_writes W (Cnti d o) C = absurd C
  owner_writes W (Freeze o) C = absurd C
  owner_writes W (Call g) C = absurd C
  owner_writes W (Par f g) C = absurd C
  owner_writes W Ret C = absurd C
  owner_writes W (Out a) C = absurd C

  owner_by : (kind : LastKind) (K : IsOfKind p m l' t S.task S.line kind) → FitsAt p s (part_for s t h (taken_by kind k)) v l → EntryMakes p v v' m l' t h S.task S.line kind K → (i : ℕ) → v.owner i ≡ Some r.task → v'.owner i ≡ Some r.task
  owner_by Private K F C i o = ap (λ (z : Memory). z.owner i) C ∙ o
  owner_by Reading K F C i o = ap (λ (z : Memory). z.owner i) C ∙ o
  owner_by Writing K F C i o = owner_writes K S.line.instr C i ∙ o
  owner_by Printing K F C i o = ap (λ (z : Memory). z.owner i) C ∙ o
  owner_by Forking K F C i o = C.owner i ∙ o
  owner_by Ending K F C i o = C.2.owner i ∙ o
  owner_by Joining K F C i o =
      let A : AreOut l (part_for s t h k) r E.task R.task = record { first = record { task = E.at; runs = E.runs; can = E.can; steady = inr E.collects }; second = P; apart = ne } in
      C.2.owners i r.task (held_then p s (part_for s t h k) r v l l' E.task R.task E.knows F G A K.left K.can.left_rests) (held_then p s (part_for s t h k) r v l l' E.task R.task E.knows F G A (K.left + 1) K.can.right_rests) o
  owner_by Finishing K F C i o = C.2.owner i ∙ o
  owner_by Halting K F C i o = ap (λ (z : Memory). z.owner i) C ∙ o

  -- the machine after a halt
  halted : Halts m l' → SameOf r.task m (aside l')
  halted H = record {
    machine = ap (λ (z : MachineState). record z { end = None }) H.machine ∙ ap (λ (z : Ledger). z.machine) (aside_is m (steps_end p s t k l S.private ∙ alive));
    heap = ap (λ hs. slice_get hs r.task) H.heaps;
  }

  goes : l'.machine.end ≡ None → AlikeFor r.task l l' → ((i : ℕ) → v.owner i ≡ Some r.task → v'.owner i ≡ Some r.task) → FitsAt p s r v' (aside l') → WorkerFits p s r v' l'
  goes on A owner fits =
      to p s r v l alive R v' l' (A.task ∙ R.is) (steady_too p s r v l alive R l' A.heap) owner (ap (λ (z : Ledger). heap_of (ahead p r z) r.task) (aside_is l' on) ∙ (ahead_alike l' E.knows_then A).1) fits

  workers_fit_by_kind : (kind : LastKind) (K : IsOfKind p m l' t S.task S.line kind) → (GoesOn kind → l'.machine.end ≡ None) → FitsAt p s (part_for s t h (taken_by kind k)) v l → EntryMakes p v v' m l' t h S.task S.line kind K → FitsAt p s r v' (aside l') → WorkerFits p s r v' l'
  workers_fit_by_kind Private K on F C V = goes (on tt) (alike.alike_by p s v l l' t w k h E (on tt) r R.task P ne G Private K F tt) (owner_by Private K F C) V
  workers_fit_by_kind Reading K on F C V = goes (on tt) (alike.alike_by p s v l l' t w k h E (on tt) r R.task P ne G Reading K F tt) (owner_by Reading K F C) V
  workers_fit_by_kind Writing K on F C V = goes (on tt) (alike.alike_by p s v l l' t w k h E (on tt) r R.task P ne G Writing K F tt) (owner_by Writing K F C) V
  workers_fit_by_kind Printing K on F C V = goes (on tt) (alike.alike_by p s v l l' t w k h E (on tt) r R.task P ne G Printing K F tt) (owner_by Printing K F C) V
  workers_fit_by_kind Forking K on F C V = goes (on tt) (alike.alike_by p s v l l' t w k h E (on tt) r R.task P ne G Forking K F tt) (owner_by Forking K F C) V
  workers_fit_by_kind Ending K on F C V = goes (on tt) (alike.alike_by p s v l l' t w k h E (on tt) r R.task P ne G Ending K F tt) (owner_by Ending K F C) V
  workers_fit_by_kind Joining K on F C V = goes (on tt) (alike.alike_by p s v l l' t w k h E (on tt) r R.task P ne G Joining K F tt) (owner_by Joining K F C) V
  -- if the root ends, no other task runs
  workers_fit_by_kind Finishing K on F C V = absurd (ne (sym (root_alone m know_m.sound E.root t r.task S.task R.task S.at.task (ap runs S.at.runs) K.root (alike_m.task ∙ R.is) R.runs)))
  workers_fit_by_kind Halting K on F C V =
      let same = ahead_same p s r m (aside l') (halted K) (ahead_alike m know_m alike_m).0 in
      to p s r v l alive R v' l' (ap (λ (z : MachineState). slice_get z.tasks r.task) K.machine ∙ (alike_m.task ∙ R.is)) (steady_too p s r v l alive R l' (ap (λ hs. slice_get hs r.task) K.heaps ∙ alike_m.heap)) (owner_by Halting K F C)
      (ap or_fresh same.1.heap ∙ (ahead_alike m know_m alike_m).1) V

pub ran_leaves : RanLeaves
ran_leaves p s v v' l l' t w k h E Q C r ne R =
    let alive = alive_machine p s l l' t w k E in
    let F = (part_now p s (part_for s t h (taken_by E.splits.kind k)) v l alive Q).fits in
    workers_fit_by_kind p s v v' l l' t w k h E r ne R E.splits.kind E.splits.last E.splits.on F C (ran.ran_leaves_still p s v v' l l' t w k h E r R.task (out p s r v l alive R) ne (part_now p s r v l alive R).fits F C)
