-- After an entry of steps what its worker holds fits, if it goes on with the task or the run halts.
use Rattle.refinement_laws.proofs.Common.{◌≡◌, ℕ, suc, pos, ℤ, true, false, Option, Some, None, slice_get, slice_set, length, inl, refl, ap, sym, subst, ◌∙◌, same_Some, got_same, Instr, Set, Mov, Movr, Nil as NilOf, Calc, Same, Jmp, Jz, Newm, Pack, Getr, Geti, Putr, Puti, Cntr, Cnti, Freeze, Cas, Call, Par, Ret, Out, ProgramText, SettingsValue, MachineState, Task, int_in, onward, place_in, is_running, is_waiting, runs, Ledger, heap_of, or_fresh, task_steps, SoundLedger, task_step_machine, steps_last, task_steps_sound, StepsAlone, aside, rested, StoresOne, WritesOther, LastKind, Private, Reading, Writing, Printing, Forking, Ending, Joining, Finishing, Halting, IsOfKind, GoesOn, RunsPrivateSteps, Splits, stepped_by, both_rested, private_on, rested_sound, rested_view, steps_go, worker_step, is_store, is_swap, is_number, Belongings, Memory, Part, FitsAt, part_for, ahead, with_belongings, PartFits, StoresNumberAt, Stores, StoresInto, BelongingsAfterStore, StepsTo, BelongingsAfter, EntryMakes, taken_by, BegunBy, WorkerFits, ran_fits, at_belongings, RanFits}
use Rattle.refinement.proofs.below.ledger_step_laws.BeforeLast as before_last
use Rattle.refinement_laws.proofs.parts.Handed.{stores_fit, numbers_fit, steps_fit}
use Rattle.refinement_laws.proofs.whole.HandedBack.{alive_machine}
use Rattle.refinement_laws.proofs.whole.Past.{none_begun_by_ledger}
use Rattle.refinement_laws.proofs.parts.NonMovingEntries.{aside_is}
use Rattle.refinement_laws.proofs.parts.StepsPreserveParts.{halt_fits}
use Rattle.refinement_laws.proofs.whole.RanWhole.{none_collects}
use Rattle.refinement_laws.proofs.whole.Together.{none_begun}
use Rattle.refinement_laws.proofs.parts.Workers.{part_now}

module _ (p : ProgramText) (s : SettingsValue) (v v' : Memory) (l l' : Ledger) (t w k : ℕ) (h g : Belongings) (E : RunsPrivateSteps p s l l' t w k) where
  abbrev m : Ledger
  m = task_steps p l t k

  abbrev S : Splits p s l l' t k
  S = E.splits

  abbrev q : Part
  q = part_for s t h k

  -- the heap begins no collection meanwhile
  still : (j : ℕ) → (heap_of (task_steps p l t j) t).begun ≡ None
  still j = none_collects (slice_get (task_steps p l t j).heaps t) (task_steps_sound p j l t (E.knows.sound, E.collects)).1

  last : task_steps p l t (suc k) ≡ l'
  last = steps_last p l t k ∙ sym S.after

  still_then : (heap_of l' t).begun ≡ None
  still_then = ap (λ (z : Ledger). (heap_of z t).begun) (sym last) ∙ still (suc k)

  none_begun_then : (n : Ledger) → (heap_of n t).begun ≡ None → g.begun ≡ None → BegunBy (with_belongings v' t g) (ahead p (part_for s t g 0) n) t g.begun
  none_begun_then n e none = none_begun (with_belongings v' t g) (ahead p (part_for s t g 0) n) t g.begun none (rested_view (λ z. z.begun) (λ z. refl) n t ∙ e)

  -- the part after it
  fits : (n : Ledger) → aside l' ≡ n → (y : Task) → slice_get l'.machine.tasks t ≡ Some y → is_running (Some y) ≡ true → (heap_of n t).begun ≡ None → g.begun ≡ None → FitsAt p s (part_for s t g 0) v' n → WorkerFits p s (part_for s t g 0) v' l'
  fits n e y is run begun none V = record {
    task = y;
    is = is;
    runs = run;
    steady = inl refl;
    part = subst (PartFits p s (part_for s t g 0) v') (sym e) (record { fits = V; begun = none_begun_then n begun none });
    leaf = refl;
    fields = refl;
  }

  goes : l'.machine.end ≡ None → (y : Task) → slice_get l'.machine.tasks t ≡ Some y → is_running (Some y) ≡ true → g.begun ≡ None → FitsAt p s (part_for s t g 0) v' l' → WorkerFits p s (part_for s t g 0) v' l'
  goes on y is run none V = fits l' (aside_is l' on) y is run still_then none V

  -- if the step sets its frame
  set_task : (y : Task) (m' : MachineState) → l' ≡ stepped_by m m' → m'.tasks ≡ slice_set m.machine.tasks t y → slice_get l'.machine.tasks t ≡ Some y
  set_task y m' e ts = ap (λ (z : Ledger). slice_get z.machine.tasks t) e ∙ (ap (λ xs. slice_get xs t) ts ∙ got_same m.machine.tasks t S.task y S.at.task)

  held : (m' : MachineState) → l' ≡ stepped_by m m' → (heap_of l' t).worker ≡ Some w
  held m' e = ap (λ (z : Ledger). (heap_of z t).worker) e ∙ E.out

  abbrev idle : is_waiting (slice_get (rested m t).machine.tasks t) ≡ false
  idle = before_last.idle_rested p s l l' t w k E

  abbrev sound : SoundLedger (rested m t)
  sound = before_last.rested_stays_sound p s l l' t w k E

  -- a read or an output
  steps : FitsAt p s q v l → v' ≡ v → (m' : MachineState) → l' ≡ stepped_by m m' → StepsAlone m l' t → StepsTo v l' t h g → FitsAt p s (part_for s t g 0) v' l'
  steps F e m' goes A G =
      subst (λ (z : Memory). FitsAt p s (part_for s t g 0) z l') (sym e)
      (steps_fit p s q v v l l' g w sound (rested_sound l' t E.knows_then.sound) F (held m' goes) (both_rested m l' t A) idle G.0 G.1)

  -- a store of a reference, and of a number
  stores : FitsAt p s q v l → (W : WritesOther m l' t S.task S.line) (o i b : ℕ) (c : Option (ℕ × ℤ)) (L : (j : ℕ) × (place_in (length W.object.refs) (int_in S.task.top i) ≡ Some j) × StoresOne (rested m t) (rested l' t) t S.task W.name W.object o b j c)
      → (C : StoresInto v v' m t h S.task W.object o i b c) → FitsAt p s (part_for s t C.0 0) v' l' × (C.0.begun ≡ h.begun)
  stores F W o i b c L C =
      let same : L.0 ≡ C.1 = same_Some L.0 C.1 (sym L.1 ∙ C.5) in
      let L' : StoresOne (rested m t) (rested l' t) t S.task W.name W.object o b C.1 c = subst (λ j. StoresOne (rested m t) (rested l' t) t S.task W.name W.object o b j c) same L.2 in (
        stores_fit p s q v v' l l' C.0 w S.task W.name W.object o b C.1 c C.2 C.3 C.4 sound F (held _ W.goes) L' C.6 C.7,
        begun_same C.0 (C.6.writes.begun t),
      )
    where
      begun_same : (j : Belongings) → ((with_belongings v' t j).belongings t).begun ≡ ((with_belongings v t h).belongings t).begun → j.begun ≡ h.begun
      begun_same j e = ap (λ (z : Belongings). z.begun) (sym (at_belongings v' t j)) ∙ (e ∙ ap (λ (z : Belongings). z.begun) (at_belongings v t h))

  writes : FitsAt p s q v l → (W : WritesOther m l' t S.task S.line) (instr : Instr) → S.line.instr ≡ instr → (C : Stores v v' m t h S.task W.object instr) → BelongingsAfterStore v v' m t h S.task W.object instr C g → FitsAt p s (part_for s t g 0) v' l' × (g.begun ≡ h.begun)
  writes F W (Putr o i b) is C e =
      let r = stores F W o i b None (is_store p m l' t S.task S.line E.idle S.at W o i b is) C in
      subst (λ (j : Belongings). FitsAt p s (part_for s t j 0) v' l' × (j.begun ≡ h.begun)) (sym e) r
  writes F W (Cas d o i x b) is C e =
      let L = is_swap p m l' t S.task S.line E.idle S.at W d o i x b is in
      let r = stores F W o i b (Some (d, pos 1)) (L.0, L.1, L.3) C in
      subst (λ (j : Belongings). FitsAt p s (part_for s t j 0) v' l' × (j.begun ≡ h.begun)) (sym e) r
  writes F W (Puti o i b) is C e =
      let L = is_number p m l' t S.task S.line E.idle S.at W o i b is in
      let same : C.1 ≡ L.0 = same_Some C.1 L.0 (sym C.5 ∙ L.1) in
      let C' : StoresNumberAt (with_belongings v t h) (with_belongings v' t C.0) t C.2 C.3 C.4 b L.0 = subst (StoresNumberAt (with_belongings v t h) (with_belongings v' t C.0) t C.2 C.3 C.4 b) same C.6 in
      subst (λ (j : Belongings). FitsAt p s (part_for s t j 0) v' l' × (j.begun ≡ h.begun)) (sym e) (
        numbers_fit p s q v v' l l' C.0 w S.task W.name W.object o b L.0 C.2 C.3 C.4 sound F (held _ W.goes) L.2 C' C.7,
        ap (λ (z : Belongings). z.begun) (sym (at_belongings v' t C.0)) ∙ (C.6.writes.begun t ∙ ap (λ (z : Belongings). z.begun) (at_belongings v t h)),
      )
  writes F W (Set d a) is C e = absurd C
  writes F W (Mov d a) is C e = absurd C
  writes F W (Movr d a) is C e = absurd C
  writes F W (NilOf d) is C e = absurd C
  writes F W (Calc op d a b) is C e = absurd C
  writes F W (Same d a b) is C e = absurd C
  writes F W (Jmp to) is C e = absurd C
  writes F W (Jz a to) is C e = absurd C
  writes F W (Newm d a b) is C e = absurd C
  writes F W (Pack d a b) is C e = absurd C
  writes F W (Getr d o i) is C e = absurd C
  writes F W (Geti d o i) is C e = absurd C
  writes F W (Cntr d o) is C e = absurd C
  writes F W (Cnti d o) is C e = absurd C
  writes F W (Freeze o) is C e = absurd C
  writes F W (Call f) is C e = absurd C
  writes F W (Par f i) is C e = absurd C
  writes F W Ret is C e = absurd C
  writes F W (Out a) is C e = absurd C

  -- it had begun none
  own : (j : ℕ) → PartFits p s (part_for s t h j) v l → h.begun ≡ None
  own j F = none_begun_by_ledger (with_belongings v t h) (ahead p (part_for s t h j) l) t h.begun F.begun (rested_view (λ z. z.begun) (λ z. refl) (task_steps p l t j) t ∙ still j)

  runs_now : is_running (Some S.task) ≡ true
  runs_now = ap runs S.at.runs

  fits_by_kind : (kind : LastKind) (K : IsOfKind p m l' t S.task S.line kind) → (GoesOn kind → l'.machine.end ≡ None) → PartFits p s (part_for s t h (taken_by kind k)) v l → (C : EntryMakes p v v' m l' t h S.task S.line kind K) → BelongingsAfter p v v' m l' t h S.task S.line kind K C g → WorkerFits p s (part_for s t g 0) v' l'
  fits_by_kind Private K on F C G =
      let go = steps_go p s t k l E.task E.knows E.collects E.at E.runs E.can S.private in
      let x = private_on p m.machine t S.task go.3 S.at.task K in
      let is : slice_get l'.machine.tasks t ≡ Some x.task =
      ap (λ (z : MachineState). slice_get z.tasks t) (ap (λ (z : Ledger). z.machine) S.after ∙ (task_step_machine p m t ∙ x.is)) ∙ got_same m.machine.tasks t S.task x.task S.at.task in
      let out : (heap_of (task_steps p l t (suc k)) t).worker ≡ Some w = ap (λ (z : Ledger). (heap_of z t).worker) (steps_last p l t k) ∙ (worker_step p s t m K ∙ E.out) in
      let V : FitsAt p s (part_for s t h 0) v l' = subst (FitsAt p s (part_for s t h 0) v) last (ran_fits p s (part_for s t h (suc k)) v l w F.fits out) in
      goes (on tt) x.task is (ap runs (x.status ∙ S.at.runs)) (ap (λ (z : Belongings). z.begun) G ∙ own (suc k) F)
      (subst (λ (z : Memory). FitsAt p s (part_for s t g 0) z l') (sym C) (subst (λ (j : Belongings). FitsAt p s (part_for s t j 0) v l') (sym G) V))
  fits_by_kind Reading K on F C G =
      goes (on tt) (record S.task { top = K.frame }) (set_task (record S.task { top = K.frame }) _ K.goes refl) runs_now (G.2 ∙ own k F) (steps F.fits C _ K.goes K.alone G)
  fits_by_kind Writing K on F C G =
      let r = writes F.fits K S.line.instr refl C G in
      goes (on tt) (record S.task { top = K.frame }) (set_task (record S.task { top = K.frame }) _ K.goes refl) runs_now (r.1 ∙ own k F) r.0
  fits_by_kind Printing K on F C G =
      goes (on tt) (record S.task { top = onward S.task.top }) (set_task (record S.task { top = onward S.task.top }) _ K.goes refl) runs_now (G.2 ∙ own k F) (steps F.fits C _ K.goes K.alone G)
  fits_by_kind Forking K on F C G = absurd G
  fits_by_kind Ending K on F C G = absurd G
  fits_by_kind Joining K on F C G = absurd G
  fits_by_kind Finishing K on F C G = absurd G
  fits_by_kind Halting K on F C G =
      fits (aside l') refl S.task (ap (λ (z : MachineState). slice_get z.tasks t) K.machine ∙ S.at.task) runs_now (ap (λ hs. (or_fresh (slice_get hs t)).begun) K.heaps ∙ still k) (ap (λ (z : Belongings). z.begun) G ∙ own k F)
      (subst (λ (z : Memory). FitsAt p s (part_for s t g 0) z (aside l')) (sym C) (subst (λ (j : Belongings). FitsAt p s (part_for s t j 0) v (aside l')) (sym G) (halt_fits p s v v l l' t w k h E F.fits K)))

pub ran_fits_then : RanFits
ran_fits_then p s v v' l l' t w k h g E Q C G =
    fits_by_kind p s v v' l l' t w k h g E E.splits.kind E.splits.last E.splits.on (part_now p s (part_for s t h (taken_by E.splits.kind k)) v l (alive_machine p s l l' t w k E) Q) C G
