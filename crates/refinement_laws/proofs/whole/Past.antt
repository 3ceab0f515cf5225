-- The whole relation after each accepted entry without steps.
use Rattle.refinement_laws.proofs.Common.{◌≡◌, ◌&&◌, not, ℕ, true, false, Option, Some, None, List, [], ◌∷◌, ◌++◌, slice_get, is_none, is_some, inl, inr, refl, ap, ap₂, sym, subst, ◌∙◌, false≢true, cases_eq, and_parts, and_from, none_of, none_some, Addr, ProgramText, IsProgram, SettingsValue, EntryValue, Took, End as EndOf, Sweep, MachineState, is_running, is_waiting, runs, can_step, goes_on, runs_is, runs_tell, waiting_stops, Heap, Ledger, heap_of, or_fresh, with_heap, collected, swept_heap, let_go, refusal, after, is_ready, is_out, ledger_of, is_legal, is_legal_from, after_all, opening, SoundLedger, tasks_are_out_once, none_unless, entry_tells, wait_tells, legal_sound, accepted_on, heap_of_task, running_at, heap_view, heap_machine, Rests, StepsAlone, WorkerTakes, rested, with_at, heap_then, took_takes, sweep_changes, end_changes, legal_knows, legal_alive, legal_idle, rested_changes, machine_alone, Begun, Belongings, Memory, MemoryStands, AllNoted, MarksOn, NotesStay, OthersNotes, SameBut, SameObjects, KeepsJust, TreeCounts, BegunBy, StandsFor, CountsGo, IsQuiet, IsMarked, root_apart, ran_stands, CopyFits, EndsAt, part_before, with_belongings, released, renewed, swept}
use Rattle.refinement_laws.proofs.notes.AllNotes.{sweeps_note, ends_note, steps_note, quiet_notes}
use Rattle.refinement_laws.proofs.whole.Counts.{counts_stand}
use Rattle.refinement_laws.proofs.parts.QuietEntries.{quiet_by, marked_or}
use Rattle.refinement_laws.proofs.notes.NotesAhead.{notes_ahead, notes_back}
use Rattle.refinement_laws.proofs.whole.Together.{whole_stands, whole_notes, copies_end}

-- ONE MORE ENTRY is legal

pub legal_more : (p : ProgramText) (s : SettingsValue) (e : EntryValue) (journal : List EntryValue) (l : Ledger) → is_legal_from p s l journal ≡ true → is_none (refusal p s (after_all p s l journal) e) ≡ true → is_legal_from p s l (journal ++ e ∷ []) ≡ true
legal_more p s e [] l h r = and_from (is_none (refusal p s l e)) true r refl
legal_more p s e (d ∷ journal) l h r =
    let both = and_parts (is_none (refusal p s l d)) (is_legal_from p s (after p s l d) journal) h in
    and_from (is_none (refusal p s l d)) (is_legal_from p s (after p s l d) (journal ++ e ∷ [])) both.0 (legal_more p s e journal (after p s l d) both.1 r)

pub after_more : (p : ProgramText) (s : SettingsValue) (e : EntryValue) (journal : List EntryValue) (l : Ledger) → after_all p s l (journal ++ e ∷ []) ≡ after p s (after_all p s l journal) e
after_more p s e [] l = refl
after_more p s e (d ∷ journal) l = after_more p s e journal (after p s l d)

-- a task at rest has begun no collection
idle_by : (o k : Option ℕ) → (is_some o ≡ true → is_some k ≡ true) → k ≡ None → o ≡ None
idle_by None k f e = refl
idle_by (Some b) k f e = absurd (false≢true (ap is_some (sym e) ∙ f refl))

pub legal_rests : (p : ProgramText) (s : SettingsValue) (journal : List EntryValue) → is_legal p s journal ≡ true → (t : ℕ) → Rests (ledger_of p s journal) t → (heap_of (ledger_of p s journal) t).begun ≡ None
legal_rests p s journal legal t r = idle_by (heap_of (ledger_of p s journal) t).begun (heap_of (ledger_of p s journal) t).worker ((tasks_are_out_once p s journal legal).collecting t) r

pub none_begun_by_ledger : (v : Memory) (l : Ledger) (t : ℕ) (o : Option Begun) → BegunBy v l t o → (heap_of l t).begun ≡ None → o ≡ None
none_begun_by_ledger v l t None B e = refl
none_begun_by_ledger v l t (Some b) B e = absurd (none_some (sym e ∙ B.few))

marked_heap : (hs : List Heap) (t : ℕ) (o : Option Heap) → slice_get hs t ≡ o → is_some (or_fresh o).marked ≡ true → (h : Heap) × (slice_get hs t ≡ Some h)
marked_heap hs t None e h = absurd (false≢true h)
marked_heap hs t (Some h) e q = (h, e)

takes_alone : (l l' : Ledger) (t w : ℕ) → WorkerTakes l l' t w → StepsAlone l l' t
takes_alone l l' t w L = machine_alone l l' t L.machine L.heaps

module _ (p : ProgramText) (s : SettingsValue) (journal : List EntryValue) (program : IsProgram p) (legal : is_legal p s journal ≡ true) (v v' : Memory) (c c' : TreeCounts) where
  abbrev l : Ledger
  l = ledger_of p s journal

  abbrev S : SoundLedger l
  S = legal_sound p s journal legal

  pub rests_then : (e : EntryValue) → refusal p s l e ≡ None → (t : ℕ) → Rests (after p s l e) t → (heap_of (after p s l e) t).begun ≡ None
  rests_then e accepted = subst (λ (k : Ledger). (t : ℕ) → Rests k t → (heap_of k t).begun ≡ None) (after_more p s e journal (opening p s))
      (legal_rests p s (journal ++ e ∷ []) (legal_more p s e journal (opening p s) legal (ap is_none accepted)))

  -- from its parts
  pub put_together : (e : EntryValue) → refusal p s l e ≡ None → StandsFor v c l → MemoryStands v' (after p s l e) → AllNoted v' (after p s l e) → ((u : ℕ) → Rests (after p s l e) u → Rests l u) → ((u : ℕ) → Rests (after p s l e) u → (v'.belongings u).begun ≡ (v.belongings u).begun) → CountsGo p s l c c' e.worker e.kind → StandsFor v' c' (after p s l e)
  put_together e accepted W V' N' back begun C =
      whole_stands v' c' (after p s l e) V' (counts_stand p s journal program legal c c' W.tree_counts e accepted C) (rests_then e accepted)
      (λ u r. begun u r ∙ none_begun_by_ledger v l u (v.belongings u).begun (W.begun u (back u r)) (legal_rests p s journal legal u (back u r))) N'

  pub took_stands_for : (w t : ℕ) → refusal p s l (record { worker = w; kind = Took t }) ≡ None → StandsFor v c l → SameBut v v' t → ((u : ℕ) → NotesStay v v' u) → CountsGo p s l c c' w (Took t) → StandsFor v' c' (after p s l (record { worker = w; kind = Took t }))
  took_stands_for w t accepted W B N C =
      let r = none_unless (is_ready l t) _ _ (entry_tells p s l (record { worker = w; kind = Took t }) (ap is_none accepted)).2 in
      let run = (and_parts (is_running (slice_get l.machine.tasks t)) _ r.0).0 in
      let g = heap_of_task l t S run in
      let idle = (runs_tell (slice_get l.machine.tasks t) run).3 in
      let l' : Ledger = with_heap l t (λ h. record h { worker = Some w }) in
      let L = took_takes l t w g.0 g.1 in
      let other : (u : ℕ) → Rests l' u → u ≡ t → ⊥ = λ u q e. none_some (sym (subst (Rests l') e q) ∙ L.worker) in
      put_together (record { worker = w; kind = Took t }) accepted W (released v v' l l' t w W.belongings idle L B)
      (steps_note v v' l l' t idle (takes_alone l l' t w L) B.belongings B.owner B.sources (root_apart v l W.belongings t idle) (record { none = (N t).keeps ∙ (W.keeps t ∙ ap (λ b. b && not (heap_of l t).swept) idle); others = λ u ne. N u }) (whole_notes v c l W))
      (λ u q. ap (λ (h : Heap). h.worker) (sym (L.heaps u (other u q))) ∙ q)
      (λ u q. ap (λ (h : Belongings). h.begun) (B.belongings u (other u q))) C

  pub quiet_stands_for : (e : EntryValue) → refusal p s l e ≡ None → IsQuiet e.kind → StandsFor v c l → SameObjects v v' l (after p s l e)
      → ((u : ℕ) → (IsMarked e.kind u → ⊥) → NotesStay v v' u) → ((u : ℕ) → IsMarked e.kind u → MarksOn v v' (after p s l e) u) → CountsGo p s l c c' e.worker e.kind → StandsFor v' c' (after p s l e)
  quiet_stands_for e accepted quiet W B N M C =
      let Q = quiet_by p s l e.worker e.kind quiet in
      put_together e accepted W (renewed v v' l (after p s l e) W.belongings Q.0 B)
      (quiet_notes v v' l (after p s l e) Q.0.machine (λ u r. Q.0.worker u ∙ r) B.frames B.owner B.sources Q.1 Q.0.snapshot B.objects B.chunks (λ k u g. elim (B.taken k u g) [ inl old ↦ inl old | inr new ↦ inr new.0 ])
      (λ u. elim (marked_or p s l e.worker e.kind quiet u) [ inl m ↦ inr (inr (M u m)) | inr m ↦ inl (N u m.0, m.1) ]) (whole_notes v c l W))
      (λ u r. sym (Q.0.worker u) ∙ r) (λ u r. B.begun u (rests_then e accepted u r ∙ sym (legal_rests p s journal legal u (sym (Q.0.worker u) ∙ r)))) C

  -- an existing heap is swept
  swept_heap_at : (t : ℕ) (h : Heap) → slice_get l.heaps t ≡ Some h → (heap_of (with_heap l t swept_heap) t).swept ≡ true
  swept_heap_at t h e = ap (λ o. (or_fresh o).swept) (with_at l t swept_heap ∙ ap (heap_then swept_heap) e)

  pub sweeps_stand_for : (w t given : ℕ) → refusal p s l (record { worker = w; kind = Sweep t given }) ≡ None → StandsFor v c l → KeepsJust v v' l (after p s l (record { worker = w; kind = Sweep t given })) t (heap_of l t).snapshot → OthersNotes v v' t
      → (v'.belongings t).begun ≡ None → CountsGo p s l c c' w (Sweep t given) → StandsFor v' c' (after p s l (record { worker = w; kind = Sweep t given }))
  sweeps_stand_for w t given accepted W B N begun C =
      let e : EntryValue = record { worker = w; kind = Sweep t given } in
      let wait = (wait_tells l t _ (entry_tells p s l e (ap is_none accepted)).2).0 in
      let marked = (none_unless (is_some (heap_of l t).marked) _ _ (wait_tells l t _ (entry_tells p s l e (ap is_none accepted)).2).2).0 in
      let L = sweep_changes l t in
      let l' : Ledger = with_heap l t swept_heap in
      let on : l.end ≡ None = accepted_on p s l e accepted in
      let rests : Rests l t = legal_idle p s journal legal on t (waiting_stops (slice_get l.machine.tasks t) wait) in
      let swept_then : (heap_of l' t).swept ≡ true = swept_heap_at t (marked_heap l.heaps t (slice_get l.heaps t) refl marked).0 (marked_heap l.heaps t (slice_get l.heaps t) refl marked).1 in
      let back : (u : ℕ) → Rests l' u → Rests l u = λ u r. sym (heap_view (λ h. h.worker) l t swept_heap (λ h. refl) u) ∙ r in
      put_together e accepted W (swept v v' l l' t (heap_of l t).snapshot S W.belongings wait rests L B)
      (sweeps_note v v' l l' t W.belongings L swept_then B N (whole_notes v c l W))
      (λ u r. sym (heap_view (λ h. h.worker) l t swept_heap (λ h. refl) u) ∙ r) (λ u r. elim (cases_eq u t) [
        | inl same ↦ ap (λ z. (v'.belongings z).begun) same ∙ (begun ∙ sym (none_begun_by_ledger v l u (v.belongings u).begun (W.begun u (back u r)) (legal_rests p s journal legal u (back u r))))
        | inr ne ↦ ap (λ (h : Belongings). h.begun) (B.others u ne)
      ]) C

  pub ends_stand_for : (w t taken given left : ℕ) (h h' : Belongings) (f : Addr → Addr) → refusal p s l (record { worker = w; kind = EndOf t taken given left }) ≡ None → StandsFor v c l → CopyFits p s t h h' f v l → EndsAt v v' t h' f → h'.begun ≡ None → OthersNotes v v' t
      → CountsGo p s l c c' w (EndOf t taken given left) → StandsFor v' c' (after p s l (record { worker = w; kind = EndOf t taken given left }))
  ends_stand_for w t taken given left h h' f accepted W K E none N C =
      let e : EntryValue = record { worker = w; kind = EndOf t taken given left } in
      let tells = entry_tells p s l e (ap is_none accepted) in
      let r = none_unless (is_out l w t) _ _ tells.2 in
      let run = (and_parts (is_running (slice_get l.machine.tasks t)) _ r.0).0 in
      let g = heap_of_task l t S run in
      let x = running_at l.machine.tasks t (slice_get l.machine.tasks t) refl run in
      let idle = (runs_tell (slice_get l.machine.tasks t) run).3 in
      let L = end_changes l t in
      let l' : Ledger = with_heap l t (collected l.machine) in
      let idle' : is_waiting (slice_get l'.machine.tasks t) ≡ false = ap (λ (m : MachineState). is_waiting (slice_get m.tasks t)) L.machine ∙ idle in
      let rest_idle : is_waiting (slice_get (rested l t).machine.tasks t) ≡ false = ap (λ (m : MachineState). is_waiting (slice_get m.tasks t)) (heap_machine l t let_go) ∙ idle in
      let M = copies_end p s t h h' f v v' l x.0 g.0 S x.1 (runs_is x.0.status x.2) g.1 K E none in
      let can : can_step l.machine t ≡ true = ap₂ goes_on (legal_alive p s journal legal (none_of l.end tells.0)) run in
      let before_notes = notes_ahead p s (part_before s t h) v l x.0 (legal_knows p s journal legal) K.old.fits (record { task = x.1; runs = x.2; can = can; steady = inl refl }) (whole_notes v c l W) in
      put_together e accepted W (ran_stands p s (part_before s t h') v' l' M.1.fits.worker M.1.fits M.1.fits.out idle')
      (notes_back t h' v' l' idle' M.1.fits.stands
      (ends_note (with_belongings v t h) (with_belongings v' t h') (rested l t) (rested l' t) t (heap_of (rested l t) t).survivors f K.old.fits.stands rest_idle (rested_changes l l' t L) M.0
      (record { none = N.none; others = λ u ne. record { keeps = (N.others u ne).keeps; kept = (N.others u ne).kept; marked = (N.others u ne).marked } }) before_notes))
      (λ u q. sym (heap_view (λ z. z.worker) l t (collected l.machine) (λ z. refl) u) ∙ q)
      (λ u q. ap (λ (z : Belongings). z.begun) (E.others u (other u (sym (heap_view (λ z. z.worker) l t (collected l.machine) (λ z. refl) u) ∙ q)))) C
    where
      other : (u : ℕ) → Rests l u → u ≡ t → ⊥
      other u q e = none_some (sym (subst (Rests l) e q) ∙ K.old.fits.out)
