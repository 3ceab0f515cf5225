-- No worker holds a task that doesn't run, whether or not the run has ended: after it is done the root is returned, and
-- no task runs.
use Rattle.heap_reading.proofs.Common.{◌≡◌, ◌⊎◌, ℕ, zero, suc, ◌+◌, Bool, true, false, cond, Option, Some, None, is_none, List, [], ◌∷◌, ◌++◌, ◌&&◌, nat_lt, slice_get, inl, inr, refl, ap, sym, subst, ◌∙◌, cases_eq, IsProgram, ProgramText, End, Done, MachineState, asked, can_step, is_running, step, goes_tells, Kind, Took, Ran, Chunk, Begin, PutOff, Mark, More, Sweep, Fuel, EntryValue, SettingsValue, Ledger, Refused, RunEnd, Machine, Pool, in_use, let_go, or_fresh, with_heap, allocated_in, settled, stepped_to, task_step, task_steps, after, chunk_units, refusal, with_chunk, is_legal, ledger_of, accepted_on, journals_can_be_cut, legal_then, stepped_machine, heap_machine, allocated_end, heap_end, moved_to_end, Rests, rested, LastStepEndsRun, GoesOn, Halts, IdleRest, IsOfKind, LastKind, Private, Reading, Writing, Printing, Forking, Ending, Joining, Finishing, Halting, RunsPrivateSteps, entry_runs, legal_idle, handed, done_returns_all, others_idle, handed_halt, handed_on, accounts_then}
use Rattle.core_invariant.specs.below.run_trace.{End as EndOf}

-- WHILE THE MACHINE GOES ON SO DOES THE RUN, over steps of a task
abbrev Goes : Ledger → Type 0
Goes l = l.machine.end ≡ None → l.end ≡ None

settled_end : (l : Ledger) (t : ℕ) (o : Option End) → o ≡ None → (settled l t o).end ≡ l.end
settled_end l t None e = moved_to_end l t (slice_get l.machine.tasks t)
settled_end l t (Some x) e = absurd cc

step_goes : (p : ProgramText) (l : Ledger) (t : ℕ) → Goes l → Goes (task_step p l t)
step_goes p l t g = step_goes_by_cases (can_step l.machine t) refl
  where
    step_goes_by_cases : (c : Bool) → can_step l.machine t ≡ c → Goes (cond c (stepped_to (allocated_in p l t) t (step p l.machine t)) (record l { steps = l.steps + 1 }))
    step_goes_by_cases false e = g
    step_goes_by_cases true e = λ h.
        settled_end (record (allocated_in p l t) { machine = step p l.machine t; steps = (allocated_in p l t).steps + 1 }) t (step p l.machine t).end (sym (ap (λ (z : MachineState). z.end) (stepped_machine (allocated_in p l t) t (step p l.machine t))) ∙ h)
        ∙ (allocated_end l t (asked p l.machine t) ∙ g (goes_tells l.machine.end (is_running (slice_get l.machine.tasks t)) e))

steps_go : (p : ProgramText) (k : ℕ) (l : Ledger) (t : ℕ) → Goes l → Goes (task_steps p l t k)
steps_go p zero l t g = g
steps_go p (suc k) l t g = steps_go p k (task_step p l t) t (step_goes p l t g)

-- AFTER ONE ENTRY
abbrev pub IdleHanded : Ledger → Type 0
IdleHanded l = (u : ℕ) → is_running (slice_get l.machine.tasks u) ≡ false → Rests (handed l) u

abbrev pub DoneIdles : Ledger → Type 0
DoneIdles l = l.end ≡ Some (Machine Done) → (u : ℕ) → is_running (slice_get l.machine.tasks u) ≡ false

record Idles (l : Ledger) : Type 0 where
  handed_back : IdleHanded l
  done : DoneIdles l

not_ended : {A : Type 0} {e : RunEnd} (o : Option RunEnd) → o ≡ None → o ≡ Some e → A
not_ended o n e = not_ended_by_cases (sym n ∙ e)
  where
    not_ended_by_cases : {A : Type 0} {e : RunEnd} → ◌≡◌ {A = Option RunEnd} None (Some e) → A
    not_ended_by_cases q = absurd cc

module _ (p : ProgramText) (s : SettingsValue) (before : List EntryValue) (I : IsProgram p) (legal : is_legal p s before ≡ true) where
  abbrev l : Ledger
  l = ledger_of p s before

  module _ (on : l.end ≡ None) where
    module _ (e : EntryValue) (free : refusal p s l e ≡ None) where
      ledger_with_entry : ledger_of p s (before ++ e ∷ []) ≡ after p s l e
      ledger_with_entry = accounts_then p s before e

      -- the run goes on
      going : (after p s l e).end ≡ None → Idles (after p s l e)
      going n = record {
        handed_back = λ u h. subst (λ (z : Ledger). Rests z u) (sym (handed_on (after p s l e) n))
            (subst IdleRest ledger_with_entry (legal_idle p s (before ++ e ∷ []) (legal_then p s before e legal free) (ap (λ (z : Ledger). z.end) ledger_with_entry ∙ n)) u h);
        done = λ q. not_ended (after p s l e).end n q;
      }

    chunk_idle : (w t : ℕ) → refusal p s l (record { worker = w; kind = Chunk t }) ≡ None → (full : Bool) → nat_lt s.chunks (in_use l + chunk_units (asked p l.machine t)) ≡ full → Idles (after p s l (record { worker = w; kind = Chunk t }))
    chunk_idle w t free true e =
        subst Idles (sym (ap (λ b. cond b (record l { end = Some (Pool (in_use l)) }) (with_heap l t (with_chunk (asked p l.machine t)))) e)) (record { handed_back = λ u h. legal_idle p s before legal on u h; done = λ q. absurd cc })
    chunk_idle w t free false e =
        going (record { worker = w; kind = Chunk t }) free (ap (λ b. (cond b (record l { end = Some (Pool (in_use l)) }) (with_heap l t (with_chunk (asked p l.machine t)))).end) e ∙ (heap_end l t (with_chunk (asked p l.machine t)) ∙ on))

    -- a run of steps
    module _ (w t k : ℕ) (free : refusal p s l (record { worker = w; kind = Ran t (suc k) }) ≡ None) where
      abbrev l' : Ledger
      l' = task_steps p l t (suc k)

      E : RunsPrivateSteps p s l l' t w k
      E = entry_runs p s before w t k I legal free

      abbrev m : Ledger
      m = task_steps p l t k

      more : l'.machine.end ≡ None → Idles l'
      more n = going (record { worker = w; kind = Ran t (suc k) }) free (steps_go p (suc k) l t (λ x. on) n)

      halted : Halts m l' → Idles l'
      halted H = record {
        handed_back = λ u h. subst (λ (z : Ledger). Rests z u) (sym (handed_halt m l' H)) (ap (λ hs. (or_fresh (slice_get hs u)).worker) H.heaps ∙ E.idle u (ap (λ (z : MachineState). is_running (slice_get z.tasks u)) (sym H.machine) ∙ h));
        done = λ q. absurd (H.other (same_end H.end (sym H.is ∙ q)));
      }
        where
          same_end : (e : End) → Some (Machine e) ≡ Some (Machine Done) → e ≡ Done
          same_end e q = cc

      ended : LastStepEndsRun m l' t E.splits.task → (u : ℕ) → is_running (slice_get l'.machine.tasks u) ≡ false
      ended D u =
          ap (λ (z : MachineState). is_running (slice_get z.tasks u)) (sym (heap_machine l' t let_go)) ∙ elim (cases_eq u t) [
            | inl e ↦ ap (λ z. is_running (slice_get (rested l' t).machine.tasks z)) e ∙ ap is_running D.ends.ended
            | inr ne ↦ ap is_running (D.ends.alone.tasks u ne) ∙ (ap (λ (z : MachineState). is_running (slice_get z.tasks u)) (heap_machine m t let_go) ∙ others_idle p s l l' t w k E D.ended D u ne)
          ]

      ran_by : (kind : LastKind) → IsOfKind p m l' t E.splits.task E.splits.line kind → (GoesOn kind → l'.machine.end ≡ None) → Idles l'
      ran_by Private K go = more (go tt)
      ran_by Reading K go = more (go tt)
      ran_by Writing K go = more (go tt)
      ran_by Printing K go = more (go tt)
      ran_by Forking K go = more (go tt)
      ran_by Ending K go = more (go tt)
      ran_by Joining K go = more (go tt)
      ran_by Finishing K go = record { handed_back = λ u h. done_returns_all p s l l' t w k E K.ended u; done = λ q u. ended K u }
      ran_by Halting K go = halted K

    entry_idle : (w : ℕ) (kind : Kind) → refusal p s l (record { worker = w; kind = kind }) ≡ None → Idles (after p s l (record { worker = w; kind = kind }))
    entry_idle w (Took t) free = going (record { worker = w; kind = Took t }) free (heap_end l t _ ∙ on)
    entry_idle w (Ran t zero) free = going (record { worker = w; kind = Ran t zero }) free on
    entry_idle w (Ran t (suc k)) free = let R = E w t k free in ran_by w t k free R.splits.kind R.splits.last R.splits.on
    entry_idle w (Chunk t) free = chunk_idle w t free (nat_lt s.chunks (in_use l + chunk_units (asked p l.machine t))) refl
    entry_idle w (Begin t) free = going (record { worker = w; kind = Begin t }) free (heap_end l t _ ∙ on)
    entry_idle w (EndOf t x y z) free = going (record { worker = w; kind = EndOf t x y z }) free (heap_end l t _ ∙ on)
    entry_idle w (PutOff t) free = going (record { worker = w; kind = PutOff t }) free (heap_end l t _ ∙ on)
    entry_idle w (Mark t) free = going (record { worker = w; kind = Mark t }) free (heap_end l t _ ∙ on)
    entry_idle w (More t n) free = going (record { worker = w; kind = More t n }) free (heap_end l t _ ∙ on)
    entry_idle w (Sweep t n) free = going (record { worker = w; kind = Sweep t n }) free (heap_end l t _ ∙ on)
    entry_idle w Fuel free = record { handed_back = λ u h. legal_idle p s before legal on u h; done = λ q. absurd cc }

-- OF A JOURNAL: it is empty, or has a last entry
last_of : {A : Type 0} (xs : List A) → (xs ≡ []) ⊎ ((ys : List A) × (y : A) × (xs ≡ ys ++ y ∷ []))
last_of [] = inl refl
last_of (x ∷ xs) = elim (last_of xs) [
  | inl e ↦ inr ([], x, ap (λ z. x ∷ z) e)
  | inr r ↦ inr (x ∷ r.0, r.1, ap (λ z. x ∷ z) r.2)
]

journal_idles : (p : ProgramText) (s : SettingsValue) (journal : List EntryValue) → IsProgram p → is_legal p s journal ≡ true → Idles (ledger_of p s journal)
journal_idles p s journal I legal = elim (last_of journal) [
  | inl e ↦ subst (λ j. Idles (ledger_of p s j)) (sym e) (record { handed_back = λ u h. legal_idle p s [] refl refl u h; done = λ q. absurd cc })
  | inr r ↦ subst (λ j. Idles (ledger_of p s j)) (sym r.2) (journal_idles_by_cases r.0 r.1 (subst (λ j. is_legal p s j ≡ true) r.2 legal))
]
  where
    journal_idles_by_cases : (before : List EntryValue) (e : EntryValue) → is_legal p s (before ++ e ∷ []) ≡ true → Idles (ledger_of p s (before ++ e ∷ []))
    journal_idles_by_cases before e h =
        let cut = (journals_can_be_cut p s before (e ∷ [])).legal.0 h in
        let free : refusal p s (ledger_of p s before) e ≡ None = first (refusal p s (ledger_of p s before) e) cut.1 in
        let on : (ledger_of p s before).end ≡ None = accepted_on p s (ledger_of p s before) e free in
        subst Idles (sym (accounts_then p s before e)) (entry_idle p s before I cut.0 on e.worker e.kind free)
      where
        first : (o : Option Refused) → (is_none o && true) ≡ true → o ≡ None
        first None q = refl
        first (Some c) q = absurd cc

pub journal_idle : (p : ProgramText) (s : SettingsValue) (journal : List EntryValue) → IsProgram p → is_legal p s journal ≡ true → IdleHanded (ledger_of p s journal)
journal_idle p s journal I legal = (journal_idles p s journal I legal).handed_back

pub done_idles : (p : ProgramText) (s : SettingsValue) (journal : List EntryValue) → IsProgram p → is_legal p s journal ≡ true → DoneIdles (ledger_of p s journal)
done_idles p s journal I legal = (journal_idles p s journal I legal).done
