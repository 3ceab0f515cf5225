-- A write of another task's object is a store of a reference or of a number.
use Rattle.ledger_step_laws.proofs.Common.{◌≡◌, ℕ, pos, true, Some, None, slice_get, length, inl, inr, ap, sym, subst, ◌∙◌, option_flatten, cases_eq, got_same, Putr, Puti, Cas, Line, ProgramText, Task, MachineState, place_in, int_in, ref_in, same_name, is_waiting, waiting_stops, place_within, Ledger, heap_of, or_fresh, let_go, touched, heap_machine, Rests, rested, WritesOne, StoresOne, StoresNumber, IdleRest, TaskIsAt, ChangesByWrite, WritesOther}
use Rattle.ledger_step_laws.proofs.Ahead.{with_off}
use Rattle.ledger_step_laws.proofs.Rested.{rested_worker}

-- a waiting task rests, also after t is released
pub waits_rest : (l : Ledger) (t : ℕ) → IdleRest l → (u : ℕ) → is_waiting (slice_get (rested l t).machine.tasks u) ≡ true → Rests (rested l t) u
waits_rest l t idle u h = elim (cases_eq u t) [
  | inl e ↦ ap (λ k. (heap_of (rested l t) k).worker) e ∙ rested_worker l t
  | inr ne ↦ ap (λ o. (or_fresh o).worker) (with_off l t u let_go ne) ∙ idle u (waiting_stops (slice_get l.machine.tasks u) (ap (λ (m : MachineState). is_waiting (slice_get m.tasks u)) (sym (heap_machine l t let_go)) ∙ h))
]

module _ (p : ProgramText) (l l' : Ledger) (t : ℕ) (x : Task) (line : Line) (idle : IdleRest l) (I : TaskIsAt p l t x line) (W : WritesOther l l' t x line) where
  at_rested : slice_get (rested l t).machine.tasks t ≡ Some x
  at_rested = ap (λ (m : MachineState). slice_get m.tasks t) (heap_machine l t let_go) ∙ I.task

  goes : slice_get (rested l' t).machine.tasks t ≡ Some (record x { top = W.frame })
  goes = ap (λ (m : MachineState). slice_get m.tasks t) (heap_machine l' t let_go) ∙ (ap (λ (k : Ledger). slice_get k.machine.tasks t) W.goes ∙ got_same l.machine.tasks t x (record x { top = W.frame }) I.task)

  pub is_store : (o k v : ℕ) → line.instr ≡ Putr o k v → (i : ℕ) × (place_in (length W.object.refs) (int_in x.top k) ≡ Some i) × StoresOne (rested l t) (rested l' t) t x W.name W.object o v i None
  is_store o k v e =
      let how : ChangesByWrite x (Putr o k v) W.object W.written W.frame = subst (λ j. ChangesByWrite x j W.object W.written W.frame) e W.wrote in (
        how.0,
        how.1,
        record {
          task = at_rested;
          runs = I.runs;
          object = ap (touched x.top) (sym e) ∙ W.touches;
          field = place_within (length W.object.refs) (int_in x.top k) how.0 how.1;
          mutable = how.2;
          goes = goes ∙ ap (λ f. Some (record x { top = f })) how.4;
          writes = subst (WritesOne (rested l t) (rested l' t) t W.name W.object) how.3 W.writes;
          waits = waits_rest l t idle;
        },
      )

  pub is_swap : (d o k e v : ℕ) → line.instr ≡ Cas d o k e v
      → (i : ℕ) × (place_in (length W.object.refs) (int_in x.top k) ≡ Some i) × (same_name (option_flatten (slice_get W.object.refs i)) (ref_in x.top e) ≡ true) × StoresOne (rested l t) (rested l' t) t x W.name W.object o v i (Some (d, pos 1))
  is_swap d o k e v is =
      let how : ChangesByWrite x (Cas d o k e v) W.object W.written W.frame = subst (λ j. ChangesByWrite x j W.object W.written W.frame) is W.wrote in (
        how.0,
        how.1,
        how.5,
        record {
          task = at_rested;
          runs = I.runs;
          object = ap (touched x.top) (sym is) ∙ W.touches;
          field = place_within (length W.object.refs) (int_in x.top k) how.0 how.1;
          mutable = how.2;
          goes = goes ∙ ap (λ f. Some (record x { top = f })) how.4;
          writes = subst (WritesOne (rested l t) (rested l' t) t W.name W.object) how.3 W.writes;
          waits = waits_rest l t idle;
        },
      )

  pub is_number : (o k v : ℕ) → line.instr ≡ Puti o k v → (i : ℕ) × (place_in (length W.object.ints) (int_in x.top k) ≡ Some i) × StoresNumber (rested l t) (rested l' t) t x W.name W.object o v i
  is_number o k v e =
      let how : ChangesByWrite x (Puti o k v) W.object W.written W.frame = subst (λ j. ChangesByWrite x j W.object W.written W.frame) e W.wrote in (
        how.0,
        how.1,
        record {
          task = at_rested;
          runs = I.runs;
          object = ap (touched x.top) (sym e) ∙ W.touches;
          mutable = how.2;
          goes = goes ∙ ap (λ f. Some (record x { top = f })) how.4;
          writes = subst (WritesOne (rested l t) (rested l' t) t W.name W.object) how.3 W.writes;
          waits = waits_rest l t idle;
        },
      )
