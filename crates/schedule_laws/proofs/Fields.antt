-- Fields persist.
use Rattle.schedule_laws.proofs.Common.{◌≡◌, ℕ, true, false, Some, inl, inr, refl, ap, sym, ◌∙◌, length-set, cases_eq, eqb-true, got_other, Instr, Freeze, ProgramText, Name, Object, MachineState, object_at, owner_of, run, setting, step, NamesAreStoredIn, names_are_stored, Edit, Edits, Freezes, FreezesBy, SetNumber, SetRef, edited, ChangesOnly, FieldsStay, FreezesNext}
use Rattle.schedule_laws.proofs.Accessed.{field_of, written_at}
use Rattle.schedule_laws.proofs.StoreSteps.{GoesBy, object_after}

module _ (p : ProgramText) (m : MachineState) (N : NamesAreStoredIn m) (t : ℕ) (n : Name) (old : Object) where
  freezes : (g : GoesBy p m N t (Edits n Freezes)) → FreezesNext p m t n
  freezes g = freezes_by_cases g.line.instr refl g.by.1
    where
      freezes_by_cases : (i : Instr) → g.line.instr ≡ i → FreezesBy (setting m t g.task) g.task.top m.store i n → FreezesNext p m t n
      freezes_by_cases (Freeze o) e f = (g.task, g.line, o, record { task = g.acting.is; fetched = g.acting.next }, e, f.0, eqb-true (owner_of m.tasks n.task) t f.1)
      freezes_by_cases _ e f = absurd f

  edits : (e : Edit) → GoesBy p m N t (Edits n e) → ChangesOnly p m t n old (edited e old)
  edits (SetRef at v) g = record {
    strand = refl;
    references = length-set old.refs at v;
    numbers = refl;
    refs = λ k. (elim (cases_eq k at) [
      | inr ne ↦ inl (got_other old.refs at k v ne)
      | inl e ↦ (let w = written_at p m N t g.task g.line g.acting false n at g.by.1 in inr (w.0, w.1, w.2 ∙ ap (field_of false n) (sym e), w.3))
    ]);
    ints = λ k. inl refl;
    mutable = inl refl;
  }
  edits (SetNumber at v) g = record {
    strand = refl;
    references = refl;
    numbers = length-set old.ints at v;
    refs = λ k. inl refl;
    ints = λ k. (elim (cases_eq k at) [
      | inr ne ↦ inl (got_other old.ints at k v ne)
      | inl e ↦ (let w = written_at p m N t g.task g.line g.acting true n at g.by.1 in inr (w.0, w.1, w.2 ∙ ap (field_of true n) (sym e), w.3))
    ]);
    mutable = inl refl;
  }
  edits Freezes g = record { strand = refl; references = refl; numbers = refl; refs = λ k. inl refl; ints = λ k. inl refl; mutable = inr (freezes g) }

  pub stays_but : object_at m.store n ≡ Some old → (new : Object) × (object_at (step p m t).store n ≡ Some new) × ChangesOnly p m t n old new
  stays_but is = elim (object_after p m N t n old is) [
    | inl same ↦ (old, same, record { strand = refl; references = refl; numbers = refl; refs = λ k. inl refl; ints = λ k. inl refl; mutable = inl refl })
    | inr more ↦ (edited more.0 old, more.2, edits more.0 more.1)
  ]

pub fields_stay : FieldsStay
fields_stay p limit ts t n old is = stays_but p (run p limit ts) (names_are_stored p limit ts) t n old is
