-- The kind of a last step that works on an object of another task, by the machine after it.
use Rattle.step_commit.proofs.Common.{◌≡◌, ◌⊎◌, ℕ, true, false, Option, Some, None, length, slice_get, inl, inr, ap, sym, subst, ◌∙◌, option_flatten, both_ways, false≢true, same_Some, none_some, Instr, Putr, Puti, Cas, Line, ProgramText, End, Done, Frame, Name, Object, MachineState, Task, int_in, object_at, place_in, ref_in, same_name, ended_by, runs, running_tells, Ledger, let_go, is_private, touched, heap_machine, GoesOn, Halts, IsOfKind, JustReads, LastKind, ReadsOther, WritesOther, ChangesByWrite, Reading, Writing, Printing, Forking, Ending, Joining, Finishing, Halting}
use Rattle.core_invariant.specs.below.ledger_step_laws.{Private}
use Rattle.step_commit.proofs.LastKinds.{joined_not}

-- an instruction that only reads doesn't write
reads_or_writes : {A : Type 0} (x : Task) (i : Instr) (y y' y'' : Object) (f f' : Frame) → JustReads x i y f → ChangesByWrite x i y' y'' f' → y ≡ y' → A
reads_or_writes x (Putr o k v) y y' y'' f f' r w e = absurd r
reads_or_writes x (Puti o k v) y y' y'' f f' r w e = absurd r
reads_or_writes x (Cas d o k v b) y y' y'' f f' r w e =
    let i : r.0 ≡ w.0 = same_Some r.0 w.0 (sym r.1 ∙ (ap (λ (z : Object). place_of z) e ∙ w.1)) in
    absurd (both_ways (same_name (option_flatten (slice_get y.refs r.0)) (ref_in x.top v)) r.3 (ap (λ (z : Object). same_name (option_flatten (slice_get z.refs r.0)) (ref_in x.top v)) e ∙ (ap (λ n. same_name (option_flatten (slice_get y'.refs n)) (ref_in x.top v)) i ∙ w.5)))
  where
    place_of : Object → Option ℕ
    place_of z = place_in (length z.refs) (int_in x.top k)
reads_or_writes x _ y y' y'' f f' r w e = absurd w

module _ (p : ProgramText) (m l' : Ledger) (t : ℕ) (x : Task) (line : Line) (shared : is_private p m.machine t ≡ false) where
  abbrev Last : LastKind → Type 0
  Last kind = IsOfKind p m l' t x line kind

  -- the task and the machine go on after it
  module _ (n : Name) (touches : touched x.top line.instr ≡ Some n) (z : Task) (is : slice_get l'.machine.tasks t ≡ Some z) (run : runs z.status ≡ true) (goes : l'.machine.end ≡ None) where
    works : (of : LastKind) → Last of → ReadsOther m l' t x line ⊎ WritesOther m l' t x line
    works Private private = absurd (both_ways (is_private p m.machine t) shared private)
    works Reading r = inl r
    works Writing r = inr r
    works Printing q = none_some (ap (touched x.top) (sym q.by) ∙ touches)
    works Forking f = none_some (ap (touched x.top) (sym f.by) ∙ touches)
    works Ending e = absurd (false≢true (ap (λ (y : Task). runs y.status) (same_Some _ z (sym e.ends.ended ∙ is)) ∙ run))
    works Joining j = joined_not m l' t x z is (running_tells z.status run).0 j
    works Finishing d = none_some (sym goes ∙ d.ended)
    works Halting h = none_some (sym goes ∙ ap (λ (s : MachineState). s.end) h.machine)

    module _ (y : Object) (at : object_at m.machine.store n ≡ Some y) where
      pub same_object : (W : WritesOther m l' t x line) → y ≡ W.object
      same_object W =
          same_Some y W.object (sym at ∙ (ap (object_at m.machine.store) (same_Some n W.name (sym touches ∙ W.touches)) ∙ (ap (λ (s : MachineState). object_at s.store W.name) (sym (heap_machine m t let_go)) ∙ W.writes.was)))

      -- it reads the object
      pub reading : (f : Frame) → JustReads x line.instr y f → (of : LastKind) → Last of → ReadsOther m l' t x line
      reading f just of last = elim (works of last) [
        | inl R ↦ R
        | inr W ↦ reads_or_writes x line.instr y W.object W.written f W.frame just W.wrote (same_object W)
      ]

      -- it writes the object
      pub writing : ((f : Frame) → JustReads x line.instr y f → ⊥) → (of : LastKind) → Last of → WritesOther m l' t x line
      writing not of last = elim (works of last) [
        | inl R ↦ absurd (not R.frame (subst (λ o. JustReads x line.instr o R.frame) (same_Some R.object y (sym R.is ∙ (ap (object_at m.machine.store) (same_Some R.name n (sym R.touches ∙ touches)) ∙ at))) R.reads))
        | inr W ↦ W
      ]

  -- the run has ended, and not as done
  pub halts_by : (e : End) → (e ≡ Done → ⊥) → l'.machine ≡ ended_by m.machine e → (of : LastKind) → Last of → (GoesOn of → l'.machine.end ≡ None) → Halts m l'
  halts_by e other is Private private on = absurd (both_ways (is_private p m.machine t) shared private)
  halts_by e other is Reading r on = none_some (sym (on tt) ∙ ap (λ (z : MachineState). z.end) is)
  halts_by e other is Writing r on = none_some (sym (on tt) ∙ ap (λ (z : MachineState). z.end) is)
  halts_by e other is Printing q on = none_some (sym (on tt) ∙ ap (λ (z : MachineState). z.end) is)
  halts_by e other is Forking f on = none_some (sym (on tt) ∙ ap (λ (z : MachineState). z.end) is)
  halts_by e other is Ending f on = none_some (sym (on tt) ∙ ap (λ (z : MachineState). z.end) is)
  halts_by e other is Joining j on = none_some (sym (on tt) ∙ ap (λ (z : MachineState). z.end) is)
  halts_by e other is Finishing d on = absurd (other (same_Some e Done (sym (ap (λ (z : MachineState). z.end) is) ∙ d.ended)))
  halts_by e other is Halting h on = h
