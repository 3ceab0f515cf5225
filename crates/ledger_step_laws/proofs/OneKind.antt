-- A last step is of one kind only: the task that it leaves, the end, and the instruction determine it.
use Rattle.ledger_step_laws.proofs.Common.{◌≡◌, ℕ, ℤ, Bool, true, false, cond, Option, Some, None, slice_get, slice_set, length, inl, inr, refl, ap, ap₂, sym, ◌∙◌, option_flatten, got_same, Instr, Set, Mov, Movr, Nil as NilOf, Calc, Same, Jmp, Jz, Newm, Pack, Getr, Geti, Putr, Puti, Cntr, Cnti, Freeze, Cas, Call, Par, Ret, Out, Line, ProgramText, Name, Object, Frame, TaskStatus, Running, Waiting, Ended, Joined, Task, End, MachineState, object_at, place_in, int_in, ref_in, same_name, onward, is_joined, is_over, Ledger, let_go, is_private, touched, heap_machine, LastKind, Private, Reading, Writing, Printing, Forking, Ending, Joining, Finishing, Halting, IsOfKind, KindTellsPrivate, TaskIsAt, JustReads, ChangesByWrite}

-- WHAT A COMPARE AND SWAP FINDS

abbrev object_of : Ledger → Option Name → Option Object
object_of l None = None
object_of l (Some n) = object_at l.machine.store n

abbrev matched_at : Object → Option ℕ → Option Name → Bool
matched_at y None e = false
matched_at y (Some i) e = same_name (option_flatten (slice_get y.refs i)) e

abbrev matched : Option Object → ℤ → Option Name → Bool
matched None k e = false
matched (Some y) k e = matched_at y (place_in (length y.refs) k) e

-- WHICH KIND

abbrev by_line : Ledger → Task → Instr → LastKind
by_line l x (Out a) = Printing
by_line l x (Putr o k v) = Writing
by_line l x (Puti o k v) = Writing
by_line l x (Cas d o k e v) = cond (matched (object_of l (ref_in x.top o)) (int_in x.top k) (ref_in x.top e)) Writing Reading
by_line l x _ = Reading

abbrev by_end : Option End → LastKind → LastKind
by_end None kind = kind
by_end (Some e) kind = Halting

abbrev by_parent : Option ℕ → LastKind
by_parent None = Finishing
by_parent (Some p) = Ending

abbrev by_status : TaskStatus → Option ℕ → LastKind → LastKind
by_status Running p kind = kind
by_status Waiting p kind = Forking
by_status (Ended k r) p kind = by_parent p
by_status Joined p kind = Joining

abbrev by_task : Option Task → Option ℕ → LastKind → LastKind
by_task None p kind = kind
by_task (Some y) p kind = by_status y.status p kind

module _ (p : ProgramText) (l l' : Ledger) (t : ℕ) (x : Task) (line : Line) (I : TaskIsAt p l t x line) (on : l.machine.end ≡ None) where
  abbrev told : LastKind
  told = cond (is_private p l.machine t) Private (by_task (slice_get l'.machine.tasks t) x.parent (by_end l'.machine.end (by_line l x line.instr)))

  -- it isn't private; the task that it leaves and the end determine it
  by_all : is_private p l.machine t ≡ false → (o : Option Task) → slice_get l'.machine.tasks t ≡ o → (e : Option End) → l'.machine.end ≡ e → told ≡ by_task o x.parent (by_end e (by_line l x line.instr))
  by_all apart o is e end = ap (λ b. cond b Private (by_task (slice_get l'.machine.tasks t) x.parent (by_end l'.machine.end (by_line l x line.instr)))) apart ∙ ap₂ (λ y z. by_task y x.parent (by_end z (by_line l x line.instr))) is end

  -- the task runs on; the line determines it
  by_on : is_private p l.machine t ≡ false → (y : Task) → y.status ≡ x.status → slice_get l'.machine.tasks t ≡ Some y → l'.machine.end ≡ None → told ≡ by_line l x line.instr
  by_on apart y same is end = by_all apart (Some y) is None end ∙ ap (λ s. by_status s x.parent (by_line l x line.instr)) (same ∙ I.runs)

  by_joined : is_private p l.machine t ≡ false → is_joined (slice_get l'.machine.tasks t) ≡ true → told ≡ Joining
  by_joined apart h = by_all apart (slice_get l'.machine.tasks t) refl l'.machine.end refl ∙ by_joined_by_cases (slice_get l'.machine.tasks t) h
    where
      by_over : (s : TaskStatus) → is_over s ≡ true → by_status s x.parent (by_end l'.machine.end (by_line l x line.instr)) ≡ Joining
      by_over Running h = absurd cc
      by_over Waiting h = absurd cc
      by_over (Ended k r) h = absurd cc
      by_over Joined h = refl

      by_joined_by_cases : (o : Option Task) → is_joined o ≡ true → by_task o x.parent (by_end l'.machine.end (by_line l x line.instr)) ≡ Joining
      by_joined_by_cases None h = absurd cc
      by_joined_by_cases (Some y) h = by_over y.status h

  swap_is : (b : Bool) (n : Name) (y : Object) (o k e : ℕ) (i : ℕ) → ref_in x.top o ≡ Some n → object_at l.machine.store n ≡ Some y → place_in (length y.refs) (int_in x.top k) ≡ Some i → same_name (option_flatten (slice_get y.refs i)) (ref_in x.top e) ≡ b
      → matched (object_of l (ref_in x.top o)) (int_in x.top k) (ref_in x.top e) ≡ b
  swap_is b n y o k e i r is found same =
      ap (λ q. matched (object_of l q) (int_in x.top k) (ref_in x.top e)) r ∙ (ap (λ q. matched q (int_in x.top k) (ref_in x.top e)) is ∙ (ap (λ q. matched_at y q (ref_in x.top e)) found ∙ same))

  reads_by : (instr : Instr) (n : Name) (y : Object) (f : Frame) → touched x.top instr ≡ Some n → object_at l.machine.store n ≡ Some y → JustReads x instr y f → by_line l x instr ≡ Reading
  reads_by (Getr d o k) n y f r is J = refl
  reads_by (Geti d o k) n y f r is J = refl
  reads_by (Cntr d o) n y f r is J = refl
  reads_by (Cnti d o) n y f r is J = refl
  reads_by (Cas d o k e v) n y f r is J = ap (λ b. cond b Writing Reading) (swap_is false n y o k e J.0 r is J.1 J.3)
  reads_by (Set d a) n y f r is J = absurd J
  reads_by (Mov d a) n y f r is J = absurd J
  reads_by (Movr d a) n y f r is J = absurd J
  reads_by (NilOf d) n y f r is J = absurd J
  reads_by (Calc op d a b) n y f r is J = absurd J
  reads_by (Same d a b) n y f r is J = absurd J
  reads_by (Jmp to) n y f r is J = absurd J
  reads_by (Jz a to) n y f r is J = absurd J
  reads_by (Newm d a b) n y f r is J = absurd J
  reads_by (Pack d a b) n y f r is J = absurd J
  reads_by (Putr o k v) n y f r is J = absurd J
  reads_by (Puti o k v) n y f r is J = absurd J
  reads_by (Freeze o) n y f r is J = absurd J
  reads_by (Call g) n y f r is J = absurd J
  reads_by (Par g h) n y f r is J = absurd J
  reads_by Ret n y f r is J = absurd J
  reads_by (Out a) n y f r is J = absurd J

  writes_by : (instr : Instr) (n : Name) (y y' : Object) (f : Frame) → touched x.top instr ≡ Some n → object_at l.machine.store n ≡ Some y → ChangesByWrite x instr y y' f → by_line l x instr ≡ Writing
  writes_by (Putr o k v) n y y' f r is W = refl
  writes_by (Puti o k v) n y y' f r is W = refl
  writes_by (Cas d o k e v) n y y' f r is W = ap (λ b. cond b Writing Reading) (swap_is true n y o k e W.0 r is W.1 W.5)
  writes_by (Set d a) n y y' f r is W = absurd W
  writes_by (Mov d a) n y y' f r is W = absurd W
  writes_by (Movr d a) n y y' f r is W = absurd W
  writes_by (NilOf d) n y y' f r is W = absurd W
  writes_by (Calc op d a b) n y y' f r is W = absurd W
  writes_by (Same d a b) n y y' f r is W = absurd W
  writes_by (Jmp to) n y y' f r is W = absurd W
  writes_by (Jz a to) n y y' f r is W = absurd W
  writes_by (Newm d a b) n y y' f r is W = absurd W
  writes_by (Pack d a b) n y y' f r is W = absurd W
  writes_by (Getr d o k) n y y' f r is W = absurd W
  writes_by (Geti d o k) n y y' f r is W = absurd W
  writes_by (Cntr d o) n y y' f r is W = absurd W
  writes_by (Cnti d o) n y y' f r is W = absurd W
  writes_by (Freeze o) n y y' f r is W = absurd W
  writes_by (Call g) n y y' f r is W = absurd W
  writes_by (Par g h) n y y' f r is W = absurd W
  writes_by Ret n y y' f r is W = absurd W
  writes_by (Out a) n y y' f r is W = absurd W

  -- the machine after it, if that is known
  set_task : (y : Task) (m' : MachineState) → l'.machine ≡ m' → m'.tasks ≡ slice_set l.machine.tasks t y → slice_get l'.machine.tasks t ≡ Some y
  set_task y m' e ts = ap (λ (m : MachineState). slice_get m.tasks t) e ∙ (ap (λ xs. slice_get xs t) ts ∙ got_same l.machine.tasks t x y I.task)

  kind_is : (kind : LastKind) → IsOfKind p l l' t x line kind → KindTellsPrivate p l t kind → told ≡ kind
  kind_is Private K a = ap (λ b. cond b Private (by_task (slice_get l'.machine.tasks t) x.parent (by_end l'.machine.end (by_line l x line.instr)))) K
  kind_is Reading K a =
      let e = ap (λ (z : Ledger). z.machine) K.goes in
      by_on a (record x { top = K.frame }) refl (set_task (record x { top = K.frame }) _ e refl) (ap (λ (m : MachineState). m.end) e ∙ on) ∙ reads_by line.instr K.name K.object K.frame K.touches K.is K.reads
  kind_is Writing K a =
      let e = ap (λ (z : Ledger). z.machine) K.goes in
      let was : object_at l.machine.store K.name ≡ Some K.object = ap (λ (m : MachineState). object_at m.store K.name) (sym (heap_machine l t let_go)) ∙ K.writes.was in
      by_on a (record x { top = K.frame }) refl (set_task (record x { top = K.frame }) _ e refl) (ap (λ (m : MachineState). m.end) e ∙ on) ∙ writes_by line.instr K.name K.object K.written K.frame K.touches was K.wrote
  kind_is Printing K a =
      let e = ap (λ (z : Ledger). z.machine) K.goes in
      by_on a (record x { top = onward x.top }) refl (set_task (record x { top = onward x.top }) _ e refl) (ap (λ (m : MachineState). m.end) e ∙ on) ∙ ap (by_line l x) K.by
  kind_is Forking K a = by_all a _ K.forks.waits l'.machine.end refl
  kind_is Ending K a = by_all a _ K.ends.ended l'.machine.end refl ∙ ap by_parent K.is
  kind_is Joining K a = by_joined a (elim K.results [
    | inl r ↦ ap (λ u. is_joined (slice_get l'.machine.tasks u)) r.0 ∙ K.joins.left
    | inr r ↦ ap (λ u. is_joined (slice_get l'.machine.tasks u)) r.0 ∙ K.joins.right
  ])
  kind_is Finishing K a = by_all a _ (ap (λ (m : MachineState). slice_get m.tasks t) (sym (heap_machine l' t let_go)) ∙ K.ends.ended) l'.machine.end refl ∙ ap by_parent K.root
  kind_is Halting K a =
      by_all a (Some x) (ap (λ (m : MachineState). slice_get m.tasks t) K.machine ∙ I.task) (Some K.end) (ap (λ (m : MachineState). m.end) K.machine) ∙ ap (λ s. by_status s x.parent Halting) I.runs
