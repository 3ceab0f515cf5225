-- The last step of an entry of steps is of one of the kinds.
use Rattle.ledger_step_laws.proofs.Common.{◌≡◌, ℕ, ℤ, pos, ◌+◌, ◌-◌, ◌==◌, ◌&&◌, ◌||◌, not, Bool, true, false, cond, Option, Some, None, List, [], ◌∷◌, ◌++◌, length, length-set, slice_get, slice_set, ◌⊎◌, inl, inr, refl, ap, sym, subst, ◌∙◌, is_none, is_some, nat_lt, replicate, option_flatten, false≢true, both_ways, eqb-true, eq-eqb, none-some, got_same, Instr, Set, Mov, Movr, Nil as NilOf, Calc, Same, Jmp, Jz, Newm, Pack, Getr, Geti, Putr, Puti, Cntr, Cnti, Freeze, Cas, Call, Par, Ret, Out, Line, ProgramText, Name, Object, Frame, Waiting, Task, Trap, Range, Frozen, Size, Depth, End, Trapped, Entangled, Done, MachineState, words_asked, words_for, with_int, Effect, Goes, Prints, Calls, Forks, Returns, Traps, Stops, StepContext, effect, made, row_of, object_at, put_object, counts_in, int_in, ref_in, or_trap, with_object, read_effect, place_in, same_name, onward, precedes, entry_frame, setting, step, follow, returned_to, last_return, child_ended_by, or_same, last_of, ended_by, with_task, can_step, depth_limit, frame_limit, owner_of, is_left, sibling, result_at, result_of, ended_task, join_of, child, strand, strand_of, edge, can_going, step_taken, Ledger, Machine, heap_of, or_fresh, let_go, task_step, touched, is_open, owns, works_alone, is_read, is_frozen_above, is_private, is_private_by, is_private_line, task_step_machine, heap_machine, own, rested, StepsAlone, WritesOne, LedgerIsKnown, EndsTask, LastKind, Private, Reading, Writing, Printing, Forking, Ending, Joining, Finishing, Halting, IsOfKind, GoesOn, KindTellsPrivate, IdleRest, OnlyAskersReserve, TaskIsAt, JustReads, ChangesByWrite, stepped_by, LastStepEndsRun, Halts}
use Rattle.hh_model.specs.declared.data.Trap.TheVariants.{Nil}
use Rattle.ledger_step_laws.proofs.Ahead.{private_end}
use Rattle.ledger_step_laws.proofs.LastStepForkJoin.{alone_by, writes_by, tells, then_, goes_then, step_is, fork_case, ret_case}
use Rattle.ledger_step_laws.proofs.Rested.{rest_heaps}

module _ (p : ProgramText) (l : Ledger) (t : ℕ) (x : Task) (line : Line) (K : LedgerIsKnown l) (idle : IdleRest l) (spare : OnlyAskersReserve p l) (can : can_step l.machine t ≡ true) (I : TaskIsAt p l t x line) where
  abbrev m : MachineState
  m = l.machine

  abbrev s : StepContext
  s = setting m t x

  abbrev k : Ledger
  k = task_step p l t

  abbrev LastStepCases : Type 0
  LastStepCases = (kind : LastKind) × IsOfKind p l k t x line kind

  going : m.end ≡ None
  going = can_going m t can

  taken : step p m t ≡ follow m t x line.number (effect s x.top m.store line.instr)
  taken = step_taken p m t x line can I.task I.next

  abbrev Good : Effect → Type 0
  Good e = effect s x.top m.store line.instr ≡ e → is_none (follow m t x line.number e).end ≡ true → LastStepCases

  -- THE RUN ENDS

  none_asked : (instr : Instr) → is_some (follow m t x line.number (effect s x.top m.store instr)).end ≡ true → words_asked m.field_limit x.top instr ≡ None
  none_asked (Newm d a b) h = none_asked_by_cases (counts_in m.field_limit (int_in x.top a) (int_in x.top b)) h
    where
      none_asked_by_cases : (o : Option (ℕ × ℕ)) → is_some (follow m t x line.number (or_trap Size o (λ n. made s x.top m.store d (record { strand = s.strand; mutable = true; refs = replicate n.0 None; ints = replicate n.1 (pos 0) })))).end ≡ true → words_for o ≡ None
      none_asked_by_cases None h = refl
      none_asked_by_cases (Some n) h = absurd (false≢true (ap is_some (sym going) ∙ h))
  none_asked (Pack d r i) h = absurd (false≢true (ap is_some (sym going) ∙ h))
  none_asked (Set d a) h = refl
  none_asked (Mov d a) h = refl
  none_asked (Movr d a) h = refl
  none_asked (NilOf d) h = refl
  none_asked (Calc op d a b) h = refl
  none_asked (Same d a b) h = refl
  none_asked (Jmp to) h = refl
  none_asked (Jz a to) h = refl
  none_asked (Getr d o i) h = refl
  none_asked (Geti d o i) h = refl
  none_asked (Putr o i v) h = refl
  none_asked (Puti o i v) h = refl
  none_asked (Cntr d o) h = refl
  none_asked (Cnti d o) h = refl
  none_asked (Freeze o) h = refl
  none_asked (Cas d o i e v) h = refl
  none_asked (Call g) h = refl
  none_asked (Par g h') h = refl
  none_asked Ret h = refl
  none_asked (Out a) h = refl

  abbrev Ends : Type 0
  Ends = LastStepEndsRun l k t x ⊎ Halts l k

  module _ (none : words_asked m.field_limit x.top line.instr ≡ None) where
    halts : (e : End) → (e ≡ Done → ⊥) → step p m t ≡ ended_by m e → Ends
    halts e other is =
        let q : k ≡ record (stepped_by l (ended_by m e)) { end = Some (Machine e) } = then_ p l t x line can I none (ended_by m e) is in
        inr (record { end = e; other = other; machine = ap (λ (z : Ledger). z.machine) q; is = ap (λ (z : Ledger). z.end) q; heaps = ap (λ (z : Ledger). z.heaps) q })

    trap_other : {kind : Trap} {line : ℕ} → Trapped kind t line ≡ Done → ⊥
    trap_other q = absurd cc

    stop_other : {owner : ℕ} → Entangled t owner ≡ Done → ⊥
    stop_other q = absurd cc

    contra : {A : Type 0} (e : End) → m.end ≡ Some e → A
    contra e q = absurd (none-some _ (sym going ∙ q))

    done : x.parent ≡ None → x.below ≡ [] → step p m t ≡ ended_by (with_task m t (ended_task x (result_of x.top))) Done → Ends
    done root lone is =
        let z : Task = ended_task x (result_of x.top) in
        let m' : MachineState = ended_by (with_task m t z) Done in
        let kd : Ledger = record (stepped_by l m') { end = Some (Machine Done) } in
        let q : k ≡ kd = then_ p l t x line can I none m' is in
        let e : (rested l t).machine ≡ m = heap_machine l t let_go in
        let e' : (rested kd t).machine ≡ m' = heap_machine kd t let_go in
        let heaps : (u : ℕ) → heap_of (rested kd t) u ≡ heap_of (rested l t) u = λ u. ap (λ hs. or_fresh (slice_get hs u)) (rest_heaps l kd t refl) in
        inl (record {
          root = root;
          lone = lone;
          ended = ap (λ (w : Ledger). w.machine.end) q;
          is = ap (λ (w : Ledger). w.end) q;
          heaps = ap (λ (w : Ledger). w.heaps) q;
          outputs = ap (λ (w : Ledger). w.machine.outputs) q;
          ends = subst (λ (w : Ledger). EndsTask (rested l t) (rested w t) t x) (sym q) (record {
            task = ap (λ (w : MachineState). slice_get w.tasks t) e ∙ I.task;
            runs = I.runs;
            ended = ap (λ (w : MachineState). slice_get w.tasks t) e' ∙ got_same m.tasks t x z I.task;
            alone = alone_by (rested l t) (rested kd t) t x z (ap (λ (w : MachineState). slice_get w.tasks t) e ∙ I.task) refl (sym (tells p l t x line can I).0) (sym (tells p l t x line can I).1)
                (ap (λ (w : MachineState). w.tasks) e' ∙ ap (λ (w : MachineState). slice_set w.tasks t z) (sym e)) (ap (λ (w : MachineState). w.store) e' ∙ ap (λ (w : MachineState). w.store) (sym e)) (λ u ne. heaps u);
            heap = heaps t;
            row = ap (λ (w : MachineState). length (row_of (slice_get w.store t))) e' ∙ ap (λ (w : MachineState). length (row_of (slice_get w.store t))) (sym e);
            store = λ n. ap (λ (w : MachineState). object_at w.store n) e' ∙ ap (λ (w : MachineState). object_at w.store n) (sym e);
          });
        })

    none_last : (fs : List Frame) → last_of fs ≡ None → fs ≡ []
    none_last [] e = refl
    none_last (f ∷ fs) e = absurd (last f fs e)
      where
        last : (f : Frame) (fs : List Frame) → last_of (f ∷ fs) ≡ None → ⊥
        last f [] e = absurd cc
        last f (g ∷ fs) e = last g fs e

    child_on : (parent : ℕ) (o : Option (ℤ × Option Name)) → (child_ended_by m t x parent (result_of x.top) o).end ≡ m.end
    child_on parent None = refl
    child_on parent (Some other) = child_on_by_cases (slice_get m.tasks parent) (slice_get m.tasks (sibling t)) (is_left t)
      where
        child_on_by_cases : (a b : Option Task) (c : Bool) → (or_same m a (λ w. or_same m b (λ y. cond c (join_of m parent w t x y (result_of x.top) other) (join_of m parent w (t - 1) y x other (result_of x.top))))).end ≡ m.end
        child_on_by_cases None b c = refl
        child_on_by_cases (Some w) None c = refl
        child_on_by_cases (Some w) (Some y) true = refl
        child_on_by_cases (Some w) (Some y) false = refl

    last_ends : (o : Option ℕ) → x.parent ≡ o → x.below ≡ [] → step p m t ≡ last_return m t x o → (e : End) → (last_return m t x o).end ≡ Some e → Ends
    last_ends None root lone is e end = done root lone is
    last_ends (Some parent) root lone is e end = contra e (sym (child_on parent (result_at (slice_get m.tasks (sibling t)))) ∙ end)

    returns_end : (o : Option Frame) → last_of x.below ≡ o → step p m t ≡ returned_to m t x o → (e : End) → (returned_to m t x o).end ≡ Some e → Ends
    returns_end None q is e end = last_ends x.parent refl (none_last x.below q) is e end
    returns_end (Some f) q is e end = contra e end

    ends_by : (g : Effect) → step p m t ≡ follow m t x line.number g → (e : End) → (follow m t x line.number g).end ≡ Some e → Ends
    ends_by (Goes f st) is e end = contra e end
    ends_by (Prints i) is e end = contra e end
    ends_by (Calls g) is e end = ends_by_cases (nat_lt (length x.below + 1) frame_limit) is end
      where
        ends_by_cases : (b : Bool) → step p m t ≡ cond b (with_task m t (record x { top = entry_frame g x.top; below = x.below ++ onward x.top ∷ [] })) (ended_by m (Trapped Depth t line.number))
            → (cond b (with_task m t (record x { top = entry_frame g x.top; below = x.below ++ onward x.top ∷ [] })) (ended_by m (Trapped Depth t line.number))).end ≡ Some e → Ends
        ends_by_cases true is end = contra e end
        ends_by_cases false is end = halts (Trapped Depth t line.number) trap_other is
    ends_by (Forks g h) is e end = ends_by_cases (nat_lt x.depth depth_limit) is end
      where
        ends_by_cases : (b : Bool) → step p m t ≡ cond b (record m {
          tasks = slice_set m.tasks t (record x { status = Waiting; top = onward x.top }) ++ child t (x.depth + 1) g x.top ∷ child t (x.depth + 1) h x.top ∷ [];
          store = m.store ++ [] ∷ [] ∷ [];
          edges = m.edges ++ edge (strand_of t x) (strand (length m.tasks) 0) ∷ edge (strand_of t x) (strand (length m.tasks + 1) 0) ∷ [];
        }) (ended_by m (Trapped Depth t line.number)) → (cond b (record m {
          tasks = slice_set m.tasks t (record x { status = Waiting; top = onward x.top }) ++ child t (x.depth + 1) g x.top ∷ child t (x.depth + 1) h x.top ∷ [];
          store = m.store ++ [] ∷ [] ∷ [];
          edges = m.edges ++ edge (strand_of t x) (strand (length m.tasks) 0) ∷ edge (strand_of t x) (strand (length m.tasks + 1) 0) ∷ [];
        }) (ended_by m (Trapped Depth t line.number))).end ≡ Some e → Ends
        ends_by_cases true is end = contra e end
        ends_by_cases false is end = halts (Trapped Depth t line.number) trap_other is
    ends_by Returns is e end = returns_end (last_of x.below) refl is e end
    ends_by (Traps kind) is e end = halts (Trapped kind t line.number) trap_other is
    ends_by (Stops n) is e end = halts (Entangled t (owner_of m.tasks n.task)) stop_other is

  run_ends : (e : End) → (step p m t).end ≡ Some e → Ends
  run_ends e end =
      ends_by (none_asked line.instr (ap (λ (z : MachineState). is_some z.end) (sym taken) ∙ ap is_some end)) (effect s x.top m.store line.instr) taken e (ap (λ (z : MachineState). z.end) (sym taken) ∙ end)

  -- IT GOES ON

  read_case : words_asked m.field_limit x.top line.instr ≡ None → (f : Frame) (n : Name) (y : Object) → touched x.top line.instr ≡ Some n → (own l n ≡ t → ⊥) → object_at m.store n ≡ Some y → JustReads x line.instr y f → Good (Goes f m.store)
  read_case none f n y touches foreign is how q h =
      let m' : MachineState = record m { tasks = slice_set m.tasks t (record x { top = f }) } in
      let goes : k ≡ stepped_by l m' = goes_then p l t x line can I none m' (record x { top = f }) (step_is p l t x line can I (Goes f m.store) q) going (got_same m.tasks t x (record x { top = f }) I.task) I.runs in (
        Reading,
        record {
          name = n;
          object = y;
          frame = f;
          touches = touches;
          is = is;
          foreign = foreign;
          reads = how;
          does = q;
          goes = goes;
          alone = subst (λ (z : Ledger). StepsAlone l z t) (sym goes) (alone_by l (stepped_by l m') t x (record x { top = f }) I.task refl refl refl refl refl (λ u ne. refl));
        },
      )

  write_case : words_asked m.field_limit x.top line.instr ≡ None → (f : Frame) (n : Name) (y y' : Object) → touched x.top line.instr ≡ Some n → (own l n ≡ t → ⊥) → object_at m.store n ≡ Some y → length y'.refs ≡ length y.refs → ChangesByWrite x line.instr y y' f → Good (Goes f (put_object m.store n y'))
  write_case none f n y y' touches foreign is fields how q h =
      let z : Task = record x { top = f } in
      let m' : MachineState = record m { tasks = slice_set m.tasks t z; store = put_object m.store n y' } in
      let goes : k ≡ stepped_by l m' = goes_then p l t x line can I none m' z (step_is p l t x line can I (Goes f (put_object m.store n y')) q) going (got_same m.tasks t x z I.task) I.runs in
      let e : (rested l t).machine ≡ m = heap_machine l t let_go in
      let e' : (rested (stepped_by l m') t).machine ≡ m' = heap_machine (stepped_by l m') t let_go in (
        Writing,
        record {
          name = n;
          object = y;
          written = y';
          frame = f;
          touches = touches;
          foreign = foreign;
          wrote = how;
          does = q;
          goes = goes;
          writes = subst (λ (z : Ledger). WritesOne (rested l t) (rested z t) t n y y') (sym goes)
              (writes_by (rested l t) (rested (stepped_by l m') t) t x z (ap (λ (w : MachineState). slice_get w.tasks t) e ∙ I.task) refl refl refl
              (ap (λ (w : MachineState). w.tasks) e' ∙ ap (λ (w : MachineState). slice_set w.tasks t z) (sym e)) n y y'
              (ap (λ (w : MachineState). w.store) e' ∙ ap (λ (w : MachineState). put_object w.store n y') (sym e))
              (λ u. ap (λ hs. or_fresh (slice_get hs u)) (rest_heaps l (stepped_by l m') t refl)) (ap (λ (w : MachineState). object_at w.store n) e ∙ is) fields);
        },
      )

  traps : (kind : Trap) → Good (Traps kind)
  traps kind q h = absurd (false≢true h)

  stops : (n : Name) → Good (Stops n)
  stops n q h = absurd (false≢true h)

  trap : {A : Type 0} (kind : Trap) (o : Option A) (go : A → Effect) → ((y : A) → Good (go y)) → Good (or_trap kind o go)
  trap kind None go each = traps kind
  trap kind (Some y) go each = each y

  either : (b : Bool) (e g : Effect) → Good e → Good g → Good (cond b e g)
  either true e g h j = h
  either false e g h j = j

  either_is : (b : Bool) (e g : Effect) → (b ≡ true → Good e) → (b ≡ false → Good g) → Good (cond b e g)
  either_is true e g h j = h refl
  either_is false e g h j = j refl

  trap_is : {A : Type 0} (kind : Trap) (o : Option A) (go : A → Effect) → ((y : A) → o ≡ Some y → Good (go y)) → Good (or_trap kind o go)
  trap_is kind None go each = traps kind
  trap_is kind (Some y) go each = each y refl

  -- an object that another task owns
  other : (r : Option Name) (go : Name → Object → Effect) → touched x.top line.instr ≡ r → owns m.tasks t r ≡ false
      → ((n : Name) (y : Object) → touched x.top line.instr ≡ Some n → (own l n ≡ t → ⊥) → object_at m.store n ≡ Some y → Good (go n y)) → Good (with_object m.store r go)
  other None go touches h each = traps Nil
  other (Some n) go touches h each = other_by_cases (object_at m.store n) refl
    where
      other_by_cases : (o : Option Object) → object_at m.store n ≡ o → Good (or_trap Nil o (go n))
      other_by_cases None e = traps Nil
      other_by_cases (Some y) e = each n y touches (λ q. both_ways (owner_of m.tasks n.task == t) h (eq-eqb (owner_of m.tasks n.task) t q)) e

  -- of any other instruction
  plain : words_asked m.field_limit x.top line.instr ≡ None → (f : Frame) (n : Name) (y : Object) → touched x.top line.instr ≡ Some n → (own l n ≡ t → ⊥) → object_at m.store n ≡ Some y → ((g : Frame) → JustReads x line.instr y g) → Good (Goes f m.store)
  plain none f n y touches foreign is how = read_case none f n y touches foreign is (how f)

  reads : words_asked m.field_limit x.top line.instr ≡ None → (d : ℕ) (r : Option Name) (n : Name) (y : Object) → touched x.top line.instr ≡ Some n → (own l n ≡ t → ⊥) → object_at m.store n ≡ Some y → ((f : Frame) → JustReads x line.instr y f) → Good (read_effect s x.top m.store d r)
  reads none d None n y touches foreign is how = read_case none _ n y touches foreign is (how _)
  reads none d (Some a) n y touches foreign is how = trap Nil (object_at m.store a) _ (λ o. either (precedes s.edges o.strand s.strand) _ (Stops a) (read_case none _ n y touches foreign is (how _)) (stops a))

  print_case : (a : ℕ) → line.instr ≡ Out a → Good (effect s x.top m.store (Out a))
  print_case a il q h =
      let z : Task = record x { top = onward x.top } in
      let m' : MachineState = record m { tasks = slice_set m.tasks t z; outputs = m.outputs ++ int_in x.top a ∷ [] } in
      let goes : k ≡ stepped_by l m' = goes_then p l t x line can I (ap (words_asked m.field_limit x.top) il) m' z (step_is p l t x line can I (effect s x.top m.store (Out a)) q) going (got_same m.tasks t x z I.task) I.runs in (
        Printing,
        record {
          register = a;
          by = il;
          goes = goes;
          alone = subst (λ (w : Ledger). StepsAlone l w t) (sym goes) (alone_by l (stepped_by l m') t x z I.task refl refl refl refl refl (λ u ne. refl));
        },
      )

  -- BY THE INSTRUCTION

  no : {A : Type 0} → (◌≡◌ {A = Bool} false true) ⊎ (◌≡◌ {A = Bool} true false) → A
  no (inl e) = absurd (false≢true e)
  no (inr e) = absurd (false≢true (sym e))

  foreign_by : {b : Bool} → (◌≡◌ {A = Bool} false true) ⊎ (b ≡ false) → b ≡ false
  foreign_by (inl e) = absurd (false≢true e)
  foreign_by (inr e) = e

  good : (instr : Instr) → line.instr ≡ instr → (is_open x instr ≡ true) ⊎ (owns m.tasks t (touched x.top instr) ≡ false) → Good (effect s x.top m.store instr)
  good (Set d a) il c = no c
  good (Mov d a) il c = no c
  good (Movr d a) il c = no c
  good (NilOf d) il c = no c
  good (Calc op d a b) il c = no c
  good (Same d a b) il c = no c
  good (Jmp to) il c = no c
  good (Jz a to) il c = no c
  good (Newm d a b) il c = no c
  good (Pack d r i) il c = no c
  good (Call g) il c = no c
  good (Getr d o i) il c =
      other (ref_in x.top o) _ (ap (touched x.top) il) (foreign_by c) (λ n y touches foreign is. trap Range (place_in (length y.refs) (int_in x.top i)) _ (λ at. reads (ap (words_asked m.field_limit x.top) il) d (option_flatten (slice_get y.refs at)) n y touches foreign is (λ f. subst (λ k. JustReads x k y f) (sym il) tt)))
  good (Geti d o i) il c =
      other (ref_in x.top o) _ (ap (touched x.top) il) (foreign_by c) (λ n y touches foreign is. trap Range (place_in (length y.ints) (int_in x.top i)) _ (λ at. plain (ap (words_asked m.field_limit x.top) il) _ n y touches foreign is (λ f. subst (λ k. JustReads x k y f) (sym il) tt)))
  good (Putr o i v) il c =
      other (ref_in x.top o) _ (ap (touched x.top) il) (foreign_by c) (λ n y touches foreign is. trap_is Range (place_in (length y.refs) (int_in x.top i)) _ (λ at found.
      either_is y.mutable _ (Traps Frozen) (λ may. write_case (ap (words_asked m.field_limit x.top) il) _ n y _ touches foreign is (length-set y.refs at (ref_in x.top v))
      (subst (λ k. ChangesByWrite x k y (record y { refs = slice_set y.refs at (ref_in x.top v) }) (onward x.top)) (sym il) (at, found, may, refl, refl))) (λ frozen. traps Frozen)))
  good (Puti o i v) il c =
      other (ref_in x.top o) _ (ap (touched x.top) il) (foreign_by c) (λ n y touches foreign is. trap_is Range (place_in (length y.ints) (int_in x.top i)) _ (λ at found.
      either_is y.mutable _ (Traps Frozen) (λ may. write_case (ap (words_asked m.field_limit x.top) il) _ n y _ touches foreign is refl
      (subst (λ k. ChangesByWrite x k y (record y { ints = slice_set y.ints at (int_in x.top v) }) (onward x.top)) (sym il) (at, found, may, refl, refl))) (λ frozen. traps Frozen)))
  good (Cntr d o) il c = other (ref_in x.top o) _ (ap (touched x.top) il) (foreign_by c) (λ n y touches foreign is. plain (ap (words_asked m.field_limit x.top) il) _ n y touches foreign is (λ f. subst (λ k. JustReads x k y f) (sym il) tt))
  good (Cnti d o) il c = other (ref_in x.top o) _ (ap (touched x.top) il) (foreign_by c) (λ n y touches foreign is. plain (ap (words_asked m.field_limit x.top) il) _ n y touches foreign is (λ f. subst (λ k. JustReads x k y f) (sym il) tt))
  good (Freeze o) il c = other (ref_in x.top o) _ (ap (touched x.top) il) (foreign_by c) (λ n y touches foreign is. frozen n y foreign (owner_of m.tasks n.task == t) refl)
    where
      frozen : (n : Name) (y : Object) → (own l n ≡ t → ⊥) → (b : Bool) → owner_of m.tasks n.task == t ≡ b → Good (cond b (Goes (onward x.top) (put_object m.store n (record y { mutable = false }))) (Traps Frozen))
      frozen n y foreign true e = absurd (foreign (eqb-true (owner_of m.tasks n.task) t e))
      frozen n y foreign false e = traps Frozen
  good (Cas d o i e v) il c =
      other (ref_in x.top o) _ (ap (touched x.top) il) (foreign_by c) (λ n y touches foreign is. trap_is Range (place_in (length y.refs) (int_in x.top i)) _ (λ at found.
      either_is y.mutable _ (Traps Frozen) (λ may. either_is (same_name (option_flatten (slice_get y.refs at)) (ref_in x.top e)) _ _
      (λ same. write_case (ap (words_asked m.field_limit x.top) il) _ n y _ touches foreign is (length-set y.refs at (ref_in x.top v))
      (subst (λ k. ChangesByWrite x k y (record y { refs = slice_set y.refs at (ref_in x.top v) }) (onward (with_int x.top d (pos 1)))) (sym il) (at, found, may, refl, refl, same)))
      (λ other. read_case (ap (words_asked m.field_limit x.top) il) _ n y touches foreign is
      (subst (λ k. JustReads x k y (onward (with_int x.top d (pos 0)))) (sym il) (at, found, may, other, refl)))) (λ frozen. traps Frozen)))
  good (Par g f) il c = fork_case p l t x line can I K idle spare g f il
  good Ret il (inl h) = ret_case p l t x line can I K idle spare il x.below refl h
  good Ret il (inr h) = no (inr h)
  good (Out a) il c = print_case a il

  -- a line that isn't private
  open_or : (b o w : Bool) → (not o && (w && b)) ≡ false → b ≡ true → (o ≡ true) ⊎ (w ≡ false)
  open_or b true w h e = inl refl
  open_or b false false h e = inr refl
  open_or b false true h e = absurd (both_ways b h e)

  -- what a task can't do alone isn't its own
  foreign_or : {A : Type 0} (a b : Bool) → A ⊎ ((a || b) ≡ false) → A ⊎ (a ≡ false)
  foreign_or a b (inl e) = inl e
  foreign_or true b (inr h) = absurd (false≢true (sym h))
  foreign_or false b (inr h) = inr refl

  abbrev Known : Type 0
  Known = (kind : LastKind) × IsOfKind p l k t x line kind × (GoesOn kind → k.machine.end ≡ None) × KindTellsPrivate p l t kind

  apart_by : (kind : LastKind) → is_private p m t ≡ false → KindTellsPrivate p l t kind
  apart_by Private h = tt
  apart_by Reading h = h
  apart_by Writing h = h
  apart_by Printing h = h
  apart_by Forking h = h
  apart_by Ending h = h
  apart_by Joining h = h
  apart_by Finishing h = h
  apart_by Halting h = h

  pub last_step : Known
  last_step = last_step_by_cases (is_private p m t) refl
    where
      ended : is_private p m t ≡ false → Ends → Known
      ended h (inl d) = (Finishing, d, λ no. absurd no, h)
      ended h (inr d) = (Halting, d, λ no. absurd no, h)

      goes_none : (step p m t).end ≡ None → k.machine.end ≡ None
      goes_none e = ap (λ (z : MachineState). z.end) (task_step_machine p l t) ∙ e

      ending : (o : Option End) → (step p m t).end ≡ o → is_private p m t ≡ false → Known
      ending (Some e) end h = ended h (run_ends e end)
      ending None end h =
          let goes : is_none (step p m t).end ≡ true = ap is_none end in
          let line_h : is_private_line p m t x (Some line) ≡ false = ap (is_private_line p m t x) (sym I.next) ∙ (ap (is_private_by p m t) (sym I.task) ∙ h) in
          let last : LastStepCases = good line.instr refl (foreign_or (owns m.tasks t (touched x.top line.instr)) (is_read line.instr && is_frozen_above m t (touched x.top line.instr)) (open_or (is_none (step p m t).end) (is_open x line.instr) (works_alone m t x.top line.instr) line_h goes)) refl (ap (λ (z : MachineState). is_none z.end) (sym taken) ∙ goes) in
          (last.0, last.1, λ on. goes_none end, apart_by last.0 h)

      last_step_by_cases : (b : Bool) → is_private p m t ≡ b → Known
      last_step_by_cases true h = (Private, h, λ on. private_end p l t h ∙ going, tt)
      last_step_by_cases false h = ending (step p m t).end refl h
