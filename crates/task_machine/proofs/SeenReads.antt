-- Steps that read an object: the task's own, or an immutable one that the view shows.
use Rattle.task_machine.proofs.Common.{◌≡◌, ℕ, ℤ, ◌≤◌, Bool, true, false, Option, Some, None, List, ◌∷◌, length, slice_get, unwrap_or, refl, ap, sym, subst, ◌∙◌, arith, inl, is_some, option_flatten, pos, ◌==◌, ◌&&◌, ◌||◌, not, eq-eqb, eqb-false, and-false, contains_from_in, In, Addr, Cell, object_of, place_in as chunk_in, seen_at, Instr, Getr, Geti, Cntr, Cnti, Line, ProgramText, Name, Object, Task, Range, MachineState, Goes, Traps, int_in, object_at, or_trap, read_effect, ref_in, onward as framed_onward, with_int as framed_int, task_names, Holds, ReadsFreely, fetched, owner_of, parents, path_in, run, setting, start, IsStored, AreLow, at_in, run_disentangled, frozen_reads_go, run_upward, run_is_fork_join_state, start_is_fork_join_state, path_le, in_registers, names_run, runs_is, run_stored, is_frozen, is_frozen_above, is_open, is_read, owns, touched, works_alone, int_of, ref_of, Private, Plan, Places, NamesAddress, ObjectStands, FitsNow, IsOwnObject, IsReachedByRun, IsShownBy, counts_ints, counts_refs, own_or_shown, planned, reads_int, reads_ref, or_shared, spot_at, with_seen, Agrees}
use Rattle.hh_model.specs.declared.data.Trap.TheVariants.{Nil}
use Rattle.hh_model.specs.Effect.{place_in}
use Rattle.task_machine.proofs.Stands.{at_get, at_length}
use Rattle.task_machine.proofs.Owned.{other_at, own_object}
use Rattle.task_machine.proofs.Fitting.{x, not_alone_shared, trap_shared}
use Rattle.task_machine.proofs.OwnReads.{field_agrees, nil_effect, object_effect, reads}
use Rattle.task_machine.proofs.Registers.{does, int_here, ref_here, sets_int, sets_ref}

-- ---- IN A RUN

-- what a task holds exists, and its owner is on the path
pub record IsHeld (m : MachineState) (t : ℕ) (n : Name) : Type 0 where
  pub stored : IsStored m n
  pub path : path_in (parents m.tasks) (owner_of m.tasks n.task) t ≡ true

held : (p : ProgramText) (m : MachineState) → IsReachedByRun p m → (t : ℕ) (y : Task) (n : Name) → slice_get m.tasks t ≡ Some y → In (task_names y) n → IsHeld m t n
held p m r t y n =
    let L : MachineState → Type 0 = λ w. slice_get w.tasks t ≡ Some y → In (task_names y) n → IsHeld w t n in
    subst L (sym r.2) (λ is h. record { stored = (run_stored p r.0 r.1).of_task t y n is h; path = ((run_disentangled p r.0 r.1).of_task t y n is h).1 })

-- what an ancestor's immutable object refers to isn't the task's own
pub record RefersUp (m : MachineState) (t : ℕ) (n : Name) (o : Object) : Type 0 where
  pub others : (k : Name) → In o.refs (Some k) → owner_of m.tasks k.task ≡ t → ⊥

refers_up : (p : ProgramText) (m : MachineState) → IsReachedByRun p m → (t : ℕ) (n : Name) (o : Object) → object_at m.store n ≡ Some o → o.mutable ≡ false
    → path_in (parents m.tasks) (owner_of m.tasks n.task) t ≡ true → (owner_of m.tasks n.task ≡ t → ⊥) → RefersUp m t n o
refers_up p m r t n o =
    let L : MachineState → Type 0 = λ w. object_at w.store n ≡ Some o → o.mutable ≡ false → path_in (parents w.tasks) (owner_of w.tasks n.task) t ≡ true → (owner_of w.tasks n.task ≡ t → ⊥) → RefersUp w t n o in
    subst L (sym r.2) (λ is frozen on ne. record {
      others = λ k h own.
          let w = run p r.0 r.1 in
          let low : AreLow (parents w.tasks) = (run_is_fork_join_state p (start p r.0) r.1 (start_is_fork_join_state p r.0)).tree.low in
          let up : path_in (parents w.tasks) (owner_of w.tasks k.task) (owner_of w.tasks n.task) ≡ true = run_upward p r.0 r.1 n k o is frozen h in
          let over : owner_of w.tasks k.task ≤ owner_of w.tasks n.task = path_le (parents w.tasks) low _ _ _ up in
          let under : owner_of w.tasks n.task ≤ t = path_le (parents w.tasks) low _ _ _ on in
          ne (omega (arith, own, over, under));
    })

-- ---- THE OBJECT

-- an object that a task can read: its cell
pub record CanRead (m : MachineState) (t : ℕ) (y : Task) (place : Places) (n : Name) (c : Cell) : Type 0 where
  pub object : Object
  pub is : object_at m.store n ≡ Some object
  pub refs : length c.refs ≡ length object.refs
  pub ints : c.ints ≡ object.ints
  pub field : (j : ℕ) → NamesAddress place (option_flatten (slice_get object.refs j)) (unwrap_or (slice_get c.refs j) None)
  pub alone : (i : Instr) → is_read i ≡ true → touched y.top i ≡ Some n → works_alone m t y.top i ≡ true
  pub free : ReadsFreely m t y object

module _ (p : ProgramText) (part : Private) (m : MachineState) (above : Places) (F : FitsNow p part m above) (line : Line) (at : fetched p (x p part m above F).top ≡ Some line) where
  abbrev Can : Name → Cell → Type 0
  Can n c = CanRead m part.task F.task F.place n c

  in_names : (o : ℕ) (n : Name) → ref_in F.task.top o ≡ Some n → In (task_names F.task) n
  in_names o n en = names_run F.task n (runs_is F.task.status F.running) (in_registers (F.task.top ∷ F.task.below) F.task.top n (inl refl) (at_in F.task.top.refs o n en))

  own_read : (o : ℕ) (n : Name) (a : Addr) (c : Cell) → ref_in F.task.top o ≡ Some n → IsOwnObject F.place (owner_of m.tasks) part.task m.store n a c → Can n c
  own_read o n a c en O = record {
    object = O.object;
    is = O.is;
    refs = at_length F.place O.object.refs c.refs O.stands.refs;
    ints = O.stands.ints;
    field = λ j. at_get F.place O.object.refs c.refs j O.stands.refs;
    alone = λ i r tie. own_works i tie;
    free = reads p part m above F line at o n O.object en O.is O.owned;
  }
    where
      own_works : (i : Instr) → touched F.task.top i ≡ Some n → works_alone m part.task F.task.top i ≡ true
      own_works i tie = ap (λ q. owns m.tasks part.task q || (is_read i && is_frozen_above m part.task q)) tie ∙ ap (λ b. b || (is_read i && is_frozen_above m part.task (Some n))) (eq-eqb (owner_of m.tasks n.task) part.task O.owned)

  -- AN ANCESTOR'S OBJECT
  module _ (o : ℕ) (n : Name) (a : Addr) (en : ref_in F.task.top o ≡ Some n) (is : F.place n ≡ Some a) (other : (owner_of m.tasks n.task == part.task) ≡ false) where
    ne : owner_of m.tasks n.task ≡ part.task → ⊥
    ne = eqb-false (owner_of m.tasks n.task) part.task other

    abbrev up : IsHeld m part.task n
    up = held p m F.reached part.task F.task n F.is (in_names o n en)

    abbrev q : Object
    q = up.stored.0

    above_at : above n ≡ Some a
    above_at = sym (F.heap.others n ne) ∙ is

    works_by : (i : Instr) → touched F.task.top i ≡ Some n → (b : Bool) → q.mutable ≡ b → works_alone m part.task F.task.top i ≡ (is_read i && not b)
    works_by i tie b mut =
        ap (λ w. owns m.tasks part.task w || (is_read i && is_frozen_above m part.task w)) tie
        ∙ (ap (λ z. z || (is_read i && is_frozen_above m part.task (Some n))) other
        ∙ (ap (λ z. is_read i && (z && is_frozen (object_at m.store n))) up.path
        ∙ (ap (λ w. is_read i && is_frozen w) up.stored.1 ∙ ap (λ z. is_read i && not z) mut)))

    -- a reference of it has its address by the map of the part too
    here_too : (r : Option Name) (b : Option Addr) → ((k : Name) → r ≡ Some k → owner_of m.tasks k.task ≡ part.task → ⊥) → NamesAddress above r b → NamesAddress F.place r b
    here_too None None apart h = tt
    here_too None (Some b) apart h = absurd h
    here_too (Some k) None apart h = absurd h
    here_too (Some k) (Some b) apart h = F.heap.others k (apart k refl) ∙ h

    shown_read : (c : Cell) → (q.mutable ≡ false) × ObjectStands above q c → Can n c
    shown_read c S =
        let refers = refers_up p m F.reached part.task n q up.stored.1 S.0 up.path ne in
        record {
          object = q;
          is = up.stored.1;
          refs = at_length above q.refs c.refs S.1.refs;
          ints = S.1.ints;
          field = λ j. here_too (option_flatten (slice_get q.refs j)) (unwrap_or (slice_get c.refs j) None) (λ k e. refers.others k (at_in q.refs j k e)) (at_get above q.refs c.refs j S.1.refs);
          alone = λ i r tie. works_by i tie false S.0 ∙ ap (λ z. z && true) r;
          free = frozen_free S.0;
        }
      where
        frozen_free : q.mutable ≡ false → ReadsFreely m part.task F.task q
        frozen_free frozen =
            let L : MachineState → Type 0 = λ w. Holds w part.task F.task n q → q.mutable ≡ false → ReadsFreely w part.task F.task q in
            let law : L m = subst L (sym F.reached.2) (frozen_reads_go p F.reached.0 F.reached.1 part.task F.task n q) in
            law (record { task = F.is; running = F.running; name = contains_from_in _ n (in_names o n en); object = up.stored.1 }) frozen

  module _ (i : Instr) (e : line.instr ≡ i) (o : ℕ) (go : Cell → Plan)
      (tie : touched F.task.top i ≡ ref_in F.task.top o) (closed : is_open F.task i ≡ false) (nil : ref_in F.task.top o ≡ None → does p part m above F line at i e ≡ Traps Nil)
      (can : (n : Name) (c : Cell) → ref_in F.task.top o ≡ Some n → Can n c → Agrees p part m above (go c)) where
    shown_in : (n : Name) (a : Addr) (en : ref_in F.task.top o ≡ Some n) (is : F.place n ≡ Some a) (other : (owner_of m.tasks n.task == part.task) ≡ false)
        → (w : Option Cell) → IsShownBy above (q o n a en is other) w → Agrees p part m above (or_shared w go)
    shown_in n a en is other None mutable = not_alone_shared p part m above F line at i e (works_by o n a en is other i (tie ∙ en) true mutable ∙ and-false (is_read i)) closed
    shown_in n a en is other (Some c) S = can n c en (shown_read o n a en is other c S)

    seen_in : (n : Name) (a : Addr) → ref_in F.task.top o ≡ Some n → F.place n ≡ Some a → (w : Option ℕ) → chunk_in part.heap.chunks a.chunk ≡ w
        → Agrees p part m above (own_or_shown part (Some a) (spot_at a w) go)
    seen_in n a en is (Some k) here =
        can n (object_of part.heap.chunks a) en (own_read o n a _ en (own_object F.place (owner_of m.tasks) part.task m.store part.heap.chunks above F.heap n a is (ap is_some here)))
    seen_in n a en is None out =
        let other = other_at F.place (owner_of m.tasks) part.task m.store part.heap.chunks above F.heap n a is (ap is_some out) in
        shown_in n a en is other (seen_at part.view a)
        (F.shown n a (q o n a en is other) (above_at o n a en is other) (up o n a en is other).path (ne o n a en is other) (up o n a en is other).stored.1)

    seen_by : (n : Option Name) (a : Option Addr) → ref_in F.task.top o ≡ n → NamesAddress F.place n a → Agrees p part m above (with_seen part a go)
    seen_by None None en h = trap_shared p part m above F line at i e Nil (nil en)
    seen_by None (Some a) en h = absurd h
    seen_by (Some n) None en h = absurd h
    seen_by (Some n) (Some a) en h = seen_in n a en h (chunk_in part.heap.chunks a.chunk) refl

    seen_agrees : Agrees p part m above (with_seen part (ref_of part.frames.top o) go)
    seen_agrees = seen_by (ref_in F.task.top o) (ref_of part.frames.top o) refl (ref_here p part m above F line at o)

  refs_here : (n : Name) (c : Cell) (k : ℕ) (C : Can n c) → place_in (length c.refs) (int_of part.frames.top k) ≡ place_in (length C.object.refs) (int_in F.task.top k)
  refs_here n c k C = ap (place_in (length c.refs)) (int_here p part m above F line at k) ∙ ap (λ l. place_in l (int_in F.task.top k)) C.refs

  ints_here : (n : Name) (c : Cell) (k : ℕ) (C : Can n c) → place_in (length c.ints) (int_of part.frames.top k) ≡ place_in (length C.object.ints) (int_in F.task.top k)
  ints_here n c k C = ap (place_in (length c.ints)) (int_here p part m above F line at k) ∙ ap (λ (l : List ℤ). place_in (length l) (int_in F.task.top k)) C.ints

  -- ---- COUNTS

  pub cntr_agrees : (d o : ℕ) → line.instr ≡ Cntr d o → Agrees p part m above (planned part (Cntr d o))
  cntr_agrees d o e =
      seen_agrees (Cntr d o) e o (counts_refs d) refl refl (nil_effect p part m above F line at o _) (λ n c en C.
      sets_int p part m above F line at (Cntr d o) e d (pos (length C.object.refs)) _ (ap pos C.refs)
      (object_effect p part m above F line at o n C.object _ en C.is) refl (C.alone (Cntr d o) refl en) refl)

  pub cnti_agrees : (d o : ℕ) → line.instr ≡ Cnti d o → Agrees p part m above (planned part (Cnti d o))
  cnti_agrees d o e =
      seen_agrees (Cnti d o) e o (counts_ints d) refl refl (nil_effect p part m above F line at o _) (λ n c en C.
      sets_int p part m above F line at (Cnti d o) e d (pos (length C.object.ints)) _ (ap (λ (l : List ℤ). pos (length l)) C.ints)
      (object_effect p part m above F line at o n C.object _ en C.is) refl (C.alone (Cnti d o) refl en) refl)

  -- ---- FIELDS

  pub geti_agrees : (d o k : ℕ) → line.instr ≡ Geti d o k → Agrees p part m above (planned part (Geti d o k))
  geti_agrees d o k e =
      seen_agrees (Geti d o k) e o (reads_int part.frames.top d k) refl refl (nil_effect p part m above F line at o _) (λ n c en C.
      field_agrees p part m above F line at (Geti d o k) e (λ j. Goes (framed_onward (framed_int F.task.top d (unwrap_or (slice_get C.object.ints j) (pos 0)))) m.store) _ _
      (object_effect p part m above F line at o n C.object _ en C.is ∙ ap (λ r. or_trap Range r (λ j. Goes (framed_onward (framed_int F.task.top d (unwrap_or (slice_get C.object.ints j) (pos 0)))) m.store)) (sym (ints_here n c k C)))
      (λ j goes. sets_int p part m above F line at (Geti d o k) e d _ _ (ap (λ (l : List ℤ). unwrap_or (slice_get l j) (pos 0)) C.ints) goes refl (C.alone (Geti d o k) refl en) refl))

  pub getr_agrees : (d o k : ℕ) → line.instr ≡ Getr d o k → Agrees p part m above (planned part (Getr d o k))
  getr_agrees d o k e =
      seen_agrees (Getr d o k) e o (reads_ref part.frames.top d k) refl refl (nil_effect p part m above F line at o _) (λ n c en C.
      field_agrees p part m above F line at (Getr d o k) e (λ j. read_effect (setting m part.task F.task) F.task.top m.store d (option_flatten (slice_get C.object.refs j))) _ _
      (object_effect p part m above F line at o n C.object _ en C.is ∙ ap (λ r. or_trap Range r (λ j. read_effect (setting m part.task F.task) F.task.top m.store d (option_flatten (slice_get C.object.refs j)))) (sym (refs_here n c k C)))
      (λ j goes. sets_ref p part m above F line at (Getr d o k) e d (option_flatten (slice_get C.object.refs j)) _ (C.field j) (goes ∙ C.free.goes j d) refl (C.alone (Getr d o k) refl en) refl))
