-- Private steps of a task have the same result before and after what others do: the task, its heap's account and its
-- objects.
use Rattle.ledger_step_laws.proofs.Common.{◌≡◌, ℕ, zero, suc, pos, ◌+◌, ◌==◌, ◌&&◌, ◌||◌, ◌<◌, not, Bool, true, false, cond, Option, Some, None, List, [], ◌∷◌, ◌++◌, length, slice_get, slice_set, replicate, ◌⊎◌, inl, inr, refl, ap, ap₂, sym, subst, ◌∙◌, arith, is_none, nat_lt, length-set, option_flatten, false≢true, and_parts, and_from, eqb-true, eq-eqb, cases_eq, or_cases, or_left, or_right, not-true, same_Some, got_same, got_other, got_within, In, or_false, Instr, Set, Mov, Movr, Nil as NilOf, Calc, Same, Jmp, Jz, Newm, Pack, Getr, Geti, Putr, Puti, Cntr, Cnti, Freeze, Cas, Call, Par, Ret, Out, Line, ProgramText, Name, Object, Frame, Task, Trap, Range, Frozen, Div, Size, Depth, End, Trapped, MachineState, Effect, Goes, Stops, Traps, StepContext, effect, made, row_of, object_at, put_object, counts_in, int_in, ref_in, or_trap, with_object, read_effect, calculated, place_in, same_name, onward, with_ref, refs_of, task_names, precedes, IsStored, strand_of, is_on_path, setting, fetched, step, follow, returned_to, last_of, front_of, back_in, entry_frame, with_task, ended_by, can_step, goes_on, is_running, is_joined, is_over, frame_limit, owner_of, parents, joined, runs, asked, asked_by, asked_line, at_in, named_from_in, seen, runs_is, names_run, in_registers, put_here, put_rows, own_reads, step_taken, owner_here, Ledger, with_allocation, allocated_by, task_step, touched, is_open, owns, works_alone, is_read, is_frozen, is_frozen_above, is_private, is_private_by, is_private_line, task_step_machine, own, AlikeFor, LedgerIsKnown}
use Rattle.hh_model.specs.declared.data.Trap.TheVariants.{Nil}
use Rattle.ledger_step_laws.proofs.Ahead.{put_other, heap_after, heap_then, with_at, private_alone}
use Rattle.ledger_step_laws.proofs.Private.{last_caller}
use Rattle.ledger_step_laws.proofs.Rested.{name_cases}

-- lists with the same items at each place
same_items : {A : Type 0} (xs ys : List A) → length ys ≡ length xs → ((c : ℕ) → slice_get ys c ≡ slice_get xs c) → ys ≡ xs
same_items [] [] e f = refl
same_items [] (y ∷ ys) e f = absurd (omega (arith, e))
same_items (x ∷ xs) [] e f = absurd (omega (arith, e))
same_items (x ∷ xs) (y ∷ ys) e f = ap₂ (λ a b. a ∷ b) (same_Some y x (f 0)) (same_items xs ys (omega (arith, e)) (λ c. f (suc c)))

row_there : (l : Ledger) (u : ℕ) (x : Task) → length l.machine.store ≡ length l.machine.tasks → slice_get l.machine.tasks u ≡ Some x → (row : List Object) × (slice_get l.machine.store u ≡ Some row)
row_there l u x e is = let lt : u < length l.machine.tasks = got_within l.machine.tasks u x is in got l.machine.store u (let q : u < length l.machine.store = omega (arith, e, lt) in q)
  where
    got : (xs : List (List Object)) (k : ℕ) → k < length xs → (row : List Object) × (slice_get xs k ≡ Some row)
    got [] k lt = absurd (omega arith)
    got (y ∷ ys) zero lt = (y, refl)
    got (y ∷ ys) (suc k) lt = got ys k (omega arith)

-- the last object of a row that got one more
made_at : (store : List (List Object)) (u : ℕ) (row : List Object) (o : Object) (n : Name) → slice_get store u ≡ Some row → n.task ≡ u → object_at (slice_set store u (row_of (slice_get store u) ++ o ∷ [])) n ≡ slice_get (row ++ o ∷ []) n.count
made_at store u row o n is e =
    ap (λ k. slice_get (row_of (slice_get (slice_set store u (row_of (slice_get store u) ++ o ∷ [])) k)) n.count) e
    ∙ (ap (λ r. slice_get (row_of r) n.count) (got_same store u row (row_of (slice_get store u) ++ o ∷ []) is)
    ∙ ap (λ r. slice_get (row_of r ++ o ∷ []) n.count) is)

module _ (l l' : Ledger) (u : ℕ) (x : Task) (K : LedgerIsKnown l) (K' : LedgerIsKnown l') (A : AlikeFor u l l') (at_u : slice_get l.machine.tasks u ≡ Some x) (run : is_running (Some x) ≡ true) where
  abbrev m : MachineState
  m = l.machine

  abbrev m' : MachineState
  m' = l'.machine

  at_u' : slice_get m'.tasks u ≡ Some x
  at_u' = A.task ∙ at_u

  -- both stores change alike
  abbrev Change : List (List Object) → List (List Object) → Type 0
  Change st st' =
      ((st ≡ m.store) × (st' ≡ m'.store))
      ⊎ (((o : Object) × (st ≡ slice_set m.store u (row_of (slice_get m.store u) ++ o ∷ [])) × (st' ≡ slice_set m'.store u (row_of (slice_get m'.store u) ++ o ∷ [])))
      ⊎ ((n : Name) × (y : Object) × (own l n ≡ u) × IsStored m n × (st ≡ put_object m.store n y) × (st' ≡ put_object m'.store n y)))

  pub record Both (a a' : MachineState) : Type 0 where
    pub task : Task
    pub store : List (List Object)
    pub store' : List (List Object)
    pub is : a ≡ record m { tasks = slice_set m.tasks u task; store = store }
    pub is' : a' ≡ record m' { tasks = slice_set m'.tasks u task; store = store' }
    pub parent : task.parent ≡ x.parent
    pub status : task.status ≡ x.status
    pub change : Change store store'

  abbrev s : StepContext
  s = setting m u x

  abbrev s' : StepContext
  s' = setting m' u x

  module _ (line : ℕ) where
    abbrev Good : Effect → Effect → Type 0
    Good e e' = is_none (follow m u x line e).end ≡ true → Both (follow m u x line e) (follow m' u x line e')

    goes : (f : Frame) (st st' : List (List Object)) → Change st st' → Good (Goes f st) (Goes f st')
    goes f st st' c h = record { task = record x { top = f }; store = st; store' = st'; is = refl; is' = refl; parent = refl; status = refl; change = c }

    traps : (kind : Trap) (e' : Effect) → Good (Traps kind) e'
    traps kind e' h = absurd (false≢true h)

    trap : {A : Type 0} (kind : Trap) (o : Option A) (go go' : A → Effect) → ((y : A) → Good (go y) (go' y)) → Good (or_trap kind o go) (or_trap kind o go')
    trap kind None go go' each = traps kind (Traps kind)
    trap kind (Some y) go go' each = each y

    object : (r : Option Name) (go go' : Name → Object → Effect) → ((n : Name) → r ≡ Some n → own l n ≡ u) → ((n : Name) (y : Object) → r ≡ Some n → own l n ≡ u → object_at m.store n ≡ Some y → Good (go n y) (go' n y)) → Good (with_object m.store r go) (with_object m'.store r go')
    object None go go' mine each = traps Nil (Traps Nil)
    object (Some n) go go' mine each = subst (λ o. Good (or_trap Nil (object_at m.store n) (go n)) (or_trap Nil o (go' n))) (sym (A.store n (mine n refl))) (object_by_cases (object_at m.store n) refl)
      where
        object_by_cases : (o : Option Object) → object_at m.store n ≡ o → Good (or_trap Nil o (go n)) (or_trap Nil o (go' n))
        object_by_cases None e = traps Nil (Traps Nil)
        object_by_cases (Some y) e = each n y refl (mine n refl) e

    either : (b : Bool) (e g e' g' : Effect) → Good e e' → Good g g' → Good (cond b e g) (cond b e' g')
    either true e g e' g' h k = h
    either false e g e' g' h k = k

    store_unchanged : (f : Frame) → Good (Goes f m.store) (Goes f m'.store)
    store_unchanged f = goes f m.store m'.store (inl (refl, refl))

    new : (d : ℕ) (o : Object) → Good (made s x.top m.store d o) (made s' x.top m'.store d o)
    new d o h = record {
      task = record x { top = onward (with_ref x.top d (Some (record { task = u; count = length (row_of (slice_get m.store u)) }))) };
      store = slice_set m.store u (row_of (slice_get m.store u) ++ o ∷ []);
      store' = slice_set m'.store u (row_of (slice_get m'.store u) ++ o ∷ []);
      is = refl;
      is' = ap (λ k. record m' { tasks = slice_set m'.tasks u (record x { top = onward (with_ref x.top d (Some (record { task = u; count = k }))) }); store = slice_set m'.store u (row_of (slice_get m'.store u) ++ o ∷ []) }) A.count;
      parent = refl;
      status = refl;
      change = inr (inl (o, refl, refl));
    }

    put : (f : Frame) (n : Name) (old y : Object) → own l n ≡ u → object_at m.store n ≡ Some old → Good (Goes f (put_object m.store n y)) (Goes f (put_object m'.store n y))
    put f n old y mine e = goes f _ _ (inr (inr (n, y, mine, (old, e), refl, refl)))

    -- reads of its own objects agree in both accounts
    reads : (o : ℕ) (n : Name) (y : Object) (d at : ℕ) → ref_in x.top o ≡ Some n → own l n ≡ u → object_at m.store n ≡ Some y → Good (read_effect s x.top m.store d (option_flatten (slice_get y.refs at))) (read_effect s' x.top m'.store d (option_flatten (slice_get y.refs at)))
    reads o n y d at e mine there =
        let held : In (task_names x) n = names_run x n (runs_is x.status run) (in_registers (x.top ∷ x.below) x.top n (inl refl) (at_in x.top.refs o n e)) in
        let R = (own_reads m K.sound.fork_join K.sound.apart K.stored u x at_u run n y held there mine).goes at d in
        let R' = (own_reads m' K'.sound.fork_join K'.sound.apart K'.stored u x at_u' run n y held (A.store n mine ∙ there) (A.owned n mine)).goes at d in
        subst (λ g. Good g (read_effect s' x.top m'.store d (option_flatten (slice_get y.refs at)))) (sym R) (subst (λ g. Good (Goes (onward (with_ref x.top d (option_flatten (slice_get y.refs at)))) m.store) g) (sym R') (store_unchanged (onward (with_ref x.top d (option_flatten (slice_get y.refs at))))))

    mine : (r : Option Name) → owns m.tasks u r ≡ true → (n : Name) → r ≡ Some n → own l n ≡ u
    mine r h n e = eqb-true (owner_of m.tasks n.task) u (ap (owns m.tasks u) (sym e) ∙ h)

    -- a read that goes on by one account goes on by the other: the owner is on the path by one if and only if it is by
    -- the other
    stopped : (n : Name) (e' : Effect) → Good (Stops n) e'
    stopped n e' h = absurd (false≢true h)

    follows : (q : Name) (d : ℕ) → IsStored m' q → Good (read_effect s x.top m.store d (Some q)) (read_effect s' x.top m'.store d (Some q))
    follows q d there = follows_by_cases (object_at m.store q) refl
      where
        reads_to : Effect → Type 0
        reads_to e = Good e (read_effect s' x.top m'.store d (Some q))

        follows_here : (o : Object) → object_at m.store q ≡ Some o → (b : Bool) → precedes m.edges o.strand (strand_of u x) ≡ b → reads_to (cond b (Goes (onward (with_ref x.top d (Some q))) m.store) (Stops q))
        follows_here o e false h = stopped q _
        follows_here o e true h =
            let up : is_on_path m.tasks (owner_of m.tasks q.task) u ≡ true = sym (seen m K.sound.fork_join u x q o at_u run e) ∙ h in
            let up' : precedes m'.edges there.0.strand (strand_of u x) ≡ true = seen m' K'.sound.fork_join u x q there.0 at_u' run there.1 ∙ A.above q up in
            let R : read_effect s' x.top m'.store d (Some q) ≡ Goes (onward (with_ref x.top d (Some q))) m'.store =
            ap (λ w. or_trap Nil w (λ z. cond (precedes m'.edges z.strand (strand_of u x)) (Goes (onward (with_ref x.top d (Some q))) m'.store) (Stops q))) there.1
            ∙ ap (λ b. cond b (Goes (onward (with_ref x.top d (Some q))) m'.store) (Stops q)) up' in
            subst (Good (Goes (onward (with_ref x.top d (Some q))) m.store)) (sym R) (store_unchanged (onward (with_ref x.top d (Some q))))

        follows_by_cases : (o : Option Object) → object_at m.store q ≡ o → reads_to (or_trap Nil o (λ z. cond (precedes m.edges z.strand (strand_of u x)) (Goes (onward (with_ref x.top d (Some q))) m.store) (Stops q)))
        follows_by_cases None e = traps Nil _
        follows_by_cases (Some o) e = follows_here o e (precedes m.edges o.strand (strand_of u x)) refl

    -- reads of an ancestor's immutable object agree in both accounts
    reads_frozen : (n : Name) (y : Object) (d at : ℕ) → object_at m'.store n ≡ Some y → Good (read_effect s x.top m.store d (option_flatten (slice_get y.refs at))) (read_effect s' x.top m'.store d (option_flatten (slice_get y.refs at)))
    reads_frozen n y d at e' = reads_frozen_by_cases (option_flatten (slice_get y.refs at)) refl
      where
        reads_frozen_by_cases : (r : Option Name) → option_flatten (slice_get y.refs at) ≡ r → Good (read_effect s x.top m.store d r) (read_effect s' x.top m'.store d r)
        reads_frozen_by_cases None e = store_unchanged _
        reads_frozen_by_cases (Some q) e = follows q d (K'.stored.of_object n q (y, e') (subst (λ w. In (refs_of w) q) (sym e') (named_from_in y.refs q (at_in y.refs at q e))))

    -- an ancestor's immutable object is there by both accounts
    above : (r : Option Name) (go go' : Name → Object → Effect) → is_frozen_above m u r ≡ true → ((n : Name) (y : Object) → object_at m'.store n ≡ Some y → Good (go n y) (go' n y)) → Good (with_object m.store r go) (with_object m'.store r go')
    above None go go' h each = absurd (false≢true h)
    above (Some n) go go' h each = above_by_cases (object_at m.store n) refl (and_parts (is_on_path m.tasks (owner_of m.tasks n.task) u) (is_frozen (object_at m.store n)) h)
      where
        above_by_cases : (o : Option Object) → object_at m.store n ≡ o → (is_on_path m.tasks (owner_of m.tasks n.task) u ≡ true) × (is_frozen (object_at m.store n) ≡ true) → Good (or_trap Nil o (go n)) (or_trap Nil (object_at m'.store n) (go' n))
        above_by_cases None e f = traps Nil _
        above_by_cases (Some y) e f =
            let e' : object_at m'.store n ≡ Some y = A.frozen n y f.0 e (not-true y.mutable (sym (ap is_frozen e) ∙ f.1)) in
            subst (λ w. Good (go n y) (or_trap Nil w (go' n))) (sym e') (each n y e')

    -- what an instruction reads is its own, or an ancestor's
    reading : (r : Option Name) (go go' : Name → Object → Effect) → (owns m.tasks u r || is_frozen_above m u r) ≡ true → ((n : Name) (y : Object) → r ≡ Some n → own l n ≡ u → object_at m.store n ≡ Some y → Good (go n y) (go' n y))
        → ((n : Name) (y : Object) → object_at m'.store n ≡ Some y → Good (go n y) (go' n y)) → Good (with_object m.store r go) (with_object m'.store r go')
    reading r go go' h each each' = elim (or_cases (owns m.tasks u r) (is_frozen_above m u r) h) [
      | inl own ↦ object r go go' (mine r own) each
      | inr up ↦ above r go go' up each'
    ]

    abbrev entered : ℕ → Task
    entered g = record x { top = entry_frame g x.top; below = x.below ++ onward x.top ∷ [] }

    called_on : (g : ℕ) (b : Bool) → is_none (cond b (with_task m u (entered g)) (ended_by m (Trapped Depth u line))).end ≡ true
        → Both (cond b (with_task m u (entered g)) (ended_by m (Trapped Depth u line))) (cond b (with_task m' u (entered g)) (ended_by m' (Trapped Depth u line)))
    called_on g true h = record { task = entered g; store = m.store; store' = m'.store; is = refl; is' = refl; parent = refl; status = refl; change = inl (refl, refl) }
    called_on g false h = absurd (false≢true h)

    returned_on : (o : Option Frame) (f : Frame) → o ≡ Some f → Both (returned_to m u x o) (returned_to m' u x o)
    returned_on None f e = absurd cc
    returned_on (Some g) f e = record { task = record x { top = back_in g x.top; below = front_of x.below }; store = m.store; store' = m'.store; is = refl; is' = refl; parent = refl; status = refl; change = inl (refl, refl) }

    good : (instr : Instr) → is_open x instr ≡ false → works_alone m u x.top instr ≡ true → Good (effect s x.top m.store instr) (effect s' x.top m'.store instr)
    good (Set d k) c h = store_unchanged _
    good (Mov d a) c h = store_unchanged _
    good (Movr d a) c h = store_unchanged _
    good (NilOf d) c h = store_unchanged _
    good (Calc op d a b) c h = trap Div (calculated op (int_in x.top a) (int_in x.top b)) _ _ (λ y. store_unchanged _)
    good (Same d a b) c h = store_unchanged _
    good (Jmp to) c h = store_unchanged _
    good (Jz a to) c h = store_unchanged _
    good (Newm d a b) c h =
        subst (λ k. Good (effect s x.top m.store (Newm d a b)) (or_trap Size (counts_in k (int_in x.top a) (int_in x.top b)) (λ n. made s' x.top m'.store d (record { strand = s.strand; mutable = true; refs = replicate n.0 None; ints = replicate n.1 (pos 0) })))) (sym A.limit)
        (trap Size (counts_in m.field_limit (int_in x.top a) (int_in x.top b)) _ _ (λ n. new d _))
    good (Pack d r i) c h = new d _
    good (Getr d o k) c h =
        reading (ref_in x.top o) _ _ h (λ n y e own e'. trap Range (place_in (length y.refs) (int_in x.top k)) _ _ (λ at. reads o n y d at e own e'))
        (λ n y e'. trap Range (place_in (length y.refs) (int_in x.top k)) _ _ (λ at. reads_frozen n y d at e'))
    good (Geti d o k) c h =
        reading (ref_in x.top o) _ _ h (λ n y e own e'. trap Range (place_in (length y.ints) (int_in x.top k)) _ _ (λ at. store_unchanged _)) (λ n y e'. trap Range (place_in (length y.ints) (int_in x.top k)) _ _ (λ at. store_unchanged _))
    good (Putr o k v) c h = object (ref_in x.top o) _ _ (mine _ (or_false _ h)) (λ n y e own e'. trap Range (place_in (length y.refs) (int_in x.top k)) _ _ (λ at. either y.mutable _ (Traps Frozen) _ (Traps Frozen) (put _ n y _ own e') (traps Frozen (Traps Frozen))))
    good (Puti o k v) c h = object (ref_in x.top o) _ _ (mine _ (or_false _ h)) (λ n y e own e'. trap Range (place_in (length y.ints) (int_in x.top k)) _ _ (λ at. either y.mutable _ (Traps Frozen) _ (Traps Frozen) (put _ n y _ own e') (traps Frozen (Traps Frozen))))
    good (Cntr d o) c h = reading (ref_in x.top o) _ _ h (λ n y e own e'. store_unchanged _) (λ n y e'. store_unchanged _)
    good (Cnti d o) c h = reading (ref_in x.top o) _ _ h (λ n y e own e'. store_unchanged _) (λ n y e'. store_unchanged _)
    good (Freeze o) c h =
        object (ref_in x.top o) _ _ (mine _ (or_false _ h)) (λ n y e own e'.
        subst (λ k. Good (cond (owner_of m.tasks n.task == u) (Goes (onward x.top) (put_object m.store n (record y { mutable = false }))) (Traps Frozen)) (cond (k == u) (Goes (onward x.top) (put_object m'.store n (record y { mutable = false }))) (Traps Frozen)))
        (own ∙ sym (A.owned n own))
        (either (owner_of m.tasks n.task == u) _ (Traps Frozen) _ (Traps Frozen) (put _ n y _ own e') (traps Frozen (Traps Frozen))))
    good (Cas d o k e v) c h =
        object (ref_in x.top o) _ _ (mine _ (or_false _ h)) (λ n y is own e'. trap Range (place_in (length y.refs) (int_in x.top k)) _ _ (λ at.
        either y.mutable _ (Traps Frozen) _ (Traps Frozen) (either (same_name (option_flatten (slice_get y.refs at)) (ref_in x.top e)) _ _ _ _ (put _ n y _ own e') (store_unchanged _)) (traps Frozen (Traps Frozen))))
    good (Call g) c h = called_on g (nat_lt (length x.below + 1) frame_limit)
    good (Par f g) c h = absurd (false≢true (sym c))
    good Ret c h = λ e. let r = last_caller x.below c in returned_on (last_of x.below) r.0 r.1
    good (Out a) c h = absurd (false≢true (sym c))

  -- ONE STEP

  module _ (p : ProgramText) (can : can_step m u ≡ true) (private : is_private p m u ≡ true) where
    can' : can_step m' u ≡ true
    can' = ap₂ (λ e o. goes_on e (is_running o)) A.end A.task ∙ can

    line_both : (o : Option Line) → fetched p x.top ≡ o → is_private_line p m u x o ≡ true → Both (step p m u) (step p m' u)
    line_both None il h = absurd (false≢true h)
    line_both (Some line) il h =
        let a = and_parts (not (is_open x line.instr)) (works_alone m u x.top line.instr && is_none (step p m u).end) h in
        let b = and_parts (works_alone m u x.top line.instr) (is_none (step p m u).end) a.1 in
        let e = step_taken p m u x line can at_u il in
        let e' = step_taken p m' u x line can' at_u' il in
        subst (λ k. Both k (step p m' u)) (sym e) (subst (Both (follow m u x line.number (effect s x.top m.store line.instr))) (sym e')
        (good line.number line.instr (not-true (is_open x line.instr) a.0) b.0 (ap (λ (k : MachineState). is_none k.end) (sym e) ∙ b.1)))

    pub both : Both (step p m u) (step p m' u)
    both = line_both (fetched p x.top) refl (ap (is_private_by p m u) (sym at_u) ∙ private)

    ends' : is_none (step p m' u).end ≡ true
    ends' = ap (λ (k : MachineState). is_none k.end) both.is' ∙ (ap is_none A.end ∙ going m.end (is_running (slice_get m.tasks u)) can)
      where
        going : (o : Option End) (r : Bool) → goes_on o r ≡ true → is_none o ≡ true
        going None r h = refl
        going (Some e) r h = absurd (false≢true h)

    owns' : (r : Option Name) → owns m.tasks u r ≡ true → owns m'.tasks u r ≡ true
    owns' None h = refl
    owns' (Some n) h = eq-eqb (owner_of m'.tasks n.task) u (A.owned n (eqb-true (owner_of m.tasks n.task) u h))

    frozen' : (r : Option Name) → is_frozen_above m u r ≡ true → is_frozen_above m' u r ≡ true
    frozen' None h = h
    frozen' (Some n) h = frozen_by_cases (object_at m.store n) refl (and_parts (is_on_path m.tasks (owner_of m.tasks n.task) u) (is_frozen (object_at m.store n)) h)
      where
        frozen_by_cases : (o : Option Object) → object_at m.store n ≡ o → (is_on_path m.tasks (owner_of m.tasks n.task) u ≡ true) × (is_frozen (object_at m.store n) ≡ true) → is_frozen_above m' u (Some n) ≡ true
        frozen_by_cases None e f = absurd (false≢true (sym (ap is_frozen e) ∙ f.1))
        frozen_by_cases (Some y) e f =
            and_from (is_on_path m'.tasks (owner_of m'.tasks n.task) u) (is_frozen (object_at m'.store n)) (A.above n f.0)
            (ap is_frozen (A.frozen n y f.0 e (not-true y.mutable (sym (ap is_frozen e) ∙ f.1))) ∙ (sym (ap is_frozen e) ∙ f.1))

    alone' : (i : Instr) → works_alone m u x.top i ≡ true → works_alone m' u x.top i ≡ true
    alone' i h = elim (or_cases (owns m.tasks u (touched x.top i)) (is_read i && is_frozen_above m u (touched x.top i)) h) [
      | inl a ↦ or_left (owns m'.tasks u (touched x.top i)) (is_read i && is_frozen_above m' u (touched x.top i)) (owns' (touched x.top i) a)
      | inr b ↦
          let c = and_parts (is_read i) (is_frozen_above m u (touched x.top i)) b in
          or_right (owns m'.tasks u (touched x.top i)) (is_read i && is_frozen_above m' u (touched x.top i)) (and_from (is_read i) (is_frozen_above m' u (touched x.top i)) c.0 (frozen' (touched x.top i) c.1))
    ]

    line_private : (o : Option Line) → is_private_line p m u x o ≡ true → is_private_line p m' u x o ≡ true
    line_private None h = h
    line_private (Some line) h =
        let a = and_parts (not (is_open x line.instr)) (works_alone m u x.top line.instr && is_none (step p m u).end) h in
        let b = and_parts (works_alone m u x.top line.instr) (is_none (step p m u).end) a.1 in
        and_from (not (is_open x line.instr)) (works_alone m' u x.top line.instr && is_none (step p m' u).end) a.0 (and_from (works_alone m' u x.top line.instr) (is_none (step p m' u).end) (alone' line.instr b.0) ends')

    pub private' : is_private p m' u ≡ true
    private' = ap (is_private_by p m' u) at_u' ∙ line_private (fetched p x.top) (ap (is_private_by p m u) (sym at_u) ∙ private)

    -- AFTER THE STEP

    abbrev k : Ledger
    k = task_step p l u

    abbrev k' : Ledger
    k' = task_step p l' u

    now : k.machine ≡ record m { tasks = slice_set m.tasks u both.task; store = both.store }
    now = task_step_machine p l u ∙ both.is

    now' : k'.machine ≡ record m' { tasks = slice_set m'.tasks u both.task; store = both.store' }
    now' = task_step_machine p l' u ∙ both.is'

    stays : (n : Name) → own k n ≡ own l n
    stays n = (private_alone p l u private K.sound).tree.owners n.task

    stays' : (n : Name) → own k' n ≡ own l' n
    stays' n = (private_alone p l' u private' K'.sound).tree.owners n.task

    own_self : owner_of m.tasks u ≡ u
    own_self = owner_here (parents m.tasks) (joined m.tasks) u u (ap is_joined at_u ∙ ap is_over (runs_is x.status run))

    row_is_in_store : (row : List Object) × (slice_get m.store u ≡ Some row)
    row_is_in_store = row_there l u x K.rows at_u

    there' : (row : List Object) × (slice_get m'.store u ≡ Some row)
    there' = row_there l' u x K'.rows at_u'

    row_same : there'.0 ≡ row_is_in_store.0
    row_same =
        same_items row_is_in_store.0 there'.0 (ap (λ r. length (row_of r)) (sym there'.1) ∙ (A.count ∙ ap (λ r. length (row_of r)) row_is_in_store.1))
        (λ c. ap (λ r. slice_get (row_of r) c) (sym there'.1) ∙ (A.store (record { task = u; count = c }) own_self ∙ ap (λ r. slice_get (row_of r) c) row_is_in_store.1))

    count_by : (st st' : List (List Object)) → Change st st' → length (row_of (slice_get st' u)) ≡ length (row_of (slice_get st u))
    count_by st st' (inl e) = ap (λ z. length (row_of (slice_get z u))) e.1 ∙ (A.count ∙ ap (λ z. length (row_of (slice_get z u))) (sym e.0))
    count_by st st' (inr (inl c)) =
        ap (λ z. length (row_of (slice_get z u))) c.2
        ∙ (ap (λ r. length (row_of r)) (got_same m'.store u there'.0 (row_of (slice_get m'.store u) ++ c.0 ∷ []) there'.1)
        ∙ (ap (λ r. length (row_of r ++ c.0 ∷ [])) there'.1 ∙ (ap (λ r. length (r ++ c.0 ∷ [])) row_same ∙ (ap (λ r. length (row_of r ++ c.0 ∷ [])) (sym row_is_in_store.1)
        ∙ (ap (λ r. length (row_of r)) (sym (got_same m.store u row_is_in_store.0 (row_of (slice_get m.store u) ++ c.0 ∷ []) row_is_in_store.1)) ∙ ap (λ z. length (row_of (slice_get z u))) (sym c.1))))))
    count_by st st' (inr (inr c)) =
        ap (λ z. length (row_of (slice_get z u))) c.5 ∙ (put_rows m'.store c.0 c.1 u ∙ (A.count ∙ (sym (put_rows m.store c.0 c.1 u) ∙ ap (λ z. length (row_of (slice_get z u))) (sym c.4))))

    store_by : (st st' : List (List Object)) → Change st st' → (n : Name) → own l n ≡ u → object_at st' n ≡ object_at st n
    store_by st st' (inl e) n h = ap (λ z. object_at z n) e.1 ∙ (A.store n h ∙ ap (λ z. object_at z n) (sym e.0))
    store_by st st' (inr (inl c)) n h = ap (λ z. object_at z n) c.2 ∙ (made ∙ ap (λ z. object_at z n) (sym c.1))
      where
        made : object_at (slice_set m'.store u (row_of (slice_get m'.store u) ++ c.0 ∷ [])) n ≡ object_at (slice_set m.store u (row_of (slice_get m.store u) ++ c.0 ∷ [])) n
        made = elim (cases_eq n.task u) [
          | inl e ↦ made_at m'.store u there'.0 c.0 n there'.1 e ∙ (ap (λ r. slice_get (r ++ c.0 ∷ []) n.count) row_same ∙ sym (made_at m.store u row_is_in_store.0 c.0 n row_is_in_store.1 e))
          | inr ne ↦
              ap (λ r. slice_get (row_of r) n.count) (got_other m'.store u n.task (row_of (slice_get m'.store u) ++ c.0 ∷ []) ne)
              ∙ (A.store n h ∙ ap (λ r. slice_get (row_of r) n.count) (sym (got_other m.store u n.task (row_of (slice_get m.store u) ++ c.0 ∷ []) ne)))
        ]
    store_by st st' (inr (inr c)) n h = ap (λ z. object_at z n) c.5 ∙ (written ∙ ap (λ z. object_at z n) (sym c.4))
      where
        written : object_at (put_object m'.store c.0 c.1) n ≡ object_at (put_object m.store c.0 c.1) n
        written = elim (name_cases n c.0) [
          | inl e ↦
              ap (object_at (put_object m'.store c.0 c.1)) e
              ∙ (put_here m'.store c.0 c.3.0 c.1 (A.store c.0 c.2 ∙ c.3.1) ∙ (sym (put_here m.store c.0 c.3.0 c.1 c.3.1) ∙ ap (object_at (put_object m.store c.0 c.1)) (sym e)))
          | inr ne ↦ put_other m'.store c.0 c.1 n ne ∙ (A.store n h ∙ sym (put_other m.store c.0 c.1 n ne))
        ]

    pub asked_same : asked p m' u ≡ asked p m u
    asked_same =
        ap (asked_by p m') at_u' ∙ (ap (λ f. cond (is_running (Some x)) (asked_line f x.top (fetched p x.top)) None) A.limit ∙ sym (ap (asked_by p m) at_u))

    alloc_by : (o : Option ℕ) → slice_get (allocated_by l' u o).heaps u ≡ slice_get (allocated_by l u o).heaps u
    alloc_by None = A.heap
    alloc_by (Some w) =
        with_at l' u _ ∙ (ap₂ (λ j h. heap_then (λ z. with_allocation z (record { task = u; count = j }) w) h) A.count A.heap ∙ sym (with_at l u _))

    heap_same : slice_get k'.heaps u ≡ slice_get k.heaps u
    heap_same =
        heap_after p l' u private'
        ∙ (ap₂ (λ b o. cond b (slice_get (allocated_by l' u o).heaps u) (slice_get l'.heaps u)) (can' ∙ sym can) asked_same
        ∙ (ap₂ (cond (can_step m u)) (alloc_by (asked p m u)) A.heap ∙ sym (heap_after p l u private)))

    store_then : (n : Name) → own k n ≡ u → object_at k'.machine.store n ≡ object_at k.machine.store n
    store_then n h = ap (λ (z : MachineState). object_at z.store n) now' ∙ (store_by both.store both.store' both.change n (sym (stays n) ∙ h) ∙ sym (ap (λ (z : MachineState). object_at z.store n) now))

    -- paths and owners are unchanged
    up : (n : Name) → is_on_path k.machine.tasks (own k n) u ≡ is_on_path l.machine.tasks (own l n) u
    up n = (private_alone p l u private K.sound).tree.paths (own k n) u ∙ ap (λ a. is_on_path l.machine.tasks a u) (stays n)

    up' : (n : Name) → is_on_path k'.machine.tasks (own k' n) u ≡ is_on_path l'.machine.tasks (own l' n) u
    up' n = (private_alone p l' u private' K'.sound).tree.paths (own k' n) u ∙ ap (λ a. is_on_path l'.machine.tasks a u) (stays' n)

    pub alike_step : AlikeFor u k k'
    alike_step = record {
      limit = ap (λ (z : MachineState). z.field_limit) now' ∙ (A.limit ∙ sym (ap (λ (z : MachineState). z.field_limit) now));
      end = ap (λ (z : MachineState). z.end) now' ∙ (A.end ∙ sym (ap (λ (z : MachineState). z.end) now));
      task = ap (λ (z : MachineState). slice_get z.tasks u) now' ∙ (got_same m'.tasks u x both.task at_u' ∙ (sym (got_same m.tasks u x both.task at_u) ∙ sym (ap (λ (z : MachineState). slice_get z.tasks u) now)));
      heap = heap_same;
      count = ap (λ (z : MachineState). length (row_of (slice_get z.store u))) now' ∙ (count_by both.store both.store' both.change ∙ sym (ap (λ (z : MachineState). length (row_of (slice_get z.store u))) now));
      owned = λ n h. stays' n ∙ A.owned n (sym (stays n) ∙ h);
      owned' = λ n h. stays n ∙ A.owned' n (sym (stays' n) ∙ h);
      store = store_then;
      above = λ n h. up' n ∙ A.above n (sym (up n) ∙ h);
      frozen = λ n y h e f. elim (cases_eq (own l n) u) [
        | inl mine ↦ store_then n (stays n ∙ mine) ∙ e
        | inr ne ↦
            (private_alone p l' u private' K'.sound).store n (λ z. ne (A.owned' n z))
            ∙ A.frozen n y (sym (up n) ∙ h) (sym ((private_alone p l u private K.sound).store n ne) ∙ e) f
      ];
    }

    pub goes_running : (y : Task) × (slice_get k.machine.tasks u ≡ Some y) × (is_running (Some y) ≡ true)
    goes_running = (both.task, ap (λ (z : MachineState). slice_get z.tasks u) now ∙ got_same m.tasks u x both.task at_u, ap runs both.status ∙ run)

    pub goes_can : can_step k.machine u ≡ true
    goes_can = ap (λ (z : MachineState). can_step z u) now ∙ (ap (λ o. goes_on m.end (is_running o)) (got_same m.tasks u x both.task at_u) ∙ (ap (goes_on m.end) (ap runs both.status) ∙ (ap (λ o. goes_on m.end (is_running o)) (sym at_u) ∙ can)))

    rows_by : (st st' : List (List Object)) → Change st st' → length st ≡ length m.store
    rows_by st st' (inl e) = ap length e.0
    rows_by st st' (inr (inl c)) = ap length c.1 ∙ length-set m.store u (row_of (slice_get m.store u) ++ c.0 ∷ [])
    rows_by st st' (inr (inr c)) = ap length c.4 ∙ length-set m.store c.0.task (slice_set (row_of (slice_get m.store c.0.task)) c.0.count c.1)

    pub goes_rows : length k.machine.store ≡ length k.machine.tasks
    goes_rows =
        ap (λ (z : MachineState). length z.store) now ∙ (rows_by both.store both.store' both.change ∙ (K.rows ∙ (sym (length-set m.tasks u both.task) ∙ sym (ap (λ (z : MachineState). length z.tasks) now))))

pub alike_self : (u : ℕ) (l : Ledger) → AlikeFor u l l
alike_self u l = record { limit = refl; end = refl; task = refl; heap = refl; count = refl; owned = λ n h. h; owned' = λ n h. h; store = λ n h. refl; above = λ n h. h; frozen = λ n y h e f. e }
