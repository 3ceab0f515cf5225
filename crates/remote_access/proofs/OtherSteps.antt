-- What the next step of a part does in the machine, if it works on an object that another task owns.
use Rattle.remote_access.proofs.Common.{◌≡◌, ℕ, ℤ, pos, ◌==◌, Bool, true, false, cond, Option, Some, None, List, length, slice_get, slice_set, unwrap_or, inl, inr, refl, ap, ap₂, sym, subst, ◌∙◌, option_flatten, cases_eq, cond-false, cond-true, ne_eqb, Instr, Set, Mov, Movr, Nil as NilOf, Calc, Same, Jmp, Jz, Newm, Pack, Getr, Geti, Putr, Puti, Cntr, Cnti, Freeze, Cas, Call, Par, Ret, Out, Line, Frame, Name, Object, MachineState, Task, Trap, Range, Frozen as FrozenTrap, Effect, Goes, Stops as StopsBy, Traps as TrapsBy, effect, int_in, object_at, onward, or_trap, place_in, put_object, read_effect, ref_in, same_name, unless_frozen, with_object, refs_of, precedes, can_step, fetched, follow, is_running, runs, setting, step, strand_of, IsStored, Closed, at_in, named_from_in, seen, step_taken, run_stored, Ledger, task_steps, touched, Addr, Cell, cell_of, same_reference, node_on_path as tree_path, Rests, own, rested, JustReads, In, Memory, with_belongings, ReadsReference, LiesWithOwner, field_of, Private, int_of, ref_of, SharedValue, accounts, value_of, IsSharedValue, WorkerPartFits, belongings_of_part, refs_long, OtherStep, SetsNumber, SetsReference, StoresReference, Swaps, StoresNumber, ReadsTo, SaysOther, object_named, or_frozen, or_range, other_step, reads_into, swaps, yields}
use Rattle.step_commit.specs.below.hh_model.{Nil as NilTrap, with_int, with_ref, goes_on, owner_of}
use Rattle.step_commit.proofs.below.core_invariant.PartFitsMachine as link
use Rattle.remote_access.specs.declared.other.OtherStep.TheVariants.{Stops, Traps}
use Rattle.remote_access.proofs.ForeignObject.{IsForeign, holds, number_at, register_at, x}
use Rattle.remote_access.proofs.TreePaths.{paths_same}
use Rattle.remote_access.proofs.ForeignAddresses.{tests_same}

module _ (w : SharedValue) (k : ℕ) (p : Private) (I : IsSharedValue w) (F : WorkerPartFits w k p) (on : (accounts w).end ≡ None) where
  abbrev t : ℕ
  t = p.task

  abbrev l : Ledger
  l = accounts w

  abbrev v' : Memory
  v' = with_belongings (value_of w) t (belongings_of_part p)

  abbrev L : Ledger
  L = rested (task_steps w.program l t p.fresh) t

  abbrev m : MachineState
  m = L.machine

  abbrev X : Task
  X = x w k p I F on

  abbrev top : Frame
  top = X.top

  abbrev place : Name → Addr → Type 0
  place = LiesWithOwner v' L

  task_is_in_machine : slice_get m.tasks t ≡ Some X
  task_is_in_machine = link.task_is_in_machine w k p I F on

  running : is_running (Some X) ≡ true
  running = ap runs (link.run_status w k p I F on)

  goes : m.end ≡ None
  goes = ap (λ (z : MachineState). z.end) (link.machine_is w k p I F on) ∙ ((link.A w k p I F on).goes ∙ link.goes w k p I F on)

  can : can_step m t ≡ true
  can = ap₂ (λ e o. goes_on e (is_running o)) goes task_is_in_machine ∙ running

  -- the store has each object that is named
  stored : Closed m.tasks m.store (IsStored m)
  stored =
      let R = (link.first_fits w k p I F on).reached in
      subst (λ (z : MachineState). Closed z.tasks z.store (IsStored z)) (sym R.2) (run_stored w.program R.0 R.1)

  -- what a register holds belongs to a task that rests
  register_rests : (o : ℕ) (n : Name) → ref_in top o ≡ Some n → Rests L (own L n)
  register_rests o n e = elim (cases_eq (own L n) t) [
    | inl q ↦ subst (Rests L) (sym q) (link.at_rest w k p I F on)
    | inr ne ↦ link.rests_then w k p I F on (own L n) ne (link.rests_above w k p I F on (own L n) ne ((link.sound w k p I F on).apart.of_task t X n task_is_in_machine (holds w k p I F on o n e)).1)
  ]

  module _ (line : Line) (at : fetched w.program top ≡ Some line) (n : Name) (a : Addr) (O : IsForeign w v' L t n a) (touches : touched top line.instr ≡ Some n) (lies : object_named p.frames.top line.instr ≡ Some a) where
    abbrev c : Cell
    c = cell_of O.rest.heap.chunks a

    abbrev q : Object
    q = O.object

    abbrev Says : OtherStep → Type 0
    Says = SaysOther w.program place p m t X line

    abbrev does : Instr → Effect
    does i = effect (setting m t X) top m.store i

    taken : (i : Instr) → line.instr ≡ i → (e : Effect) → does i ≡ e → step w.program m t ≡ follow m t X line.number e
    taken i e w' h = step_taken w.program m t X line can task_is_in_machine at ∙ (ap (λ j. follow m t X line.number (does j)) e ∙ ap (follow m t X line.number) h)

    trap : (i : Instr) → line.instr ≡ i → (kind : Trap) → does i ≡ TrapsBy kind → Says (Traps kind)
    trap i e kind h = taken i e (TrapsBy kind) h

    -- ---- ITS OBJECT
    named : (i : Instr) → line.instr ≡ i → touched top i ≡ Some n
    named i e = ap (touched top) (sym e) ∙ touches

    lies_at : (i : Instr) → line.instr ≡ i → object_named p.frames.top i ≡ Some a
    lies_at i e = ap (object_named p.frames.top) (sym e) ∙ lies

    object_is : (r : Option Name) → r ≡ Some n → (go : Name → Object → Effect) → with_object m.store r go ≡ go n q
    object_is r e go = ap (λ z. with_object m.store z go) e ∙ ap (λ z. or_trap NilTrap z (go n)) O.is

    refs_index : (j : ℕ) → place_in (length c.refs) (int_of p.frames.top j) ≡ place_in (length q.refs) (int_in top j)
    refs_index j = ap₂ place_in (refs_long place c.refs q.refs O.refs) (number_at w k p I F on j)

    ints_index : (j : ℕ) → place_in (length c.ints) (int_of p.frames.top j) ≡ place_in (length q.ints) (int_in top j)
    ints_index j = ap₂ place_in (ap length O.ints) (number_at w k p I F on j)

    -- ---- STEPS THAT CAN FAIL
    range : (i : Instr) → line.instr ≡ i → (go : ℕ → Effect) (r : Option ℕ) (act : ℕ → OtherStep) → does i ≡ or_trap Range r go → ((j : ℕ) → r ≡ Some j → does i ≡ go j → Says (act j)) → Says (or_range r act)
    range i e go None act h rest = trap i e Range h
    range i e go (Some j) act h rest = rest j refl h

    frozen : (i : Instr) → line.instr ≡ i → (go : Effect) (b : Bool) (act : OtherStep) → does i ≡ cond b go (TrapsBy FrozenTrap) → (b ≡ true → does i ≡ go → Says act) → Says (cond b act (Traps FrozenTrap))
    frozen i e go true act h rest = rest refl h
    frozen i e go false act h rest = trap i e FrozenTrap h

    -- it reads
    reads : (i : Instr) → line.instr ≡ i → (f : Frame) → JustReads X i q f → does i ≡ Goes f m.store → ReadsTo m t X line f
    reads i e f just goes' = record { name = n; object = q; touches = touches; is = O.is; reads = subst (λ z. JustReads X z q f) (sym e) just; does = ap does e ∙ goes' }

    -- ---- A REFERENCE IS READ
    module _ (d o j : ℕ) (e : line.instr ≡ Getr d o j) where
      path_by : (b : Addr) (y : Name) (y' : Object) → place y b → object_at m.store y ≡ Some y' → does (Getr d o j) ≡ read_effect (setting m t X) top m.store d (Some y)
          → (on_path : Bool) → tree_path w.tree (own L y) t ≡ on_path → Says (cond on_path (SetsReference d (Some b)) (Stops (own L y)))
      path_by b y y' h there h' on_path is_path = path_by_cases on_path (path_by_same ∙ is_path)
        where
          path_by_same : precedes m.edges y'.strand (strand_of t X) ≡ tree_path w.tree (own L y) t
          path_by_same = seen m (link.sound w k p I F on).fork_join t X y y' task_is_in_machine running there ∙ ((link.alone w k p I F on).tree.paths (own L y) t ∙ sym (paths_same w I on (own L y) t))

          effect_is : (b' : Bool) → precedes m.edges y'.strand (strand_of t X) ≡ b' → does (Getr d o j) ≡ cond b' (Goes (onward (with_ref top d (Some y))) m.store) (StopsBy y)
          effect_is b' z =
              h' ∙ (ap (λ r. or_trap NilTrap r (λ (s : Object). cond (precedes m.edges s.strand (strand_of t X)) (Goes (onward (with_ref top d (Some y))) m.store) (StopsBy y))) there
              ∙ ap (λ r. cond r (Goes (onward (with_ref top d (Some y))) m.store) (StopsBy y)) z)

          path_by_cases : (b' : Bool) → precedes m.edges y'.strand (strand_of t X) ≡ b' → Says (cond b' (SetsReference d (Some b)) (Stops (own L y)))
          path_by_cases true z = (Some y, reads (Getr d o j) e (onward (with_ref top d (Some y))) tt (effect_is true z), h)
          path_by_cases false z = taken (Getr d o j) e (StopsBy y) (effect_is false z)

      read_by : (r : Option Addr) (z : Option Name) → ReadsReference place r z → ((y : Name) → z ≡ Some y → In q.refs (Some y)) → does (Getr d o j) ≡ read_effect (setting m t X) top m.store d z → Says (reads_into w.tree w.pool t d r)
      read_by None None h from h' = (None, reads (Getr d o j) e (onward (with_ref top d None)) tt h', tt)
      read_by None (Some y) h from h' = absurd h
      read_by (Some b) None h from h' = absurd h
      read_by (Some b) (Some y) h from h' =
          let s = stored.of_object n y (q, O.is) (subst (λ r. In (refs_of r) y) (sym O.is) (named_from_in q.refs y (from y refl))) in
          subst (λ r. Says (yields w.tree t d b r)) (sym h.chunk) (path_by b y s.0 h s.1 h' (tree_path w.tree (own L y) t) refl)

    none : {A : Type 0} → ◌≡◌ {A = Option Name} None (Some n) → A
    none h = absurd cc

    -- ---- A COMPARE AND SWAP
    swap_by : (d o j f b : ℕ) → line.instr ≡ Cas d o j f b → (i : ℕ) → place_in (length q.refs) (int_in top j) ≡ Some i → q.mutable ≡ true → (s : Bool) → same_name (option_flatten (slice_get q.refs i)) (ref_in top f) ≡ s
        → does (Cas d o j f b) ≡ cond (same_name (option_flatten (slice_get q.refs i)) (ref_in top f)) (Goes (onward (with_int top d (pos 1))) (put_object m.store n (record q { refs = slice_set q.refs i (ref_in top b) }))) (Goes (onward (with_int top d (pos 0))) m.store)
        → Says (cond s (Swaps d a i (ref_of p.frames.top b)) (SetsNumber d (pos 0)))
    swap_by d o j f b e i found may true same h =
        (o, j, f, b, e, lies_at (Cas d o j f b) e, record { name = n; object = q; named = named (Cas d o j f b) e; is = O.is; place = found; frame = _; store = _; does = ap does e ∙ (h ∙ cond-true (same_name (option_flatten (slice_get q.refs i)) (ref_in top f)) (Goes (onward (with_int top d (pos 1))) (put_object m.store n (record q { refs = slice_set q.refs i (ref_in top b) }))) (Goes (onward (with_int top d (pos 0))) m.store) same) }, same, refl)
    swap_by d o j f b e i found may false same h =
        reads (Cas d o j f b) e (onward (with_int top d (pos 0))) (i, found, may, same, refl)
        (h ∙ cond-false (same_name (option_flatten (slice_get q.refs i)) (ref_in top f)) (Goes (onward (with_int top d (pos 1))) (put_object m.store n (record q { refs = slice_set q.refs i (ref_in top b) }))) (Goes (onward (with_int top d (pos 0))) m.store) same)

    -- ---- BY THE INSTRUCTION
    says : (i : Instr) → line.instr ≡ i → Says (other_step w.tree w.pool p a c i)
    says (Getr d o j) e =
        range (Getr d o j) e (λ i. read_effect (setting m t X) top m.store d (option_flatten (slice_get q.refs i))) (place_in (length c.refs) (int_of p.frames.top j)) (λ i. reads_into w.tree w.pool t d (unwrap_or (slice_get c.refs i) None))
        (object_is (ref_in top o) (named (Getr d o j) e) _ ∙ ap (λ r. or_trap Range r (λ i. read_effect (setting m t X) top m.store d (option_flatten (slice_get q.refs i)))) (sym (refs_index j)))
        (λ i found h. read_by d o j e (unwrap_or (slice_get c.refs i) None) (option_flatten (slice_get q.refs i)) (field_of place c.refs q.refs i O.refs) (λ y z. at_in q.refs i y z) h)
    says (Geti d o j) e =
        range (Geti d o j) e (λ i. Goes (onward (with_int top d (unwrap_or (slice_get q.ints i) (pos 0)))) m.store) (place_in (length c.ints) (int_of p.frames.top j)) (λ i. SetsNumber d (unwrap_or (slice_get c.ints i) (pos 0)))
        (object_is (ref_in top o) (named (Geti d o j) e) _ ∙ ap (λ r. or_trap Range r (λ i. Goes (onward (with_int top d (unwrap_or (slice_get q.ints i) (pos 0)))) m.store)) (sym (ints_index j)))
        (λ i found h. subst (λ (zs : List ℤ). Says (SetsNumber d (unwrap_or (slice_get zs i) (pos 0)))) (sym O.ints) (reads (Geti d o j) e (onward (with_int top d (unwrap_or (slice_get q.ints i) (pos 0)))) tt h))
    says (Cntr d o) e =
        subst (λ z. Says (SetsNumber d (pos z))) (sym (refs_long place c.refs q.refs O.refs)) (reads (Cntr d o) e (onward (with_int top d (pos (length q.refs)))) tt (object_is (ref_in top o) (named (Cntr d o) e) _))
    says (Cnti d o) e =
        subst (λ (zs : List ℤ). Says (SetsNumber d (pos (length zs)))) (sym O.ints) (reads (Cnti d o) e (onward (with_int top d (pos (length q.ints)))) tt (object_is (ref_in top o) (named (Cnti d o) e) _))
    says (Freeze o) e =
        trap (Freeze o) e FrozenTrap
        (object_is (ref_in top o) (named (Freeze o) e) _
        ∙ cond-false (owner_of m.tasks n.task == t) (Goes (onward top) (put_object m.store n (record q { mutable = false }))) (TrapsBy FrozenTrap) (ne_eqb (owner_of m.tasks n.task) t O.apart))
    says (Putr o j b) e =
        let go : ℕ → Effect = λ i. unless_frozen q (Goes (onward top) (put_object m.store n (record q { refs = slice_set q.refs i (ref_in top b) }))) in
        range (Putr o j b) e go (place_in (length c.refs) (int_of p.frames.top j)) (λ i. or_frozen c (StoresReference a i (ref_of p.frames.top b)))
        (object_is (ref_in top o) (named (Putr o j b) e) _ ∙ ap (λ r. or_trap Range r go) (sym (refs_index j)))
        (λ i found h. frozen (Putr o j b) e (Goes (onward top) (put_object m.store n (record q { refs = slice_set q.refs i (ref_in top b) }))) c.mutable (StoresReference a i (ref_of p.frames.top b))
        (h ∙ ap (λ z. cond z (Goes (onward top) (put_object m.store n (record q { refs = slice_set q.refs i (ref_in top b) }))) (TrapsBy FrozenTrap)) (sym O.mutable))
        (λ may h'. (o, j, b, e, lies_at (Putr o j b) e, record { name = n; object = q; named = named (Putr o j b) e; is = O.is; place = sym (refs_index j) ∙ found; frame = _; store = _; does = ap does e ∙ h' }, refl)))
    says (Puti o j b) e =
        let go : ℕ → Effect = λ i. unless_frozen q (Goes (onward top) (put_object m.store n (record q { ints = slice_set q.ints i (int_in top b) }))) in
        range (Puti o j b) e go (place_in (length c.ints) (int_of p.frames.top j)) (λ i. or_frozen c (StoresNumber a i (int_of p.frames.top b)))
        (object_is (ref_in top o) (named (Puti o j b) e) _ ∙ ap (λ r. or_trap Range r go) (sym (ints_index j)))
        (λ i found h. frozen (Puti o j b) e (Goes (onward top) (put_object m.store n (record q { ints = slice_set q.ints i (int_in top b) }))) c.mutable (StoresNumber a i (int_of p.frames.top b))
        (h ∙ ap (λ z. cond z (Goes (onward top) (put_object m.store n (record q { ints = slice_set q.ints i (int_in top b) }))) (TrapsBy FrozenTrap)) (sym O.mutable))
        (λ may h'. (o, j, b, e, lies_at (Puti o j b) e, record { name = n; object = q; named = named (Puti o j b) e; is = O.is; place = sym (ints_index j) ∙ found; frame = _; store = _; does = ap does e ∙ h' }, refl)))
    says (Cas d o j f b) e =
        let swap : ℕ → Effect = λ i. cond (same_name (option_flatten (slice_get q.refs i)) (ref_in top f)) (Goes (onward (with_int top d (pos 1))) (put_object m.store n (record q { refs = slice_set q.refs i (ref_in top b) }))) (Goes (onward (with_int top d (pos 0))) m.store) in
        range (Cas d o j f b) e (λ i. unless_frozen q (swap i)) (place_in (length c.refs) (int_of p.frames.top j)) (λ i. or_frozen c (swaps d a (unwrap_or (slice_get c.refs i) None) (ref_of p.frames.top f) i (ref_of p.frames.top b)))
        (object_is (ref_in top o) (named (Cas d o j f b) e) _ ∙ ap (λ r. or_trap Range r (λ i. unless_frozen q (swap i))) (sym (refs_index j)))
        (λ i found h. frozen (Cas d o j f b) e (swap i) c.mutable (swaps d a (unwrap_or (slice_get c.refs i) None) (ref_of p.frames.top f) i (ref_of p.frames.top b))
        (h ∙ ap (λ z. cond z (swap i) (TrapsBy FrozenTrap)) (sym O.mutable))
        (λ may h'. swap_by d o j f b e i (sym (refs_index j) ∙ found) (sym O.mutable ∙ may) (same_reference (unwrap_or (slice_get c.refs i) None) (ref_of p.frames.top f))
        (sym (tests_same v' L (link.W w k p I F on) _ _ _ _ (field_of place c.refs q.refs i O.refs) (register_at w k p I F on f) (λ z. register_rests f z))) h'))
    says (Set d z) e = none (named (Set d z) e)
    says (Mov d z) e = none (named (Mov d z) e)
    says (Movr d z) e = none (named (Movr d z) e)
    says (NilOf d) e = none (named (NilOf d) e)
    says (Calc op d y z) e = none (named (Calc op d y z) e)
    says (Same d y z) e = none (named (Same d y z) e)
    says (Jmp to) e = none (named (Jmp to) e)
    says (Jz y to) e = none (named (Jz y to) e)
    says (Newm d y z) e = none (named (Newm d y z) e)
    says (Pack d r i) e = none (named (Pack d r i) e)
    says (Call g) e = none (named (Call g) e)
    says (Par g h) e = none (named (Par g h) e)
    says Ret e = none (named Ret e)
    says (Out y) e = none (named (Out y) e)

    pub says_other : Says (other_step w.tree w.pool p a c line.instr)
    says_other = says line.instr refl
