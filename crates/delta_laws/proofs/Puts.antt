-- The deltas of a journal, put together, give its objects and outputs.
use Rattle.delta_laws.proofs.Common.{◌≡◌, ℕ, ℤ, pos, zero, suc, ◌+◌, ◌-◌, ◌==◌, Bool, true, false, cond, Option, Some, None, List, [], ◌∷◌, ◌++◌, length, slice_get, slice_set, replicate, take, inl, inr, refl, ap, sym, ◌∙◌, arith, cases_eq, false≢true, got_other, option_map, nat_lt, option_flatten, Instr, Set, Mov, Movr, Nil as NilOf, Calc, Same, Jmp, Jz, Newm, Pack, Getr, Geti, Putr, Puti, Cntr, Cnti, Freeze, Cas, Call, Par, Ret, Out, Line, ProgramText, Name, Object, Frame, Task, MachineState, Trap, Range, Frozen, Div as DivTrap, Size, Effect, Goes, Calls, Forks, Traps, Stops, effect, object_at, put_object, row_of, or_trap, with_object, made, read_effect, swap_effect, int_in, ref_in, with_int, with_ref, onward, same_name, calculated, counts_in, place_in, next_name, precedes, step, start, follow, can_step, fetched, setting, returned_to, last_return, last_of, child_ended_by, result_at, or_same, sibling, is_left, result_of, owner_of, run_from, frame_limit, depth_limit, strand_of, rows_same, put_leaves, put_here, made_here, Kind, Took, Ran, Chunk, Begin, End, PutOff, Mark, More, Sweep, Fuel, EntryValue, field_limit, is_name, tasks_in, tasks_of, same_from_is_name, is_name_itself, machine_is_run, Value, Reference, Number, Deed, Allocates, Reads, Writes, Swaps, Freezes, Change, Changes, deed, act_of, act_by, step_act_of, if_there, reference_in, number_place, born, changed_by, with_act, changes, stepped, deltas_from, delta, machine_after, after_run, Body, Seen, seen, body_of, with_field, frozen, put, put_all, put_deltas, DeltasGiveObjects}
use Rattle.hh_model.specs.declared.data.Trap.TheVariants.{Nil}
use Rattle.hh_model.specs.Step.{stepped as step_line}

abbrev sight : Option Body → List ℤ → Seen
sight object outputs = record { object = object; outputs = outputs }

-- CHANGES ONE AFTER THE OTHER

pub put_more : (n : Name) (s : Seen) (a b : List Change) → put_all n s (a ++ b) ≡ put_all n (put_all n s a) b
put_more n s [] b = refl
put_more n s (c ∷ cs) b = put_more n (put n s c) cs b

-- ONE NAME IN A STORE

by_name : {A : Type 0} (k n : Name) (x y z : A) → (is_name k n ≡ true → z ≡ x) → (is_name k n ≡ false → z ≡ y) → cond (is_name k n) x y ≡ z
by_name k n x y z here off = by_name_by_cases (is_name k n) refl
  where
    by_name_by_cases : (b : Bool) → is_name k n ≡ b → cond (is_name k n) x y ≡ z
    by_name_by_cases true e = rw e (sym (here e))
    by_name_by_cases false e = rw e (sym (off e))

off_name : (k n : Name) → is_name k n ≡ false → (n.task ≡ k.task) × (n.count ≡ k.count) → ⊥
off_name k n off h =
    let same : n ≡ k = λ i. record { task = h.0 i; count = h.1 i } in
    false≢true (sym off ∙ (ap (λ q. is_name k q) same ∙ is_name_itself k))

-- an object that is put in another's place
put_sight : (store : List (List Object)) (k n : Name) (x y : Object) (f : Body → Body) → object_at store k ≡ Some x → body_of y ≡ f (body_of x)
    → cond (is_name k n) (option_map f (option_map body_of (object_at store n))) (option_map body_of (object_at store n)) ≡ option_map body_of (object_at (put_object store k y) n)
put_sight store k n x y f is same =
    by_name k n _ _ _
    (λ e.
    let at : k ≡ n = same_from_is_name k n e in
    ap (option_map body_of) (ap (object_at (put_object store k y)) (sym at) ∙ put_here store k x y is)
    ∙ (ap Some same ∙ sym (ap (λ o. option_map f (option_map body_of o)) (ap (object_at store) (sym at) ∙ is))))
    (λ e. ap (option_map body_of) (put_leaves store k n y (off_name k n e)))

-- an object that is laid behind a row leaves the others
behind : (row : List Object) (c : ℕ) (o : Object) → (c ≡ length row → ⊥) → slice_get (row ++ o ∷ []) c ≡ slice_get row c
behind [] zero o ne = absurd (ne refl)
behind [] (suc c) o ne = refl
behind (x ∷ xs) zero o ne = refl
behind (x ∷ xs) (suc c) o ne = behind xs c o (λ e. ne (ap (λ k. suc k) e))

made_row : (store : List (List Object)) (t c : ℕ) (o : Object) → (c ≡ length (row_of (slice_get store t)) → ⊥)
    → slice_get (row_of (slice_get (slice_set store t (row_of (slice_get store t) ++ o ∷ [])) t)) c ≡ slice_get (row_of (slice_get store t)) c
made_row [] t c o ne = refl
made_row (row ∷ store) zero c o ne = behind row c o ne
made_row (row ∷ store) (suc t) c o ne = made_row store t c o ne

made_leaves : (store : List (List Object)) (t : ℕ) (n : Name) (o : Object) → ((n.task ≡ t) × (n.count ≡ length (row_of (slice_get store t))) → ⊥)
    → object_at (slice_set store t (row_of (slice_get store t) ++ o ∷ [])) n ≡ object_at store n
made_leaves store t n o ne = elim (cases_eq n.task t) [
  | inl e ↦
      ap (λ j. slice_get (row_of (slice_get (slice_set store t (row_of (slice_get store t) ++ o ∷ [])) j)) n.count) e
      ∙ (made_row store t n.count o (λ c. ne (e, c)) ∙ ap (λ j. slice_get (row_of (slice_get store j)) n.count) (sym e))
  | inr other ↦ ap (λ w. slice_get (row_of w) n.count) (got_other store t n.task (row_of (slice_get store t) ++ o ∷ []) other)
]

-- a write where nothing is changes nothing
set_absent : {A : Type 0} (xs : List A) (k : ℕ) (y : A) → slice_get xs k ≡ None → slice_set xs k y ≡ xs
set_absent [] k y e = refl
set_absent (x ∷ xs) zero y e = absurd cc
set_absent (x ∷ xs) (suc k) y e = ap (λ zs. x ∷ zs) (set_absent xs k y e)

-- ONE STEP

module _ (m : MachineState) (t : ℕ) (x : Task) (line : ℕ) (n : Name) where
  abbrev after : Effect → MachineState
  after e = follow m t x line e

  -- what the step does is what is put
  abbrev Fits : Effect → Option Deed → Type 0
  Fits e d = put_all n (seen m n) (changed_by (after e) d) ≡ seen (after e) n

  -- of what leaves objects and outputs nothing is seen
  unseen_or : {A : Type 0} (b : Option A) (go : A → MachineState) → ((y : A) → seen m n ≡ seen (go y) n) → seen m n ≡ seen (or_same m b go) n
  unseen_or None go each = refl
  unseen_or (Some y) go each = each y

  unseen_either : (b : Bool) (p q : MachineState) → seen m n ≡ seen p n → seen m n ≡ seen q n → seen m n ≡ seen (cond b p q) n
  unseen_either true p q a b = a
  unseen_either false p q a b = b

  on_place : (b : Option ℕ) (trap : Trap) (e : ℕ → Effect) (d : ℕ → Option Deed) → ((at : ℕ) → Fits (e at) (d at)) → Fits (or_trap trap b e) (if_there b d)
  on_place None trap e d each = refl
  on_place (Some at) trap e d each = each at

  on_object : (r : Option Name) (e : Name → Object → Effect) (d : Name → Object → Option Deed)
      → ((k : Name) (o : Object) → object_at m.store k ≡ Some o → Fits (e k o) (d k o)) → Fits (with_object m.store r e) (if_there r (λ k. if_there (object_at m.store k) (d k)))
  on_object None e d each = refl
  on_object (Some k) e d each = on_object_by_cases (object_at m.store k) refl
    where
      on_object_by_cases : (b : Option Object) → object_at m.store k ≡ b → Fits (or_trap Nil b (e k)) (if_there b (d k))
      on_object_by_cases None is = refl
      on_object_by_cases (Some o) is = each k o is

  on_flag : (b : Bool) (e : Effect) (trap : Trap) (d : Deed) → Fits e (Some d) → Fits (cond b e (Traps trap)) (cond b (Some d) None)
  on_flag true e trap d fits = fits
  on_flag false e trap d fits = refl

  written : (f : Frame) (k : Name) (o y : Object) (at : ℕ) (v : Value) → object_at m.store k ≡ Some o → body_of y ≡ with_field at v (body_of o)
      → Fits (Goes f (put_object m.store k y)) (Some (Writes k at v))
  written f k o y at v is same = ap (λ (b : Option Body). sight b m.outputs) (put_sight m.store k n o y (with_field at v) is same)

  froze : (f : Frame) (k : Name) (o : Object) → object_at m.store k ≡ Some o → Fits (Goes f (put_object m.store k (record o { mutable = false }))) (Some (Freezes k))
  froze f k o is = ap (λ (b : Option Body). sight b m.outputs) (put_sight m.store k n o (record o { mutable = false }) frozen is refl)

  swapped : (f : Frame) (d e v : ℕ) (k : Name) (o : Object) (at : ℕ) → object_at m.store k ≡ Some o
      → Fits (swap_effect f m.store d e v k at o) (Some (Swaps k at (ref_in f v) (same_name (reference_in o at) (ref_in f e))))
  swapped f d e v k o at is = swapped_by_cases (same_name (reference_in o at) (ref_in f e))
    where
      swapped_by_cases : (b : Bool) → Fits (cond b (Goes (onward (with_int f d (pos 1))) (put_object m.store k (record o { refs = slice_set o.refs at (ref_in f v) }))) (Goes (onward (with_int f d (pos 0))) m.store)) (Some (Swaps k at (ref_in f v) b))
      swapped_by_cases true = ap (λ (b : Option Body). sight b m.outputs) (put_sight m.store k n o (record o { refs = slice_set o.refs at (ref_in f v) }) (with_field at (Reference (ref_in f v))) is refl)
      swapped_by_cases false = refl

  read_on : (f : Frame) (d : ℕ) (k : Name) (at : ℕ) (r : Option Name) → Fits (read_effect (setting m t x) f m.store d r) (Some (Reads k at (Reference r)))
  read_on f d k at None = refl
  read_on f d k at (Some q) = read_on_by_cases (object_at m.store q)
    where
      either : (b : Bool) (o : Object) → Fits (cond b (Goes (onward (with_ref f d (Some q))) m.store) (Stops q)) (Some (Reads k at (Reference (Some q))))
      either true o = refl
      either false o = refl

      read_on_by_cases : (b : Option Object) → Fits (or_trap Nil b (λ (o : Object). cond (precedes m.edges o.strand (strand_of t x)) (Goes (onward (with_ref f d (Some q))) m.store) (Stops q))) (Some (Reads k at (Reference (Some q))))
      read_on_by_cases None = refl
      read_on_by_cases (Some o) = either (precedes m.edges o.strand (setting m t x).strand) o

  -- a new object is the last of its task's row
  abbrev laid : Object → List (List Object)
  laid o = slice_set m.store t (row_of (slice_get m.store t) ++ o ∷ [])

  allocated : (f : Frame) (o : Object) → Fits (Goes f (slice_set m.store t (row_of (slice_get m.store t) ++ o ∷ []))) (Some (Allocates (next_name t m.store)))
  allocated f o = allocated_by_cases (slice_get m.store t) refl
    where
      allocated_here : (row : List Object) → slice_get m.store t ≡ Some row → object_at (laid o) (next_name t m.store) ≡ Some o
      allocated_here row is = made_here m.store t row o is

      allocated_there : (row : List Object) → slice_get m.store t ≡ Some row → put_all n (seen m n) (born (next_name t m.store) (Some o)) ≡ seen (after (Goes f (laid o))) n
      allocated_there row is = ap (λ (b : Option Body). sight b m.outputs) (by_name (next_name t m.store) n _ _ _
          (λ e. ap (option_map body_of) (ap (object_at (laid o)) (sym (same_from_is_name (next_name t m.store) n e)) ∙ allocated_here row is))
          (λ e. ap (option_map body_of) (made_leaves m.store t n o (off_name (next_name t m.store) n e))))

      allocated_by_cases : (b : Option (List Object)) → slice_get m.store t ≡ b → Fits (Goes f (laid o)) (Some (Allocates (next_name t m.store)))
      allocated_by_cases None is =
          let same : (laid o) ≡ m.store = set_absent m.store t (row_of (slice_get m.store t) ++ o ∷ []) is in
          let none : object_at (laid o) (next_name t m.store) ≡ None = ap (λ (s : List (List Object)). object_at s (next_name t m.store)) same ∙ ap (λ (b : Option (List Object)). slice_get (row_of b) (length (row_of (slice_get m.store t)))) is in
          ap (λ (b : Option Object). put_all n (seen m n) (born (next_name t m.store) b)) none ∙ ap (λ (s : List (List Object)). sight (option_map body_of (object_at s n)) m.outputs) (sym same)
      allocated_by_cases (Some row) is = ap (λ (b : Option Object). put_all n (seen m n) (born (next_name t m.store) b)) (allocated_here row is) ∙ allocated_there row is

  -- what moves frames and tasks alone isn't seen
  calls : (g : ℕ) → Fits (Calls g) None
  calls g = unseen_either (nat_lt (length x.below + 1) frame_limit) _ _ refl refl

  forks : (g h : ℕ) → Fits (Forks g h) None
  forks g h = unseen_either (nat_lt x.depth depth_limit) _ _ (ap (λ (o : Option Object). sight (option_map body_of o) m.outputs) (sym (rows_same m.store n.task n.count))) refl

  ends : (p : ℕ) (other : Option (ℤ × Option Name)) → seen m n ≡ seen (child_ended_by m t x p (result_of x.top) other) n
  ends p None = refl
  ends p (Some other) = unseen_or (slice_get m.tasks p) _ (λ y. unseen_or (slice_get m.tasks (sibling t)) _ (λ z. unseen_either (is_left t) _ _ refl refl))

  last_ends : (b : Option ℕ) → seen m n ≡ seen (last_return m t x b) n
  last_ends None = refl
  last_ends (Some p) = ends p (result_at (slice_get m.tasks (sibling t)))

  returns_to : (b : Option Frame) → seen m n ≡ seen (returned_to m t x b) n
  returns_to (Some f) = refl
  returns_to None = last_ends x.parent

  fits : (instr : Instr) → Fits (effect (setting m t x) x.top m.store instr) (deed m t x.top instr)
  fits (Set d k) = refl
  fits (Mov d a) = refl
  fits (Movr d a) = refl
  fits (NilOf d) = refl
  fits (Calc op d a b) = fits_by_cases (calculated op (int_in x.top a) (int_in x.top b))
    where
      fits_by_cases : (b : Option ℤ) → Fits (or_trap DivTrap b (λ k. Goes (onward (with_int x.top d k)) m.store)) None
      fits_by_cases None = refl
      fits_by_cases (Some k) = refl
  fits (Same d a b) = refl
  fits (Jmp to) = refl
  fits (Jz a to) = refl
  fits (Newm d a b) = fits_by_cases (counts_in m.field_limit (int_in x.top a) (int_in x.top b))
    where
      fits_by_cases : (b : Option (ℕ × ℕ)) → Fits (or_trap Size b (λ c. made (setting m t x) x.top m.store d (record { strand = strand_of t x; mutable = true; refs = replicate c.0 None; ints = replicate c.1 (pos 0) }))) (if_there b (λ c. Some (Allocates (next_name t m.store))))
      fits_by_cases None = refl
      fits_by_cases (Some c) = allocated (onward (with_ref x.top d (Some (next_name t m.store)))) (record { strand = strand_of t x; mutable = true; refs = replicate c.0 None; ints = replicate c.1 (pos 0) })
  fits (Pack d r i) = allocated (onward (with_ref x.top d (Some (next_name t m.store)))) (record { strand = strand_of t x; mutable = false; refs = take r x.top.refs; ints = take i x.top.ints })
  fits (Getr d o k) = on_object (ref_in x.top o) _ _ (λ q b is. on_place (place_in (length b.refs) (int_in x.top k)) Range _ _ (λ at. read_on x.top d q at (option_flatten (slice_get b.refs at))))
  fits (Geti d o k) = on_object (ref_in x.top o) _ _ (λ q b is. on_place (place_in (length b.ints) (int_in x.top k)) Range _ _ (λ at. refl))
  fits (Putr o k v) = on_object (ref_in x.top o) _ _ (λ q b is. on_place (place_in (length b.refs) (int_in x.top k)) Range _ _ (λ at. on_flag b.mutable _ Frozen _ (
      written (onward x.top) q b (record b { refs = slice_set b.refs at (ref_in x.top v) }) at (Reference (ref_in x.top v)) is refl)))
  fits (Puti o k v) = on_object (ref_in x.top o) _ _ (λ q b is. on_place (place_in (length b.ints) (int_in x.top k)) Range _ _ (λ at. on_flag b.mutable _ Frozen _ (
      written (onward x.top) q b (record b { ints = slice_set b.ints at (int_in x.top v) }) (number_place b at) (Number (int_in x.top v)) is
      (let e : at ≡ (length b.refs + at) - length b.refs = omega arith in ap (λ (j : ℕ). record (body_of b) { ints = slice_set b.ints j (int_in x.top v) }) e))))
  fits (Cntr d o) = on_object (ref_in x.top o) _ _ (λ q b is. refl)
  fits (Cnti d o) = on_object (ref_in x.top o) _ _ (λ q b is. refl)
  fits (Freeze o) = on_object (ref_in x.top o) _ _ (λ q b is. on_flag (owner_of m.tasks q.task == t) _ Frozen _ (froze (onward x.top) q b is))
  fits (Cas d o k e v) = on_object (ref_in x.top o) _ _ (λ q b is. on_place (place_in (length b.refs) (int_in x.top k)) Range _ _ (λ at. on_flag b.mutable _ Frozen _ (swapped x.top d e v q b at is)))
  fits (Call g) = calls g
  fits (Par g h) = forks g h
  fits Ret = returns_to (last_of x.below)
  fits (Out a) = refl

-- STEPS, ENTRIES, JOURNALS

module _ (p : ProgramText) (n : Name) where
  -- one more step
  module _ (m : MachineState) (t : ℕ) (s : Seen) (c : Changes) (h : put_all n s c.all ≡ seen m n) where
    by_line : (x : Task) (b : Option Line) → put_all n s (with_act (step_line p m t x b) c (step_act_of m t x b)).all ≡ seen (step_line p m t x b) n
    by_line x None = h
    by_line x (Some line) =
        put_more n s c.all (changed_by (step_line p m t x (Some line)) (deed m t x.top line.instr))
        ∙ (ap (λ q. put_all n q (changed_by (step_line p m t x (Some line)) (deed m t x.top line.instr))) h
        ∙ fits m t x line.number n line.instr)

    by_task : (b : Option Task) → let q = or_same m b (λ x. step_line p m t x (fetched p x.top)) in put_all n s (with_act q c (act_by p m t b)).all ≡ seen q n
    by_task None = h
    by_task (Some x) = by_line x (fetched p x.top)

    by_can : (b : Bool) → let q = cond b (or_same m (slice_get m.tasks t) (λ x. step_line p m t x (fetched p x.top))) m in
        put_all n s (with_act q c (cond b (act_by p m t (slice_get m.tasks t)) None)).all ≡ seen q n
    by_can true = by_task (slice_get m.tasks t)
    by_can false = h

    step_put : put_all n s (with_act (step p m t) c (act_of p m t)).all ≡ seen (step p m t) n
    step_put = by_can (can_step m t)

  steps_put : (m : MachineState) (t k : ℕ) → put_all n (seen m n) (changes p m t k).all ≡ seen (stepped p m t k) n
  steps_put m t zero = refl
  steps_put m t (suc k) = step_put (stepped p m t k) t (seen m n) (changes p m t k) (steps_put m t k)

  entry_put : (m : MachineState) (kind : Kind) → put_all n (seen m n) (delta p m kind).changes.all ≡ seen (machine_after p m kind) n
  entry_put m (Took t) = refl
  entry_put m (Ran t k) = steps_put m t k
  entry_put m (Chunk t) = refl
  entry_put m (Begin t) = refl
  entry_put m (End t a g l) = refl
  entry_put m (PutOff t) = refl
  entry_put m (Mark t) = refl
  entry_put m (More t k) = refl
  entry_put m (Sweep t g) = refl
  entry_put m Fuel = refl

  run_joined : (a b : List ℕ) (m : MachineState) → run_from p m (a ++ b) ≡ run_from p (run_from p m a) b
  run_joined [] b m = refl
  run_joined (t ∷ ts) b m = run_joined ts b (step p m t)

  journal_put : (journal : List EntryValue) (m : MachineState) → put_deltas n (seen m n) (deltas_from p m journal) ≡ seen (run_from p m (tasks_of journal)) n
  journal_put [] m = refl
  journal_put (e ∷ es) m =
      ap (λ q. put_deltas n q (deltas_from p (machine_after p m e.kind) es)) (entry_put m e.kind)
      ∙ (journal_put es (machine_after p m e.kind)
      ∙ (ap (λ q. seen (run_from p q (tasks_of es)) n) (after_run p m e.kind)
      ∙ ap (λ q. seen q n) (sym (run_joined (tasks_in e.kind) (tasks_of es) m))))

-- nothing is there at the start
none_there : (t c : ℕ) → object_at ([] ∷ []) (record { task = t; count = c }) ≡ None
none_there zero c = refl
none_there (suc t) c = refl

pub deltas_give_objects : DeltasGiveObjects
deltas_give_objects p s journal n =
    ap (λ (b : Option Object). put_deltas n (sight (option_map body_of b) []) (deltas_from p (start p (field_limit s.version)) journal)) (sym (none_there n.task n.count))
    ∙ (journal_put p n journal (start p (field_limit s.version))
    ∙ ap (λ q. seen q n) (sym (machine_is_run p s journal)))
