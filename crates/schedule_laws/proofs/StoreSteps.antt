-- How a step changes the store.
use Rattle.schedule_laws.proofs.Common.{◌≡◌, ℕ, ℤ, Bool, true, false, cond, Option, Some, None, List, [], ◌∷◌, ◌++◌, slice_get, slice_set, ◌⊎◌, inl, inr, refl, ap, sym, subst, ◌∙◌, append-nil, option_flatten, cases_eq, false≢true, same_Some, In, contains_from_in, got_in, Line, ProgramText, Name, Object, Frame, Task, MachineState, Effect, Goes, Prints, Calls, Forks, Returns, Traps, Stops, effect, object_at, put_object, row_of, can_step, child_ended_by, fetched, follow, is_left, is_running, result_at, last_of, last_return, or_same, owner_of, result_of, returned_to, setting, sibling, step, NamesAreStoredIn, flat_at, made_stays, put_here, put_other, rows_stay, in_registers, names_run, runs_is, can_runs, step_idle, step_none, step_taken, Change, Same, Grows, Edits, ChangesBy, Edit, changed, edited, put_in, EffectAs, SeesSame, effect_as}

abbrev is_edit : Change → Bool
is_edit Same = false
is_edit (Grows o) = false
is_edit (Edits k e) = true

pub not_edit : (k : Name) (e : Edit) → Same ≡ Edits k e → ⊥
not_edit k e w = false≢true (ap is_edit w)

-- an object after a change: the same one, or edited
pub after_change : (op : Change) (t : ℕ) (store : List (List Object)) → ((k : Name) (e : Edit) → op ≡ Edits k e → (o : Object) × (object_at store k ≡ Some o)) → (n : Name) (old : Object) → object_at store n ≡ Some old
    → (object_at (changed op t store) n ≡ Some old) ⊎ ((e : Edit) × (op ≡ Edits n e) × (object_at (changed op t store) n ≡ Some (edited e old)))
after_change Same t store there n old is = inl is
after_change (Grows o) t store there n old is = inl (made_stays store t o n old is)
after_change (Edits k e) t store there n old is =
    let z = there k e refl in
    let put : changed (Edits k e) t store ≡ put_object store k (edited e z.0) = ap (λ w. slice_set store k.task (put_in (row_of (slice_get store k.task)) k.count e w)) z.1 in
    elim (cases_eq n.task k.task) [
      | inl et ↦ elim (cases_eq n.count k.count) [
        | inl ec ↦
            let same : n ≡ k = λ i. record { task = et i; count = ec i } in
            let o : old ≡ z.0 = same_Some old z.0 (sym is ∙ (ap (object_at store) same ∙ z.1)) in
            inr (
              e,
              ap (λ w. Edits w e) (sym same),
              ap (λ w. object_at w n) put ∙ (ap (object_at (put_object store k (edited e z.0))) same ∙ (put_here store k z.0 (edited e z.0) z.1 ∙ ap (λ w. Some (edited e w)) (sym o))),
            )
        | inr ne ↦ inl (ap (λ w. object_at w n) put ∙ put_other store k n (edited e z.0) old is (λ h. ne h.1))
      ]
      | inr ne ↦ inl (ap (λ w. object_at w n) put ∙ put_other store k n (edited e z.0) old is (λ h. ne h.0))
    ]

abbrev pub IsEmpty : List (List Object) → Type 0
IsEmpty new = (new ≡ []) ⊎ (new ≡ [] ∷ [] ∷ [])

pub behind : (new : List (List Object)) → IsEmpty new → (store : List (List Object)) (n : Name) (o : Object) → object_at store n ≡ Some o → object_at (store ++ new) n ≡ Some o
behind new (inl e) store n o is = ap (λ w. object_at (store ++ w) n) e ∙ (ap (λ w. object_at w n) (append-nil store) ∙ is)
behind new (inr e) store n o is = ap (λ w. object_at (store ++ w) n) e ∙ rows_stay store n.task n.count o is

module _ (p : ProgramText) (m : MachineState) (N : NamesAreStoredIn m) (t : ℕ) where
  pub held : (x : Task) → slice_get m.tasks t ≡ Some x → is_running (Some x) ≡ true → (n : Name) → In x.top.refs (Some n) → (o : Object) × (object_at m.store n ≡ Some o)
  held x is run n i = N.named t x n is (contains_from_in _ n (names_run x n (runs_is x.status run) (in_registers (x.top ∷ x.below) x.top n (inl refl) i)))

  pub in_field : (n q : Name) (o : Object) (k : ℕ) → object_at m.store n ≡ Some o → option_flatten (slice_get o.refs k) ≡ Some q → (z : Object) × (object_at m.store q ≡ Some z)
  in_field n q o k is got = N.in_fields n q o is (contains_from_in o.refs (Some q) (got_in o.refs k (Some q) (flat_at (slice_get o.refs k) q got)))

  -- the next instruction, if the step can be taken
  pub record Acting (x : Task) (line : Line) : Type 0 where
    pub can : can_step m t ≡ true
    pub is : slice_get m.tasks t ≡ Some x
    pub running : is_running (Some x) ≡ true
    pub next : fetched p x.top ≡ Some line

  -- an instruction that continues with this frame and store
  pub record GoesBy (op : Change) : Type 0 where
    pub task : Task
    pub line : Line
    pub acting : Acting task line
    pub frame : Frame
    pub store : List (List Object)
    pub does : effect (setting m t task) task.top m.store line.instr ≡ Goes frame store
    pub by : ChangesBy (setting m t task) task.top m.store line.instr op

  pub record StoreStep (store : List (List Object)) : Type 0 where
    pub op : Change
    pub new : List (List Object)
    pub empty : IsEmpty new
    pub is : store ≡ changed op t m.store ++ new
    pub by : (op ≡ Same) ⊎ GoesBy op

  stays : (store : List (List Object)) → store ≡ m.store → StoreStep store
  stays store e = record { op = Same; new = []; empty = inl refl; is = e ∙ sym (append-nil m.store); by = inl refl }

  either : (b : Bool) (a c : MachineState) → StoreStep a.store → StoreStep c.store → StoreStep (cond b a c).store
  either true a c h k = h
  either false a c h k = k

  same_or : {A : Type 0} (o : Option A) (go : A → MachineState) → ((z : A) → StoreStep (go z).store) → StoreStep (or_same m o go).store
  same_or None go each = stays m.store refl
  same_or (Some z) go each = each z

  -- an instruction does what it does in its own setting
  pub own_sees : (x : Task) → slice_get m.tasks t ≡ Some x → is_running (Some x) ≡ true → SeesSame (setting m t x) m.edges (owner_of m.tasks) x.top m.store m.store (λ b n k. Unit {0})
  own_sees x is run = record {
    count = refl;
    objects = λ n i. (let z = held x is run n i in (z.0, z.0, z.1, z.1, record { mutable = refl; refs = refl; ints = refl; ref_at = λ k may. refl; int_at = λ k may. refl }));
    owners = λ n i. refl;
    tests = λ n q o k i is' may got. (let z = in_field n q o k is' got in (z.0, z.0, z.1, z.1, refl));
  }

  module _ (x : Task) (line : Line) (A : Acting x line) where
    back_case : (o : Option Frame) → StoreStep (returned_to m t x o).store
    back_case (Some f) = stays m.store refl
    back_case None = by_parent x.parent
      where
        by_other : (q : ℕ) (o : Option (ℤ × Option Name)) → StoreStep (child_ended_by m t x q (result_of x.top) o).store
        by_other q None = stays m.store refl
        by_other q (Some other) = same_or (slice_get m.tasks q) _ (λ xq. same_or (slice_get m.tasks (sibling t)) _ (λ y. either (is_left t) _ _ (stays m.store refl) (stays m.store refl)))

        by_parent : (o : Option ℕ) → StoreStep (last_return m t x o).store
        by_parent None = stays m.store refl
        by_parent (Some q) = by_other q (result_at (slice_get m.tasks (sibling t)))

    by_effect : (e : Effect) → effect (setting m t x) x.top m.store line.instr ≡ e → EffectAs (setting m t x) m.edges (owner_of m.tasks) x.top m.store m.store (λ b n k. Unit {0}) line.instr e e → StoreStep (follow m t x line.number e).store
    by_effect (Goes a st) does h = record {
      op = h.0;
      new = [];
      empty = inl refl;
      is = h.2 ∙ sym (append-nil (changed h.0 t m.store));
      by = inr (record { task = x; line = line; acting = A; frame = a; store = st; does = does; by = h.4 });
    }
    by_effect (Prints k) does h = stays m.store refl
    by_effect (Calls g) does h = either _ _ _ (stays m.store refl) (stays m.store refl)
    by_effect (Forks g k) does h = either _ _ _ (record { op = Same; new = [] ∷ [] ∷ []; empty = inr refl; is = refl; by = inl refl }) (stays m.store refl)
    by_effect Returns does h = back_case (last_of x.below)
    by_effect (Traps kind) does h = stays m.store refl
    by_effect (Stops n) does h = stays m.store refl

    pub acted : StoreStep (step p m t).store
    acted =
        subst (λ (w : MachineState). StoreStep w.store) (sym (step_taken p m t x line A.can A.is A.next))
        (by_effect (effect (setting m t x) x.top m.store line.instr) refl
        (effect_as (setting m t x) m.edges (owner_of m.tasks) x.top m.store m.store (λ b n k. Unit {0}) (own_sees x A.is A.running) line.instr (λ b n k r. tt)))

  by_line : (x : Task) (o : Option Line) → can_step m t ≡ true → slice_get m.tasks t ≡ Some x → fetched p x.top ≡ o → StoreStep (step p m t).store
  by_line x None can is e = stays (step p m t).store (ap (λ (w : MachineState). w.store) (step_none p m t x can is e))
  by_line x (Some line) can is e = acted x line (record { can = can; is = is; running = ap is_running (sym is) ∙ can_runs m t can; next = e })

  by_task : (o : Option Task) → can_step m t ≡ true → slice_get m.tasks t ≡ o → StoreStep (step p m t).store
  by_task None can is = absurd (let h : is_running (slice_get m.tasks t) ≡ true = can_runs m t can in let e : is_running (slice_get m.tasks t) ≡ false = ap is_running is in cc)
  by_task (Some x) can is = by_line x (fetched p x.top) can is refl

  pub store_step : StoreStep (step p m t).store
  store_step = by_can (can_step m t) refl
    where
      by_can : (b : Bool) → can_step m t ≡ b → StoreStep (step p m t).store
      by_can true e = by_task (slice_get m.tasks t) e refl
      by_can false e = stays (step p m t).store (ap (λ (w : MachineState). w.store) (step_idle p m t e))

  edits_there : (op : Change) → (op ≡ Same) ⊎ GoesBy op → (k : Name) (e : Edit) → op ≡ Edits k e → (o : Object) × (object_at m.store k ≡ Some o)
  edits_there op (inl z) k e h = absurd (not_edit k e (sym z ∙ h))
  edits_there op (inr g) k e h = (subst (ChangesBy (setting m t g.task) g.task.top m.store g.line.instr) h g.by).0

  -- an object after the step
  pub object_after : (n : Name) (old : Object) → object_at m.store n ≡ Some old
      → (object_at (step p m t).store n ≡ Some old) ⊎ ((e : Edit) × GoesBy (Edits n e) × (object_at (step p m t).store n ≡ Some (edited e old)))
  object_after n old is =
      let S = store_step in
      elim (after_change S.op t m.store (edits_there S.op S.by) n old is) [
        | inl same ↦ inl (ap (λ w. object_at w n) S.is ∙ behind S.new S.empty (changed S.op t m.store) n old same)
        | inr more ↦ inr (more.0, object_after_by_cases S.op more.0 S.by more.1, ap (λ w. object_at w n) S.is ∙ behind S.new S.empty (changed S.op t m.store) n (edited more.0 old) more.2)
      ]
    where
      object_after_by_cases : (op : Change) (e : Edit) → (op ≡ Same) ⊎ GoesBy op → op ≡ Edits n e → GoesBy (Edits n e)
      object_after_by_cases op e (inl z) h = absurd (not_edit n e (sym z ∙ h))
      object_after_by_cases op e (inr g) h = subst GoesBy h g
