-- A step leaves a concurrent task's next step as it is unless their accesses clash; and accesses that clash still clash
-- after it.
use Rattle.schedule_laws.proofs.Common.{◌≡◌, ℕ, ℤ, ◌+◌, ◌-◌, ◌++◌, Bool, true, false, cond, Option, Some, None, List, [], ◌∷◌, length, nat_lt, slice_get, ◌⊎◌, inl, inr, refl, ap, sym, subst, ◌∙◌, option_flatten, cases_Bool, false≢true, same_Some, In, Instr, Getr, Geti, Putr, Puti, Cas, Line, ProgramText, Name, Strand, Object, Frame, Task, Depth, End, Trapped, MachineState, Disentangled, Effect, Goes, Prints, Calls, Forks, Returns, Traps, Stops, effect, int_in, place_in, ref_in, same_name, can_step, child_ended_by, depth_limit, ended_by, fetched, follow, frame_limit, goes_on, is_left, is_running, join_of, result_at, last_of, last_return, or_same, owner_of, result_of, returned_to, run, setting, sibling, start, step, strand_of, NamesAreStoredIn, IsForkJoinState, at_in, run_push, run_disentangled, run_is_fork_join_state, start_is_fork_join_state, names_are_stored, step_none, step_taken, can_task, Field, FieldAccess, access_by, next_access, line_access, ref_field, object_references, swap_access, task_access, unless_trap, value_of, Reach, Reaches, fields_of, EffectAs, IsSame, line_print, print_by, print_of, task_print, Clash, ClashesStay, EndAlike, LeavesStep, StepsLeaveSteps}
use Rattle.schedule_laws.proofs.Accessed.{access_is, field_of, found_at, found_by, reached_at}
use Rattle.schedule_laws.proofs.Beside.{Leaves, same_effect, sees, task_there}
use Rattle.schedule_laws.proofs.StoreSteps.{Acting}

pub none_alike : (a b : Option End) → a ≡ None → b ≡ None → EndAlike a b
none_alike a b ea eb = subst (λ w. EndAlike w b) (sym ea) (subst (λ w. EndAlike None w) (sym eb) tt)

child_end : (m : MachineState) (u : ℕ) (y : Task) (q : ℕ) (r : ℤ × Option Name) (o : Option (ℤ × Option Name)) → (child_ended_by m u y q r o).end ≡ m.end
child_end m u y q r None = refl
child_end m u y q r (Some other) = by_parent (slice_get m.tasks q)
  where
    side : (b : Bool) (v w : MachineState) → v.end ≡ m.end → w.end ≡ m.end → (cond b v w).end ≡ m.end
    side true v w a c = a
    side false v w a c = c

    by_sibling : (o : Option Task) (go : Task → MachineState) → ((x : Task) → (go x).end ≡ m.end) → (or_same m o go).end ≡ m.end
    by_sibling None go each = refl
    by_sibling (Some x) go each = each x

    by_parent : (o : Option Task) → (or_same m o (λ xq. or_same m (slice_get m.tasks (sibling u)) (λ x. cond (is_left u) (join_of m q xq u y x r other) (join_of m q xq (u - 1) x y other r)))).end ≡ m.end
    by_parent o = by_sibling o _ (λ xq. by_sibling (slice_get m.tasks (sibling u)) _ (λ x. side (is_left u) (join_of m q xq u y x r other) (join_of m q xq (u - 1) x y other r) refl refl))

module _ (m m1 : MachineState) (u : ℕ) (y : Task) (going : m.end ≡ None) (going1 : m1.end ≡ None) where
  both_end : (v w : MachineState) → v.end ≡ m.end → w.end ≡ m1.end → EndAlike v.end w.end
  both_end v w a b = none_alike v.end w.end (a ∙ going) (b ∙ going1)

  deep : (b : Bool) (v w : MachineState) (line : ℕ) → v.end ≡ m.end → w.end ≡ m1.end → EndAlike (cond b v (ended_by m (Trapped Depth u line))).end (cond b w (ended_by m1 (Trapped Depth u line))).end
  deep true v w line a c = both_end v w a c
  deep false v w line a c = (refl, refl, refl)

  back_end : (o : Option Frame) → EndAlike (returned_to m u y o).end (returned_to m1 u y o).end
  back_end (Some f) = both_end (returned_to m u y (Some f)) (returned_to m1 u y (Some f)) refl refl
  back_end None = by_parent y.parent
    where
      by_parent : (o : Option ℕ) → EndAlike (last_return m u y o).end (last_return m1 u y o).end
      by_parent None = tt
      by_parent (Some q) =
          both_end (last_return m u y (Some q)) (last_return m1 u y (Some q)) (child_end m u y q (result_of y.top) (result_at (slice_get m.tasks (sibling u)))) (child_end m1 u y q (result_of y.top) (result_at (slice_get m1.tasks (sibling u))))

  pub ends_to : (May : Bool → Name → ℕ → Type 0) (line : ℕ) (i : Instr) (e e1 : Effect) → EffectAs (setting m u y) m1.edges (owner_of m1.tasks) y.top m.store m1.store May i e e1 → EndAlike (follow m u y line e).end (follow m1 u y line e1).end
  ends_to May line i (Goes a st) (Goes b st1) h = none_alike m.end m1.end going going1
  ends_to May line i (Prints k) (Prints l) h = none_alike m.end m1.end going going1
  ends_to May line i (Calls a) (Calls b) h = deep (nat_lt (length y.below + 1) frame_limit) _ _ line refl refl
  ends_to May line i (Forks a b) (Forks c d) h = deep (nat_lt y.depth depth_limit) _ _ line refl refl
  ends_to May line i Returns Returns h = back_end (last_of y.below)
  ends_to May line i (Traps a) (Traps b) h = (h, refl, refl)
  ends_to May line i (Stops a) (Stops b) h = refl
  ends_to May line i _ _ h = absurd h

  module _ (May : Bool → Name → ℕ → Type 0) where
    abbrev As : Instr → Effect → Effect → Type 0
    As = EffectAs (setting m u y) m1.edges (owner_of m1.tasks) y.top m.store m1.store May

    pub same_trap : {A : Type 0} (i : Instr) (e e1 : Effect) (a : Option A) → As i e e1 → unless_trap e1 a ≡ unless_trap e a
    same_trap i (Goes x st) (Goes z st1) a h = refl
    same_trap i (Prints k) (Prints l) a h = refl
    same_trap i (Calls x) (Calls z) a h = refl
    same_trap i (Forks x z) (Forks c d) a h = refl
    same_trap i Returns Returns a h = refl
    same_trap i (Traps x) (Traps z) a h = refl
    same_trap i (Stops x) (Stops z) a h = refl
    same_trap i _ _ a h = absurd h

    pub same_print : (i : Instr) (e e1 : Effect) (s : Strand) → As i e e1 → print_by s e1 ≡ print_by s e
    same_print i (Goes x st) (Goes z st1) s h = refl
    same_print i (Prints k) (Prints l) s h = ap (λ w. print_by s (Prints w)) h
    same_print i (Calls x) (Calls z) s h = refl
    same_print i (Forks x z) (Forks c d) s h = refl
    same_print i Returns Returns s h = refl
    same_print i (Traps x) (Traps z) s h = refl
    same_print i (Stops x) (Stops z) s h = refl
    same_print i _ _ s h = absurd h

trapped : (e : Effect) (b : FieldAccess) → unless_trap e (Some b) ≡ None → (c : Option FieldAccess) → unless_trap e c ≡ None
trapped (Goes x st) b h c = absurd (let q : Some b ≡ None = h in cc)
trapped (Prints k) b h c = absurd (let q : Some b ≡ None = h in cc)
trapped (Calls g) b h c = absurd (let q : Some b ≡ None = h in cc)
trapped (Forks g k) b h c = absurd (let q : Some b ≡ None = h in cc)
trapped Returns b h c = absurd (let q : Some b ≡ None = h in cc)
trapped (Traps kind) b h c = refl
trapped (Stops n) b h c = absurd (let q : Some b ≡ None = h in cc)

made_is : (e : Effect) (b a : FieldAccess) → unless_trap e (Some b) ≡ Some a → (b ≡ a) × ((c : FieldAccess) → unless_trap e (Some c) ≡ Some c)
made_is (Goes x st) b a h = (same_Some b a h, λ c. refl)
made_is (Prints k) b a h = (same_Some b a h, λ c. refl)
made_is (Calls g) b a h = (same_Some b a h, λ c. refl)
made_is (Forks g k) b a h = (same_Some b a h, λ c. refl)
made_is Returns b a h = (same_Some b a h, λ c. refl)
made_is (Traps kind) b a h = absurd (let q : None ≡ Some a = h in cc)
made_is (Stops n) b a h = (same_Some b a h, λ c. refl)

module _ (p : ProgramText) (limit : ℕ) (ts : List ℕ) (t u : ℕ) (two : t ≡ u → ⊥) (can_t : can_step (run p limit ts) t ≡ true) (can_u : can_step (run p limit ts) u ≡ true) (going1 : (step p (run p limit ts) t).end ≡ None) where
  abbrev pub m : MachineState
  m = run p limit ts

  abbrev pub m1 : MachineState
  m1 = step p m t

  abbrev pub K : IsForkJoinState m
  K = run_is_fork_join_state p (start p limit) ts (start_is_fork_join_state p limit)

  abbrev pub D : Disentangled m.tasks m.store
  D = run_disentangled p limit ts

  abbrev pub N : NamesAreStoredIn m
  N = names_are_stored p limit ts

  pub N1 : NamesAreStoredIn m1
  N1 = subst NamesAreStoredIn (run_push p (start p limit) ts t) (names_are_stored p limit (ts ++ t ∷ []))

  pub going : m.end ≡ None
  going = going_by_cases m.end can_u
    where
      going_by_cases : (o : Option End) → goes_on o (is_running (slice_get m.tasks u)) ≡ true → o ≡ None
      going_by_cases None h = refl
      going_by_cases (Some e) h = absurd (false≢true h)

  module _ (y : Task) (iu : slice_get m.tasks u ≡ Some y) (run_u : is_running (Some y) ≡ true) where
    pub task_is_left : slice_get m1.tasks u ≡ Some y
    task_is_left = task_there p m K D N t u two y iu run_u

    pub can_there : can_step m1 u ≡ true
    can_there = ap (λ o. goes_on o (is_running (slice_get m1.tasks u))) going1 ∙ (ap is_running task_is_left ∙ run_u)

    module _ (line : Line) (next : fetched p y.top ≡ Some line) where
      pub here_acting : Acting p m N u y line
      here_acting = record { can = can_u; is = iu; running = run_u; next = next }

      pub there_acting : Acting p m1 N1 u y line
      there_acting = record { can = can_there; is = task_is_left; running = run_u; next = next }

      abbrev pub May : Type 0
      May = (b : Bool) (n : Name) (at : ℕ) → Reaches (setting m u y) y.top m.store line.instr b n at → Leaves p m t b n at

      abbrev e : Effect
      e = effect (setting m u y) y.top m.store line.instr

      abbrev e1 : Effect
      e1 = effect (setting m1 u y) y.top m1.store line.instr

      pub left_effect : May → EffectAs (setting m u y) m1.edges (owner_of m1.tasks) y.top m.store m1.store (Leaves p m t) line.instr e e1
      left_effect may = same_effect p m K D N t u two y iu run_u line.instr may

      value_same : (n : Name) (at : ℕ) → In y.top.refs (Some n) → Leaves p m t false n at → value_of m1.store (field_of false n at) ≡ value_of m.store (field_of false n at)
      value_same n at i may =
          let o = (sees p m K D N t u two y iu run_u).objects n i in
          ap (λ w. option_flatten (slice_get (object_references w) at)) o.3 ∙ (ap option_flatten (o.4.ref_at at may) ∙ sym (ap (λ w. option_flatten (slice_get (object_references w) at)) o.2))

      abbrev swap_acc : List (List Object) → ℕ → Field → FieldAccess
      swap_acc store w field = record { strand = strand_of u y; line = line.number; field = field; writes = same_name (value_of store field) (ref_in y.top w); swaps = true }

      swapped : (d o k w v : ℕ) → line.instr ≡ Cas d o k w v → May → (field : Field) → ref_field y.top o k ≡ Some field → (a : FieldAccess) → unless_trap e (Some (swap_acc m.store w field)) ≡ Some a → swap_acc m1.store w field ≡ swap_acc m.store w field
      swapped d o k w v is may field ef a h =
          let here : FieldAccess = swap_acc m.store w field in
          let by : access_by (strand_of u y) line.number y.top m.store line.instr ≡ Some here = ap (access_by (strand_of u y) line.number y.top m.store) is ∙ ap (swap_access (strand_of u y) line.number m.store (ref_in y.top w)) ef in
          let F = found_by p m N u y line here_acting line.instr a (ap (unless_trap e) by ∙ h) in
          let r : Reach (setting m u y) y.top m.store false true o k F.number F.name F.at = subst (λ i. Reaches (setting m u y) y.top m.store i F.number F.name F.at) is F.reach in
          let q : here ≡ a = (made_is e here a h).0 in
          let named : field ≡ field_of false F.name F.at = ap (λ (c : FieldAccess). c.field) q ∙ (F.field ∙ ap (λ b. field_of b F.name F.at) r.kind) in
          let left : Leaves p m t false F.name F.at = subst (λ b. Leaves p m t b F.name F.at) r.kind (may F.number F.name F.at F.reach) in
          let value : value_of m1.store field ≡ value_of m.store field =
          ap (value_of m1.store) named ∙ (value_same F.name F.at (at_in y.top.refs o F.name r.name) left ∙ ap (value_of m.store) (sym named)) in
          ap (λ z. record { strand = strand_of u y; line = line.number; field = field; writes = same_name z (ref_in y.top w); swaps = true }) value

      swaps : (d o k w v : ℕ) → line.instr ≡ Cas d o k w v → May → (field : Field) → ref_field y.top o k ≡ Some field → (z : Option FieldAccess) → unless_trap e (Some (swap_acc m.store w field)) ≡ z
          → unless_trap e1 (Some (swap_acc m1.store w field)) ≡ unless_trap e (Some (swap_acc m.store w field))
      swaps d o k w v is may field ef None h =
          same_trap m m1 u y going going1 (Leaves p m t) line.instr e e1 (Some (swap_acc m1.store w field)) (left_effect may) ∙ (trapped e (swap_acc m.store w field) h (Some (swap_acc m1.store w field)) ∙ sym h)
      swaps d o k w v is may field ef (Some a) h =
          same_trap m m1 u y going going1 (Leaves p m t) line.instr e e1 (Some (swap_acc m1.store w field)) (left_effect may) ∙ ap (λ c. unless_trap e (Some c)) (swapped d o k w v is may field ef a h)

      swap_same : (d o k w v : ℕ) → line.instr ≡ Cas d o k w v → May → (z : Option Field) → ref_field y.top o k ≡ z
          → unless_trap e1 (swap_access (strand_of u y) line.number m1.store (ref_in y.top w) z) ≡ unless_trap e (swap_access (strand_of u y) line.number m.store (ref_in y.top w) z)
      swap_same d o k w v is may None ef = same_trap m m1 u y going going1 (Leaves p m t) line.instr e e1 None (left_effect may)
      swap_same d o k w v is may (Some field) ef = swaps d o k w v is may field ef (unless_trap e (Some (swap_acc m.store w field))) refl

      by_instr : (i : Instr) → line.instr ≡ i → May → unless_trap e1 (access_by (strand_of u y) line.number y.top m1.store i) ≡ unless_trap e (access_by (strand_of u y) line.number y.top m.store i)
      by_instr (Cas d o k w v) is may = swap_same d o k w v is may (ref_field y.top o k) refl
      by_instr i is may = same_trap m m1 u y going going1 (Leaves p m t) line.instr e e1 (access_by (strand_of u y) line.number y.top m.store i) (left_effect may)

      pub same_access : May → next_access p m1 u ≡ next_access p m u
      same_access may = access_is p m1 N1 u y line there_acting ∙ (by_instr line.instr refl may ∙ sym (access_is p m N u y line here_acting))

      prints_here : print_of p m u ≡ print_by (strand_of u y) e
      prints_here = ap (λ b. cond b (task_print p m u (slice_get m.tasks u)) None) can_u ∙ (ap (task_print p m u) iu ∙ ap (line_print m u y) next)

      prints_there : print_of p m1 u ≡ print_by (strand_of u y) e1
      prints_there = ap (λ b. cond b (task_print p m1 u (slice_get m1.tasks u)) None) can_there ∙ (ap (task_print p m1 u) task_is_left ∙ ap (line_print m1 u y) next)

      pub left_step : May → LeavesStep p m t u
      left_step may = record {
        can = can_there;
        access = same_access may;
        print = prints_there ∙ (same_print m m1 u y going going1 (Leaves p m t) line.instr e e1 (strand_of u y) (left_effect may) ∙ sym prints_here);
        ends =
            subst (λ (w : MachineState). EndAlike w.end (step p m1 u).end) (sym (step_taken p m u y line can_u iu next))
            (subst (λ (w : MachineState). EndAlike (follow m u y line.number e).end w.end) (sym (step_taken p m1 u y line can_there task_is_left next))
            (ends_to m m1 u y going going1 (Leaves p m t) line.number line.instr e e1 (left_effect may)));
      }

      -- a field that is reached is reached after t's step
      reach_there : (number writes : Bool) (o k : ℕ) (b : Bool) (n : Name) (at : ℕ) → Reach (setting m u y) y.top m.store number writes o k b n at → Reach (setting m1 u y) y.top m1.store number writes o k b n at
      reach_there number writes o k b n at r =
          let z = (sees p m K D N t u two y iu run_u).objects n (at_in y.top.refs o n r.name) in
          let same_object : r.object ≡ z.0 = same_Some r.object z.0 (sym r.is ∙ z.2) in
          record {
            kind = r.kind;
            name = r.name;
            object = z.1;
            is = z.3;
            place = ap (λ c. place_in c (int_in y.top k)) (counts number z.0 z.1 z.4 ∙ ap (fields_of number) (sym same_object)) ∙ r.place;
            mutable = λ w. z.4.mutable ∙ (ap (λ (q : Object). q.mutable) (sym same_object) ∙ r.mutable w);
          }
        where
          counts : (number : Bool) (a c : Object) → IsSame (setting m u y) m1.edges (owner_of m1.tasks) y.top m.store m1.store (Leaves p m t) n a c → fields_of number c ≡ fields_of number a
          counts false a c I = I.refs
          counts true a c I = I.ints

      reaches_there : (i : Instr) (b : Bool) (n : Name) (at : ℕ) → Reaches (setting m u y) y.top m.store i b n at → Reaches (setting m1 u y) y.top m1.store i b n at
      reaches_there (Getr d o k) b n at r = reach_there false false o k b n at r
      reaches_there (Geti d o k) b n at r = reach_there true false o k b n at r
      reaches_there (Putr o k v) b n at r = reach_there false true o k b n at r
      reaches_there (Puti o k v) b n at r = reach_there true true o k b n at r
      reaches_there (Cas d o k w v) b n at r = reach_there false true o k b n at r
      reaches_there _ b n at r = absurd r

      pub clash_there : (a b : FieldAccess) → next_access p m t ≡ Some a → next_access p m u ≡ Some b → Clash a b → (c : FieldAccess) × (next_access p m1 u ≡ Some c) × Clash a c × (c.strand ≡ b.strand)
      clash_there a b ia ib C =
          let F = found_at p m N u y line here_acting b ib in
          let h = reached_at p m1 N1 u y line there_acting F.number F.name F.at (reaches_there line.instr F.number F.name F.at F.reach) in
          (h.0, h.1, record { field = C.field ∙ (F.field ∙ sym h.2); writes = clash_there_by_cases h.0 h.1 (cases_Bool a.writes) C.writes }, h.3 ∙ sym F.strand)
        where
          clash_there_by_cases : (c : FieldAccess) → next_access p m1 u ≡ Some c → (a.writes ≡ true) ⊎ (a.writes ≡ false) → (a.writes ≡ true) ⊎ (b.writes ≡ true) → (a.writes ≡ true) ⊎ (c.writes ≡ true)
          clash_there_by_cases c ic (inl w) h = inl w
          clash_there_by_cases c ic (inr nw) (inl w) = inl w
          clash_there_by_cases c ic (inr nw) (inr w) =
              let may : May = λ d n at r a' ia' fa wa. false≢true (sym nw ∙ (ap (λ (z : FieldAccess). z.writes) (same_Some a a' (sym ia ∙ ia')) ∙ wa)) in
              let same : b ≡ c = same_Some b c (sym ib ∙ (sym (same_access may) ∙ ic)) in
              inr (ap (λ (z : FieldAccess). z.writes) (sym same) ∙ w)

      pub free_may : ((a b : FieldAccess) → next_access p m t ≡ Some a → next_access p m u ≡ Some b → Clash a b → ⊥) → May
      free_may free b n at r a ia fa wa =
          let h = reached_at p m N u y line here_acting b n at r in
          free a h.0 ia h.1 (record { field = fa ∙ sym h.2; writes = inl wa })

    -- without a next instruction nothing happens
    pub left_none : fetched p y.top ≡ None → LeavesStep p m t u
    left_none next = record {
      can = can_there;
      access = access_none m1 can_there task_is_left ∙ sym (access_none m can_u iu);
      print = print_none m1 can_there task_is_left ∙ sym (print_none m can_u iu);
      ends = none_alike (step p m u).end (step p m1 u).end (ap (λ (w : MachineState). w.end) (step_none p m u y can_u iu next) ∙ going) (ap (λ (w : MachineState). w.end) (step_none p m1 u y can_there task_is_left next) ∙ going1);
    }
      where
        access_none : (w : MachineState) → can_step w u ≡ true → slice_get w.tasks u ≡ Some y → next_access p w u ≡ None
        access_none w can is = ap (λ b. cond b (task_access p w u (slice_get w.tasks u)) None) can ∙ (ap (task_access p w u) is ∙ ap (line_access w u y) next)

        print_none : (w : MachineState) → can_step w u ≡ true → slice_get w.tasks u ≡ Some y → print_of p w u ≡ None
        print_none w can is = ap (λ b. cond b (task_print p w u (slice_get w.tasks u)) None) can ∙ (ap (task_print p w u) is ∙ ap (line_print w u y) next)

    pub access_line : (o : Option Line) → fetched p y.top ≡ o → (b : FieldAccess) → next_access p m u ≡ Some b → (line : Line) × (fetched p y.top ≡ Some line)
    access_line (Some line) e b ib = (line, e)
    access_line None e b ib =
        absurd (let h : None ≡ Some b = sym (ap (λ q. cond q (task_access p m u (slice_get m.tasks u)) None) can_u ∙ (ap (task_access p m u) iu ∙ ap (line_access m u y) e)) ∙ ib in cc)

pub steps_leave_steps : StepsLeaveSteps
steps_leave_steps p limit ts t u B going1 =
    let y = can_task (run p limit ts) u B.second in
    steps_leave_steps_by_cases y.0 y.1 y.2 (fetched p y.0.top) refl
  where
    steps_leave_steps_by_cases : (y : Task) → slice_get (run p limit ts).tasks u ≡ Some y → is_running (Some y) ≡ true → (o : Option Line) → fetched p y.top ≡ o → LeavesStep p (run p limit ts) t u
    steps_leave_steps_by_cases y iu run_u None next = left_none p limit ts t u B.two B.first B.second going1 y iu run_u next
    steps_leave_steps_by_cases y iu run_u (Some line) next = left_step p limit ts t u B.two B.first B.second going1 y iu run_u line next (free_may p limit ts t u B.two B.first B.second going1 y iu run_u line next B.free)

pub clashes_stay : ClashesStay
clashes_stay p limit ts t u a b two can_t can_u going1 ia ib C =
    let y = can_task (run p limit ts) u can_u in
    let l = access_line p limit ts t u two can_t can_u going1 y.0 y.1 y.2 (fetched p y.0.top) refl b ib in
    clash_there p limit ts t u two can_t can_u going1 y.0 y.1 y.2 l.0 l.1 a b ia ib C
