-- Of the tasks that try to set a nil field by compare and swap, the first succeeds.
use Rattle.model_laws.proofs.Common.{◌≡◌, ℕ, ℤ, zero, suc, pos, negsuc, ◌+◌, ◌-◌, ◌<◌, ◌≤◌, Bool, true, false, cond, Option, Some, None, List, [], ◌∷◌, length, take, slice_get, slice_set, nat_lt, ◌⊎◌, inl, inr, refl, ap, sym, subst, ◌∙◌, arith, add-one, option_flatten, cases_eq, cases_lt, both_ways, lt-ltb, ltb-true, same_Some, In, got_same, got_other, got_in, got_within, got_some, Instr, Putr, Puti, Freeze, Cas, Line, ProgramText, Name, Object, Frame, Task, MachineState, Goes, StepContext, effect, object_at, put_object, int_in, ref_in, with_int, onward, same_name, place_in, step, run_from, start, setting, can_step, follow, IsWriteTo, IsNext, StaysAs, put_cases, made_cases, WritesField, start_is_fork_join_state, run_is_fork_join_state, empty_rows, no_objects, made_stays, put_here, put_other, rows_stay, same_stays, stays_on, object_later, Alters, step_cases, step_taken, step_idle, FieldPlace, FieldHolds, MayWrite, after, IsCas, expects, brings, Yields, OnlyFromNil, IsUntried, OneWinner}
use Rattle.hh_model.proofs.ForkJoinStates.{IsForkJoinState}

-- RUNS STEP BY STEP

pub run_next : (p : ProgramText) (m : MachineState) (ts : List ℕ) (i t : ℕ) → slice_get ts i ≡ Some t → run_from p m (take (suc i) ts) ≡ step p (run_from p m (take i ts)) t
run_next p m [] i t e = absurd cc
run_next p m (u ∷ ts) zero t e = let h : u ≡ t = cc in ap (step p m) h
run_next p m (u ∷ ts) (suc i) t e = run_next p (step p m u) ts i t e

pub run_past : (p : ProgramText) (m : MachineState) (ts : List ℕ) (i : ℕ) → slice_get ts i ≡ None → run_from p m (take (suc i) ts) ≡ run_from p m (take i ts)
run_past p m [] zero e = refl
run_past p m [] (suc i) e = refl
run_past p m (u ∷ ts) zero e = absurd cc
run_past p m (u ∷ ts) (suc i) e = run_past p (step p m u) ts i e

-- A CAS

-- what a cas does to a field that holds r
pub cas_effect : (s : StepContext) (f : Frame) (store : List (List Object)) (d o k e v at : ℕ) (n : Name) (x : Object) (r : Option Name) (b : Bool)
    → ref_in f o ≡ Some n → object_at store n ≡ Some x → int_in f k ≡ pos at → at < length x.refs → x.mutable ≡ true → slice_get x.refs at ≡ Some r → same_name r (ref_in f e) ≡ b
    → effect s f store (Cas d o k e v) ≡ cond b (Goes (onward (with_int f d (pos 1))) (put_object store n (record x { refs = slice_set x.refs at (ref_in f v) }))) (Goes (onward (with_int f d (pos 0))) store)
cas_effect s f store d o k e v at n x r b name is index within mutable value match =
    let lt : nat_lt at (length x.refs) ≡ true = lt-ltb at (length x.refs) within in
    simp (name, is, index, lt, mutable, value, match) refl

-- ONE STEP AND ONE FIELD

-- a register that holds an index in range
index_of : (count : ℕ) (k : ℤ) (at : ℕ) → place_in count k ≡ Some at → (k ≡ pos at) × (at < count)
index_of count (pos k) at e = in_range (nat_lt k count) refl e
  where
    in_range : (b : Bool) → nat_lt k count ≡ b → cond b (Some k) None ≡ Some at → (pos k ≡ pos at) × (at < count)
    in_range true lt h = let same : k ≡ at = same_Some k at h in (ap pos same, omega (arith, ltb-true k count lt, same))
    in_range false lt h = absurd cc
index_of count (negsuc k) at e = absurd cc

module _ (p : ProgramText) (m : MachineState) (t : ℕ) (K : IsForkJoinState m) (field : FieldPlace) (o : Object) (r : Option Name) where
  -- the next instruction of the task is a putr on the field
  pub record PutrNext : Type 0 where
    pub task : Task
    pub line : Line
    pub object : ℕ
    pub index : ℕ
    pub value : ℕ
    pub next : IsNext p m t task line
    pub instr : line.instr ≡ Putr object index value
    pub writes : MayWrite m task.top object index field

  -- it is a cas on the field, which finds what it expects
  pub record CasNext : Type 0 where
    pub task : Task
    pub line : Line
    pub target : ℕ
    pub object : ℕ
    pub index : ℕ
    pub expected : ℕ
    pub value : ℕ
    pub next : IsNext p m t task line
    pub instr : line.instr ≡ Cas target object index expected value
    pub writes : MayWrite m task.top object index field
    pub match : same_name r (ref_in task.top expected) ≡ true

  abbrev pub Becomes : List (List Object) → Type 0
  Becomes store = (new : Object) × (object_at store field.object ≡ Some new) × ((slice_get new.refs field.index ≡ Some r) ⊎ (PutrNext ⊎ CasNext))

  module _ (is : object_at m.store field.object ≡ Some o) (value : slice_get o.refs field.index ≡ Some r) where
    same_becomes : Becomes m.store
    same_becomes = (o, is, inl value)

    -- the object that an instruction writes
    written : (x : Task) (line : Line) (instr : Instr) (new : Object) → IsNext p m t x line → line.instr ≡ instr → IsWriteTo x.top instr field.object → WritesField x.top instr o new
        → (slice_get new.refs field.index ≡ Some r) ⊎ (PutrNext ⊎ CasNext)
    written x line (Putr ro k v) new next instr by w =
        elim (cases_eq field.index w.1.0) [
          | inl e ↦
              let at = index_of (length o.refs) (int_in x.top k) w.1.0 w.1.1 in
              inr (inl (record {
                task = x;
                line = line;
                object = ro;
                index = k;
                value = v;
                next = next;
                instr = instr;
                writes = record { name = by; index = at.0 ∙ ap pos (sym e); object = o; is = is; within = omega (arith, at.1, e); mutable = w.0 };
              }))
          | inr ne ↦ inl (ap (λ refs. slice_get refs field.index) w.1.2 ∙ (got_other o.refs w.1.0 field.index (ref_in x.top v) ne ∙ value))
        ]
    written x line (Cas d ro k e v) new next instr by w =
        elim (cases_eq field.index w.1.0) [
          | inl same ↦
              let at = index_of (length o.refs) (int_in x.top k) w.1.0 w.1.1 in
              inr (inr (record {
                task = x;
                line = line;
                target = d;
                object = ro;
                index = k;
                expected = e;
                value = v;
                next = next;
                instr = instr;
                writes = record { name = by; index = at.0 ∙ ap pos (sym same); object = o; is = is; within = omega (arith, at.1, same); mutable = w.0 };
                match =
                    ap (λ q. same_name (option_flatten q) (ref_in x.top e)) (sym value)
                    ∙ (ap (λ i. same_name (option_flatten (slice_get o.refs i)) (ref_in x.top e)) same ∙ w.1.3);
              }))
          | inr ne ↦ inl (ap (λ refs. slice_get refs field.index) w.1.2 ∙ (got_other o.refs w.1.0 field.index (ref_in x.top v) ne ∙ value))
        ]
    written x line (Puti ro k v) new next instr by w = inl (ap (λ refs. slice_get refs field.index) w ∙ value)
    written x line (Freeze ro) new next instr by w = inl (ap (λ refs. slice_get refs field.index) w ∙ value)
    written x line _ new next instr by w = absurd by

    altered : (x : Task) (store : List (List Object)) → slice_get m.tasks t ≡ Some x → Alters p m t x store → Becomes store
    altered x store ix (inl e) = subst Becomes (sym e) same_becomes
    altered x store ix (inr (line, il, inl e)) = subst Becomes (sym e) same_becomes
    altered x store ix (inr (line, il, inr (inl a))) = subst Becomes (sym a.is) (o, made_stays m.store t a.new field.object o is, inl value)
    altered x store ix (inr (line, il, inr (inr w))) =
        subst Becomes (sym w.is) (elim (cases_eq field.object.task w.name.task) [
          | inl e ↦ elim (cases_eq field.object.count w.name.count) [
            | inl e' ↦
                let same : field.object ≡ w.name = λ i. record { task = e i; count = e' i } in
                let old : o ≡ w.old = same_Some o w.old (sym is ∙ (ap (object_at m.store) same ∙ w.was)) in (
                  w.new,
                  ap (object_at (put_object m.store w.name w.new)) same ∙ put_here m.store w.name w.old w.new w.was,
                  written x line line.instr w.new (record { task = ix; fetched = il }) refl
                      (subst (λ (q : Name). IsWriteTo x.top line.instr q) (sym same) w.by)
                      (subst (λ (q : Object). WritesField x.top line.instr q w.new) (sym old) w.field),
                )
            | inr ne ↦ (o, put_other m.store w.name field.object w.new o is (λ h. ne h.1), inl value)
          ]
          | inr ne ↦ (o, put_other m.store w.name field.object w.new o is (λ h. ne h.0), inl value)
        ])

    pub field_later : Becomes (step p m t).store
    field_later =
        step_cases p m t K (λ m'. Becomes m'.store) same_becomes (λ x e ix run why. same_becomes)
        (λ x y store outs ix run ep ed es ej names fields alters grows. altered x store ix alters)
        (λ x parent e ix run pp which result. same_becomes)
        (λ x g h ix run next top. (o, rows_stay m.store field.object.task field.object.count o is, inl value))
        (λ parent l xp xl xr rl rr ip il ir pl left dl dr wl wr nl nr side. same_becomes)

-- an object that a step made has nil fields, if it is mutable
module _ (p : ProgramText) (m : MachineState) (t : ℕ) (K : IsForkJoinState m) (n : Name) (none : object_at m.store n ≡ None) where
  abbrev NilNew : List (List Object) → Type 0
  NilNew store = (o : Object) (r : Option Name) → object_at store n ≡ Some o → o.mutable ≡ true → In o.refs r → r ≡ None

  not_there : (o : Object) → object_at m.store n ≡ Some o → ⊥
  not_there o e = absurd cc

  nil_same : NilNew m.store
  nil_same o r e mutable i = absurd (not_there o e)

  nil_altered : (x : Task) (store : List (List Object)) → Alters p m t x store → NilNew store
  nil_altered x store (inl e) = subst NilNew (sym e) nil_same
  nil_altered x store (inr (line, il, inl e)) = subst NilNew (sym e) nil_same
  nil_altered x store (inr (line, il, inr (inl a))) =
      subst NilNew (sym a.is) (λ o r e mutable i. elim (made_cases m.store t a.new n o e) [
        | inl new ↦ is_nil r (λ q h. both_ways o.mutable (ap (λ (w : Object). w.mutable) new.2 ∙ (a.fields q (subst (λ (w : Object). In w.refs (Some q)) new.2 (subst (In o.refs) h i))).0) mutable)
        | inr old ↦ absurd (not_there o old)
      ])
    where
      is_nil : (r : Option Name) → ((q : Name) → r ≡ Some q → ⊥) → r ≡ None
      is_nil None h = refl
      is_nil (Some q) h = absurd (h q refl)
  nil_altered x store (inr (line, il, inr (inr w))) =
      subst NilNew (sym w.is) (λ o r e mutable i. elim (put_cases m.store w.name w.new n o e) [
        | inl here ↦ absurd (not_there w.old (ap (object_at m.store) here.0 ∙ w.was))
        | inr old ↦ absurd (not_there o old)
      ])

  pub new_is_nil : NilNew (step p m t).store
  new_is_nil =
      step_cases p m t K (λ m'. NilNew m'.store) nil_same (λ x e ix run why. nil_same)
      (λ x y store outs ix run ep ed es ej names fields alters grows. nil_altered x store alters)
      (λ x parent e ix run pp which result. nil_same)
      (λ x g h ix run next top. (λ o r e mutable i. absurd (not_there o (empty_rows m.store n.task n.count o e))))
      (λ parent l xp xl xr rl rr ip il ir pl left dl dr wl wr nl nr side. nil_same)

-- A CAS IN A RUN

module _ (p : ProgramText) (m : MachineState) (t : ℕ) (x : Task) (line : Line) (d o k e v : ℕ) (field : FieldPlace) (r : Option Name)
    (can : can_step m t ≡ true) (next : IsNext p m t x line) (instr : line.instr ≡ Cas d o k e v) (w : MayWrite m x.top o k field) (value : slice_get w.object.refs field.index ≡ Some r) where
  abbrev On : ℤ → List (List Object) → MachineState
  On y store = record m { tasks = slice_set m.tasks t (record x { top = onward (with_int x.top d y) }); store = store }

  abbrev Put : List (List Object)
  Put = put_object m.store field.object (record w.object { refs = slice_set w.object.refs field.index (ref_in x.top v) })

  swaps : (b : Bool) → same_name r (ref_in x.top e) ≡ b → step p m t ≡ follow m t x line.number (cond b (Goes (onward (with_int x.top d (pos 1))) Put) (Goes (onward (with_int x.top d (pos 0))) m.store))
  swaps b match =
      step_taken p m t x line can next.task next.fetched
      ∙ ap (follow m t x line.number) (ap (effect (setting m t x) x.top m.store) instr
      ∙ cas_effect (setting m t x) x.top m.store d o k e v field.index field.object w.object r b w.name w.is w.index w.within w.mutable value match)

  goes_on_with : (y : ℤ) (store : List (List Object)) → step p m t ≡ On y store → slice_get (step p m t).tasks t ≡ Some (record x { top = onward (with_int x.top d y) })
  goes_on_with y store is = ap (λ (q : MachineState). slice_get q.tasks t) is ∙ got_same m.tasks t x (record x { top = onward (with_int x.top d y) }) next.task

  pub cas_wins : same_name r (ref_in x.top e) ≡ true → slice_get (step p m t).tasks t ≡ Some (record x { top = onward (with_int x.top d (pos 1)) })
  cas_wins match = goes_on_with (pos 1) Put (swaps true match)

  pub cas_sets : same_name r (ref_in x.top e) ≡ true → FieldHolds (step p m t) field (ref_in x.top v)
  cas_sets match =
      subst (λ (q : MachineState). FieldHolds q field (ref_in x.top v)) (sym (swaps true match)) (record {
        object = record w.object { refs = slice_set w.object.refs field.index (ref_in x.top v) };
        is = put_here m.store field.object w.object (record w.object { refs = slice_set w.object.refs field.index (ref_in x.top v) }) w.is;
        value = got_same w.object.refs field.index r (ref_in x.top v) value;
      })

  pub cas_loses : same_name r (ref_in x.top e) ≡ false → slice_get (step p m t).tasks t ≡ Some (record x { top = onward (with_int x.top d (pos 0)) })
  cas_loses match = goes_on_with (pos 0) m.store (swaps false match)

-- ALL STEPS

-- the object now at a name
stays_to : (store : List (List Object)) (n : Name) (old new o : Object) → object_at store n ≡ Some new → object_at store n ≡ Some o → StaysAs old new → StaysAs old o
stays_to store n old new o is is' stays = subst (StaysAs old) (same_Some new o (sym is ∙ is')) stays

-- the field was there before, and the object was mutable if it is now
stayed_field : (old o : Object) (k : ℕ) (r : Option Name) → StaysAs old o → slice_get o.refs k ≡ Some r → (q : Option Name) × (slice_get old.refs k ≡ Some q)
stayed_field old o k r stays value = let len : length o.refs ≡ length old.refs = stays.refs in got_some old.refs k (omega (arith, len, got_within o.refs k r value))

stayed_mutable : (old o : Object) → StaysAs old o → o.mutable ≡ true → old.mutable ≡ true
stayed_mutable old o stays mutable = by_mutable old.mutable refl
  where
    by_mutable : (b : Bool) → old.mutable ≡ b → old.mutable ≡ true
    by_mutable true e = e
    by_mutable false e = absurd (both_ways o.mutable (ap (λ (w : Object). w.mutable) (stays.frozen e) ∙ e) mutable)

-- a field holds one value
one_value : (store : List (List Object)) (n : Name) (o o' : Object) (k : ℕ) (r r' : Option Name) → object_at store n ≡ Some o → object_at store n ≡ Some o' → slice_get o.refs k ≡ Some r → slice_get o'.refs k ≡ Some r' → r ≡ r'
one_value store n o o' k r r' is is' value value' =
    let same : o ≡ o' = same_Some o o' (sym is ∙ is') in
    same_Some r r' (sym value ∙ (ap (λ (w : Object). slice_get w.refs k) same ∙ value'))

module _ (p : ProgramText) (limit : ℕ) (ts : List ℕ) (field : FieldPlace) (only : OnlyFromNil p limit ts field) where
  abbrev At : ℕ → MachineState
  At i = after p limit ts i

  fork_join : (i : ℕ) → IsForkJoinState (At i)
  fork_join i = run_is_fork_join_state p (start p limit) (take i ts) (start_is_fork_join_state p limit)

  -- the next moment comes by one step, or by none
  module _ (i : ℕ) (C : MachineState → Type 0) (idle : C (At i)) (taken : (t : ℕ) → slice_get ts i ≡ Some t → can_step (At i) t ≡ true → C (step p (At i) t)) where
    moment_by : (t : ℕ) → slice_get ts i ≡ Some t → (b : Bool) → can_step (At i) t ≡ b → C (step p (At i) t)
    moment_by t e true can = taken t e can
    moment_by t e false can = subst C (sym (step_idle p (At i) t can)) idle

    next_moment : (q : Option ℕ) → slice_get ts i ≡ q → C (At (suc i))
    next_moment None e = subst C (sym (run_past p (start p limit) ts i e)) idle
    next_moment (Some t) e = subst C (sym (run_next p (start p limit) ts i t e)) (moment_by t e (can_step (At i) t) refl)

    pub moment : C (At (suc i))
    moment = next_moment (slice_get ts i) refl

  no_putr : (i t : ℕ) (o : Object) (r : Option Name) → slice_get ts i ≡ Some t → can_step (At i) t ≡ true → PutrNext p (At i) t (fork_join i) field o r → ⊥
  no_putr i t o r e can h =
      only.no_putr i (record {
        t = t;
        task = h.task;
        line = h.line;
        object = h.object;
        index = h.index;
        value = h.value;
        turn = record { task = e; can = can };
        next = h.next;
        instr = h.instr;
        writes = h.writes;
      })

  abbrev as_cas : (i t : ℕ) (o : Object) (r : Option Name) → slice_get ts i ≡ Some t → can_step (At i) t ≡ true → CasNext p (At i) t (fork_join i) field o r → IsCas p limit ts field i
  as_cas i t o r e can h = record {
    t = t;
    task = h.task;
    line = h.line;
    target = h.target;
    object = h.object;
    index = h.index;
    expected = h.expected;
    value = h.value;
    turn = record { task = e; can = can };
    next = h.next;
    instr = h.instr;
    writes = h.writes;
  }

  -- while no cas finds what it expects, the field is unchanged
  field_stays : (i : ℕ) (r : Option Name) → ((c : IsCas p limit ts field i) → same_name r (expects p limit ts field i c) ≡ true → ⊥) → FieldHolds (At i) field r → FieldHolds (At (suc i)) field r
  field_stays i r never h =
      moment i (λ m. FieldHolds m field r) h (λ t e can.
      let l = field_later p (At i) t (fork_join i) field h.object r h.is h.value in
      record {
        object = l.0;
        is = l.1;
        value = elim l.2 [
          | inl same ↦ same
          | inr w ↦ absurd (elim w [ inl q ↦ no_putr i t h.object r e can q | inr c ↦ never (as_cas i t h.object r e can c) c.match ])
        ];
      })

  -- a mutable object's field is nil before the first cas
  abbrev NilIn : MachineState → Type 0
  NilIn m = (o : Object) (r : Option Name) → object_at m.store field.object ≡ Some o → o.mutable ≡ true → slice_get o.refs field.index ≡ Some r → r ≡ None

  nil_step : (i t : ℕ) → slice_get ts i ≡ Some t → can_step (At i) t ≡ true → (IsCas p limit ts field i → ⊥) → NilIn (At i)
      → (q : Option Object) → object_at (At i).store field.object ≡ q → NilIn (step p (At i) t)
  nil_step i t e can never nil None none o r is mutable value = new_is_nil p (At i) t (fork_join i) field.object none o r is mutable (got_in o.refs field.index r value)
  nil_step i t e can never nil (Some old) was o r is mutable value =
      let later = object_later p (At i) t (fork_join i) field.object old was in
      let stays = stays_to (step p (At i) t).store field.object old later.0 o later.1 is later.2 in
      let there = stayed_field old o field.index r stays value in
      let l = field_later p (At i) t (fork_join i) field old there.0 was there.1 in
      elim l.2 [
        | inl same ↦ one_value (step p (At i) t).store field.object o l.0 field.index r there.0 is l.1 value same ∙ nil old there.0 was (stayed_mutable old o stays mutable) there.1
        | inr w ↦ absurd (elim w [ inl q ↦ no_putr i t old there.0 e can q | inr c ↦ never (as_cas i t old there.0 e can c) ])
      ]

  nil_until : (i : ℕ) → IsUntried p limit ts field i → NilIn (At i)
  nil_until zero un = λ o r is mutable value. absurd (no_objects field.object.task field.object.count o is)
  nil_until (suc i) un =
      moment i NilIn (nil_until i (λ j c. let h = un j c in omega arith)) (λ t e can.
      nil_step i t e can (λ c. let h : suc i ≤ i = un i c in omega arith) (nil_until i (λ j c. let h = un j c in omega arith)) (object_at (At i).store field.object) refl)

  -- from one moment to a later one a field is unchanged while no cas finds what it expects
  field_from : (i d : ℕ) (r : Option Name) → ((j : ℕ) → i ≤ j → j < d + i → (c : IsCas p limit ts field j) → same_name r (expects p limit ts field j c) ≡ true → ⊥)
      → FieldHolds (At i) field r → FieldHolds (At (d + i)) field r
  field_from i zero r never h = subst (λ k. FieldHolds (At k) field r) (let e : i ≡ zero + i = omega arith in e) h
  field_from i (suc d) r never h =
      subst (λ k. FieldHolds (At k) field r) (let e : suc (d + i) ≡ suc d + i = omega arith in e)
      (field_stays (d + i) r (never (d + i) (omega arith) (omega arith)) (field_from i d r (λ j le lt. never j le (omega arith)) h))

  field_until : (i j : ℕ) (r : Option Name) → i ≤ j → ((k : ℕ) → i ≤ k → k < j → (c : IsCas p limit ts field k) → same_name r (expects p limit ts field k c) ≡ true → ⊥)
      → FieldHolds (At i) field r → FieldHolds (At j) field r
  field_until i j r le never h =
      let e : j - i + i ≡ j = omega arith in
      subst (λ k. FieldHolds (At k) field r) e (field_from i (j - i) r (λ k le' lt. never k le' (omega (arith, e))) h)

  -- an object from one moment to a later one
  object_from : (i d : ℕ) (o : Object) → object_at (At i).store field.object ≡ Some o → (new : Object) × (object_at (At (d + i)).store field.object ≡ Some new) × StaysAs o new
  object_from i zero o is = subst (λ k. (new : Object) × (object_at (At k).store field.object ≡ Some new) × StaysAs o new) (let e : i ≡ zero + i = omega arith in e) (o, is, same_stays o)
  object_from i (suc d) o is =
      let before = object_from i d o is in
      subst (λ k. (new : Object) × (object_at (At k).store field.object ≡ Some new) × StaysAs o new) (let e : suc (d + i) ≡ suc d + i = omega arith in e)
      (moment (d + i) (λ m. (new : Object) × (object_at m.store field.object ≡ Some new) × StaysAs o new) before (λ t e can.
      let next = object_later p (At (d + i)) t (fork_join (d + i)) field.object before.0 before.1 in
      (next.0, next.1, stays_on o before.0 next.0 before.2 next.2)))

  object_until : (i j : ℕ) (o : Object) → i ≤ j → object_at (At i).store field.object ≡ Some o → (new : Object) × (object_at (At j).store field.object ≡ Some new) × StaysAs o new
  object_until i j o le is = subst (λ k. (new : Object) × (object_at (At k).store field.object ≡ Some new) × StaysAs o new) (let e : j - i + i ≡ j = omega arith in e) (object_from i (j - i) o is)

  nil_at_first : (i h : ℕ) (o : Object) (r : Option Name) → IsUntried p limit ts field i → object_at (At h).store field.object ≡ Some o → o.mutable ≡ true → FieldHolds (At i) field r → r ≡ None
  nil_at_first i h o r un is mutable holds = elim (cases_lt h i) [
    | inl before ↦
        let now = object_until h i o (omega arith) is in
        let there = stayed_field o holds.object field.index r (stays_to (At i).store field.object o now.0 holds.object now.1 holds.is now.2) holds.value in
        let later = field_until h i there.0 (omega arith) (λ k le lt c match. let le' : i ≤ k = un k c in omega arith) (record { object = o; is = is; value = there.1 }) in
        one_value (At i).store field.object holds.object later.object field.index r there.0 holds.is later.is holds.value later.value
        ∙ nil_until h (λ j c. let le : i ≤ j = un j c in omega arith) o there.0 is mutable there.1
    | inr after_it ↦
        let now = object_until i h holds.object after_it holds.is in
        nil_until i un holds.object r holds.is (stayed_mutable holds.object o (stays_to (At h).store field.object holds.object now.0 o now.1 is now.2) mutable) holds.value
  ]

  next_is : (i : ℕ) (c : IsCas p limit ts field i) → At (i + 1) ≡ step p (At i) c.t
  next_is i c = ap At (add-one i) ∙ run_next p (start p limit) ts i c.t c.turn.task

  module _ (i : ℕ) (c : IsCas p limit ts field i) (un : IsUntried p limit ts field i) where
    -- what a field holds when a cas on it is taken
    found : (r : Option Name) × (slice_get c.writes.object.refs field.index ≡ Some r)
    found = got_some c.writes.object.refs field.index c.writes.within

    finds : same_name found.0 (expects p limit ts field i c) ≡ true
    finds =
        ap (λ q. same_name q (expects p limit ts field i c)) (nil_until i un c.writes.object found.0 c.writes.is c.writes.mutable found.1)
        ∙ ap (same_name None) (only.from_nil i c)

    wins : Yields p limit ts field i c (pos 1)
    wins =
        ap (λ (q : MachineState). slice_get q.tasks c.t) (next_is i c)
        ∙ cas_wins p (At i) c.t c.task c.line c.target c.object c.index c.expected c.value field found.0 c.turn.can c.next c.instr c.writes found.1 finds

    sets : FieldHolds (At (suc i)) field (brings p limit ts field i c)
    sets =
        subst (λ m. FieldHolds m field (brings p limit ts field i c)) (sym (run_next p (start p limit) ts i c.t c.turn.task))
        (cas_sets p (At i) c.t c.task c.line c.target c.object c.index c.expected c.value field found.0 c.turn.can c.next c.instr c.writes found.1 finds)

    -- another cas doesn't find nil
    misses : (j : ℕ) (d : IsCas p limit ts field j) → same_name (brings p limit ts field i c) (expects p limit ts field j d) ≡ false
    misses j d =
        let object = only.to_object i c in
        ap (λ q. same_name q (expects p limit ts field j d)) object.1 ∙ ap (same_name (Some object.0)) (only.from_nil j d)

    keeps : (j : ℕ) → i < j → FieldHolds (At j) field (brings p limit ts field i c)
    keeps j lt = field_until (suc i) j (brings p limit ts field i c) (omega arith) (λ k le lt' d match. both_ways _ (misses k d) match) sets

    loses : (j : ℕ) (d : IsCas p limit ts field j) → i < j → Yields p limit ts field j d (pos 0)
    loses j d lt =
        let h = keeps j lt in
        let same : h.object ≡ d.writes.object = same_Some h.object d.writes.object (sym h.is ∙ d.writes.is) in
        ap (λ (q : MachineState). slice_get q.tasks d.t) (next_is j d)
        ∙ cas_loses p (At j) d.t d.task d.line d.target d.object d.index d.expected d.value field (brings p limit ts field i c) d.turn.can d.next d.instr d.writes
        (ap (λ (w : Object). slice_get w.refs field.index) (sym same) ∙ h.value) (misses j d)

pub one_winner : OneWinner
one_winner p limit ts field only = record {
  nil_at_first = nil_at_first p limit ts field only;
  first_wins = λ i c un. wins p limit ts field only i c un;
  others_lose = λ i j c d un lt. loses p limit ts field only i c un j d lt;
  keeps = λ i j c un lt. keeps p limit ts field only i c un j lt;
}
