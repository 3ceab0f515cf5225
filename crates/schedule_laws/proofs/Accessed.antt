-- Which field an access is of: one that the instruction reaches.
use Rattle.schedule_laws.proofs.Common.{◌≡◌, ℕ, pos, Bool, true, false, cond, Option, Some, None, length, slice_get, slice_set, unwrap_or, refl, ap, sym, ◌∙◌, option_flatten, false≢true, same_Some, Instr, Getr, Geti, Putr, Puti, Cas, Line, ProgramText, Name, Object, Frame, Task, Trap, Frozen, Nil, Range, MachineState, Effect, Goes, Prints, Calls, Forks, Returns, Traps, Stops, StepContext, effect, int_in, object_at, onward, or_trap, place_in, put_object, read_effect, ref_in, same_name, unless_frozen, with_int, with_object, precedes, setting, strand_of, NamesAreStoredIn, Field, FieldAccess, access, access_by, next_access, field_at, line_access, object_references, swap_access, task_access, unless_trap, value_of, field_found, index_of, Reach, Reaches, Writes, fields_of}
use Rattle.schedule_laws.proofs.StoreSteps.{Acting, in_field}

abbrev pub field_of : Bool → Name → ℕ → Field
field_of b n at = record { name = n; is_number = b; index = at }

module _ (p : ProgramText) (m : MachineState) (N : NamesAreStoredIn m) (u : ℕ) (y : Task) (line : Line) (A : Acting p m N u y line) where
  abbrev s : StepContext
  s = setting m u y

  abbrev f : Frame
  f = y.top

  -- what the step accesses if it doesn't trap
  abbrev pub made_by : Instr → Option FieldAccess
  made_by i = unless_trap (effect s f m.store i) (access_by (strand_of u y) line.number f m.store i)

  pub access_is : next_access p m u ≡ made_by line.instr
  access_is = ap (λ b. cond b (task_access p m u (slice_get m.tasks u)) None) A.can ∙ (ap (task_access p m u) A.is ∙ ap (line_access m u y) A.next)

  -- A FIELD THAT IS REACHED IS ACCESSED

  pub record Hit (i : Instr) (b : Bool) (n : Name) (at : ℕ) : Type 0 where
    pub access : FieldAccess
    pub is : made_by i ≡ Some access
    pub field : access.field ≡ field_of b n at
    pub strand : access.strand ≡ strand_of u y
    pub writes : Writes s f m.store i b n at → access.writes ≡ true

  hit : (i : Instr) (b : Bool) (n : Name) (at : ℕ) (e : Effect) (writes swaps : Bool) → effect s f m.store i ≡ e → unless_trap {A = FieldAccess} e (Some (record { strand = strand_of u y; line = line.number; field = field_of b n at; writes = writes; swaps = swaps })) ≡ Some (record { strand = strand_of u y; line = line.number; field = field_of b n at; writes = writes; swaps = swaps })
      → access_by (strand_of u y) line.number f m.store i ≡ Some (record { strand = strand_of u y; line = line.number; field = field_of b n at; writes = writes; swaps = swaps }) → (Writes s f m.store i b n at → writes ≡ true) → Hit i b n at
  hit i b n at e writes swaps ee goes ea wr = record {
    access = record { strand = strand_of u y; line = line.number; field = field_of b n at; writes = writes; swaps = swaps };
    is = ap (λ w. unless_trap w (access_by (strand_of u y) line.number f m.store i)) ee ∙ (ap (unless_trap e) ea ∙ goes);
    field = refl;
    strand = refl;
    writes = wr;
  }

  named : (b : Bool) (o k : ℕ) (number writes : Bool) (n : Name) (at : ℕ) → (r : Reach s f m.store number writes o k b n at) → field_at number (ref_in f o) (int_in f k) ≡ Some (field_of b n at)
  named b o k number writes n at r =
      field_found number (ref_in f o) (int_in f k) n at r.name (index_of (fields_of number r.object) (int_in f k) at r.place) ∙ ap (λ c. Some (field_of c n at)) (sym r.kind)

  reads : (d : ℕ) (r : Option Name) (a : FieldAccess) → ((q : Name) → r ≡ Some q → (z : Object) × (object_at m.store q ≡ Some z)) → unless_trap (read_effect s f m.store d r) (Some a) ≡ Some a
  reads d None a there = refl
  reads d (Some q) a there = let z = there q refl in reads_by_cases (object_at m.store q) z.0 z.1
    where
      either : (b : Bool) (e : Effect) → unless_trap e (Some a) ≡ Some a → unless_trap (cond b e (Stops q)) (Some a) ≡ Some a
      either true e h = h
      either false e h = refl

      reads_by_cases : (o : Option Object) (z : Object) → o ≡ Some z
          → unless_trap (or_trap Nil o (λ o. cond (precedes s.edges o.strand s.strand) (Goes (onward (record f { refs = slice_set f.refs d (Some q) })) m.store) (Stops q))) (Some a) ≡ Some a
      reads_by_cases None z e = absurd cc
      reads_by_cases (Some o) z e = either (precedes s.edges o.strand s.strand) _ refl

  swaps_to : (b : Bool) (e e' : Effect) (a : FieldAccess) → unless_trap e (Some a) ≡ Some a → unless_trap e' (Some a) ≡ Some a → unless_trap (cond b e e') (Some a) ≡ Some a
  swaps_to true e e' a h k = h
  swaps_to false e e' a h k = k

  pub reached : (i : Instr) (b : Bool) (n : Name) (at : ℕ) → Reaches s f m.store i b n at → Hit i b n at
  reached (Getr d o k) b n at r =
      let is = r.is in
      let name = r.name in
      let place : place_in (length r.object.refs) (int_in f k) ≡ Some at = r.place in
      hit (Getr d o k) b n at (read_effect s f m.store d (option_flatten (slice_get r.object.refs at))) false false (simp (name, is, place) refl)
      (reads d (option_flatten (slice_get r.object.refs at)) _ (λ q e. in_field p m N u n q r.object at r.is e)) (ap (access (strand_of u y) line.number false false) (named b o k false false n at r)) (λ w. absurd w)
  reached (Geti d o k) b n at r =
      let is = r.is in
      let name = r.name in
      let place : place_in (length r.object.ints) (int_in f k) ≡ Some at = r.place in
      hit (Geti d o k) b n at (Goes (onward (with_int f d (unwrap_or (slice_get r.object.ints at) (pos 0)))) m.store) false false (simp (name, is, place) refl) refl (ap (access (strand_of u y) line.number false false) (named b o k true false n at r)) (λ w. absurd w)
  reached (Putr o k v) b n at r =
      let is = r.is in
      let name = r.name in
      let mutable = r.mutable refl in
      let place : place_in (length r.object.refs) (int_in f k) ≡ Some at = r.place in
      hit (Putr o k v) b n at (Goes (onward f) (put_object m.store n (record r.object { refs = slice_set r.object.refs at (ref_in f v) }))) true false (simp (name, is, place, mutable) refl) refl
      (ap (access (strand_of u y) line.number true false) (named b o k false true n at r)) (λ w. refl)
  reached (Puti o k v) b n at r =
      let is = r.is in
      let name = r.name in
      let mutable = r.mutable refl in
      let place : place_in (length r.object.ints) (int_in f k) ≡ Some at = r.place in
      hit (Puti o k v) b n at (Goes (onward f) (put_object m.store n (record r.object { ints = slice_set r.object.ints at (int_in f v) }))) true false (simp (name, is, place, mutable) refl) refl
      (ap (access (strand_of u y) line.number true false) (named b o k true true n at r)) (λ w. refl)
  reached (Cas d o k e v) b n at r =
      let is = r.is in
      let name = r.name in
      let mutable = r.mutable refl in
      let place : place_in (length r.object.refs) (int_in f k) ≡ Some at = r.place in
      hit (Cas d o k e v) b n at
      (cond (same_name (option_flatten (slice_get r.object.refs at)) (ref_in f e)) (Goes (onward (with_int f d (pos 1))) (put_object m.store n (record r.object { refs = slice_set r.object.refs at (ref_in f v) }))) (Goes (onward (with_int f d (pos 0))) m.store))
      (same_name (value_of m.store (field_of b n at)) (ref_in f e)) true (simp (name, is, place, mutable) refl) (swaps_to (same_name (option_flatten (slice_get r.object.refs at)) (ref_in f e)) (Goes (onward (with_int f d (pos 1))) (put_object m.store n (record r.object { refs = slice_set r.object.refs at (ref_in f v) }))) (Goes (onward (with_int f d (pos 0))) m.store) (record { strand = strand_of u y; line = line.number; field = field_of b n at; writes = same_name (value_of m.store (field_of b n at)) (ref_in f e); swaps = true }) refl refl)
      (ap (swap_access (strand_of u y) line.number m.store (ref_in f e)) (named b o k false true n at r))
      (λ w. ap (λ q. same_name (option_flatten (slice_get (object_references q) at)) (ref_in f e)) w.0.is ∙ w.1)
  reached _ b n at r = absurd r

  pub reached_at : (b : Bool) (n : Name) (at : ℕ) → Reaches s f m.store line.instr b n at → (a : FieldAccess) × (next_access p m u ≡ Some a) × (a.field ≡ field_of b n at) × (a.strand ≡ strand_of u y)
  reached_at b n at r = let h = reached line.instr b n at r in (h.access, access_is ∙ h.is, h.field, h.strand)

  pub written_at : (b : Bool) (n : Name) (at : ℕ) → Writes s f m.store line.instr b n at → (a : FieldAccess) × (next_access p m u ≡ Some a) × (a.field ≡ field_of b n at) × (a.writes ≡ true)
  written_at b n at w = let h = reached line.instr b n at (reach_of line.instr w) in (h.access, access_is ∙ h.is, h.field, h.writes w)
    where
      reach_of : (i : Instr) → Writes s f m.store i b n at → Reaches s f m.store i b n at
      reach_of (Putr o k v) w = w
      reach_of (Puti o k v) w = w
      reach_of (Cas d o k e v) w = w.0
      reach_of _ w = absurd w

  -- AN ACCESS IS OF A FIELD THAT IS REACHED

  pub record Found (i : Instr) (a : FieldAccess) : Type 0 where
    pub number : Bool
    pub name : Name
    pub at : ℕ
    pub reach : Reaches s f m.store i number name at
    pub field : a.field ≡ field_of number name at
    pub strand : a.strand ≡ strand_of u y

  traps_none : (kind : Trap) (a : Option FieldAccess) (b : FieldAccess) → unless_trap (Traps kind) a ≡ Some b → ⊥
  traps_none kind a b e = let h : None ≡ Some b = e in cc

  -- the object, the field and what is done to it
  found : (number : Bool) (o k : ℕ) (go : Name → Object → ℕ → Effect) (acc : Option Field → Option FieldAccess) (a : FieldAccess) → acc None ≡ None
      → unless_trap (with_object m.store (ref_in f o) (λ n z. or_trap Range (place_in (fields_of number z) (int_in f k)) (go n z))) (acc (field_at number (ref_in f o) (int_in f k))) ≡ Some a
      → (n : Name) × (z : Object) × (at : ℕ) × (ref_in f o ≡ Some n) × (object_at m.store n ≡ Some z) × (place_in (fields_of number z) (int_in f k) ≡ Some at) × (unless_trap (go n z at) (acc (Some (field_of number n at))) ≡ Some a)
  found number o k go acc a none h = by_name (ref_in f o) refl h
    where
      by_place : (n : Name) (z : Object) → ref_in f o ≡ Some n → object_at m.store n ≡ Some z → (w : Option ℕ) → place_in (fields_of number z) (int_in f k) ≡ w
          → unless_trap (or_trap Range w (go n z)) (acc (field_at number (Some n) (int_in f k))) ≡ Some a
          → (n : Name) × (z : Object) × (at : ℕ) × (ref_in f o ≡ Some n) × (object_at m.store n ≡ Some z) × (place_in (fields_of number z) (int_in f k) ≡ Some at) × (unless_trap (go n z at) (acc (Some (field_of number n at))) ≡ Some a)
      by_place n z en ez None ew h = absurd (traps_none Range (acc (field_at number (Some n) (int_in f k))) a h)
      by_place n z en ez (Some at) ew h =
          (n, z, at, en, ez, ew, ap (λ w. unless_trap (go n z at) (acc w)) (sym (ap (field_at number (Some n)) (index_of (fields_of number z) (int_in f k) at ew))) ∙ h)

      by_object : (n : Name) → ref_in f o ≡ Some n → (w : Option Object) → object_at m.store n ≡ w
          → unless_trap (or_trap Nil w (λ z. or_trap Range (place_in (fields_of number z) (int_in f k)) (go n z))) (acc (field_at number (Some n) (int_in f k))) ≡ Some a
          → (n : Name) × (z : Object) × (at : ℕ) × (ref_in f o ≡ Some n) × (object_at m.store n ≡ Some z) × (place_in (fields_of number z) (int_in f k) ≡ Some at) × (unless_trap (go n z at) (acc (Some (field_of number n at))) ≡ Some a)
      by_object n en None ew h = absurd (traps_none Nil (acc (field_at number (Some n) (int_in f k))) a h)
      by_object n en (Some z) ew h = by_place n z en ew (place_in (fields_of number z) (int_in f k)) refl h

      by_name : (w : Option Name) → ref_in f o ≡ w
          → unless_trap (with_object m.store w (λ n z. or_trap Range (place_in (fields_of number z) (int_in f k)) (go n z))) (acc (field_at number w (int_in f k))) ≡ Some a
          → (n : Name) × (z : Object) × (at : ℕ) × (ref_in f o ≡ Some n) × (object_at m.store n ≡ Some z) × (place_in (fields_of number z) (int_in f k) ≡ Some at) × (unless_trap (go n z at) (acc (Some (field_of number n at))) ≡ Some a)
      by_name None ew h = absurd (traps_none Nil (acc (field_at number None (int_in f k))) a h)
      by_name (Some n) ew h = by_object n ew (object_at m.store n) refl h

  -- the access made is this one
  made : (e : Effect) (b a : FieldAccess) → unless_trap e (Some b) ≡ Some a → b ≡ a
  made (Goes x st) b a h = same_Some b a h
  made (Prints k) b a h = same_Some b a h
  made (Calls g) b a h = same_Some b a h
  made (Forks g k) b a h = same_Some b a h
  made Returns b a h = same_Some b a h
  made (Traps kind) b a h = absurd (traps_none kind (Some b) a h)
  made (Stops n) b a h = same_Some b a h

  unfrozen : (b : Bool) (e : Effect) (o : Option FieldAccess) (a : FieldAccess) → unless_trap (cond b e (Traps Frozen)) o ≡ Some a → (b ≡ true) × (unless_trap e o ≡ Some a)
  unfrozen true e o a h = (refl, h)
  unfrozen false e o a h = absurd (traps_none Frozen o a h)

  plain : (i : Instr) (number : Bool) (o k : ℕ) (go : Name → Object → ℕ → Effect) (writes swaps mutable : Bool) (a : FieldAccess)
      → ((n : Name) (at : ℕ) → Reach s f m.store number mutable o k number n at → Reaches s f m.store i number n at)
      → ((n : Name) (z : Object) (at : ℕ) (b : FieldAccess) → unless_trap (go n z at) (Some b) ≡ Some a → (mutable ≡ true → z.mutable ≡ true) × (b ≡ a))
      → unless_trap (with_object m.store (ref_in f o) (λ n z. or_trap Range (place_in (fields_of number z) (int_in f k)) (go n z))) (access (strand_of u y) line.number writes swaps (field_at number (ref_in f o) (int_in f k))) ≡ Some a → Found i a
  plain i number o k go writes swaps mutable a reach split h =
      let z = found number o k go (access (strand_of u y) line.number writes swaps) a refl h in
      let b : FieldAccess = record { strand = strand_of u y; line = line.number; field = field_of number z.0 z.2; writes = writes; swaps = swaps } in
      let w = split z.0 z.1 z.2 b z.6 in
      let same : b ≡ a = w.1 in
      record {
        number = number;
        name = z.0;
        at = z.2;
        reach = reach z.0 z.2 (record { kind = refl; name = z.3; object = z.1; is = z.4; place = z.5; mutable = w.0 });
        field = ap (λ (c : FieldAccess). c.field) (sym same);
        strand = ap (λ (c : FieldAccess). c.strand) (sym same);
      }

  unmade : (e : Effect) (a : FieldAccess) → unless_trap e None ≡ Some a → ⊥
  unmade (Goes x st) a h = let q : None ≡ Some a = h in cc
  unmade (Prints k) a h = let q : None ≡ Some a = h in cc
  unmade (Calls g) a h = let q : None ≡ Some a = h in cc
  unmade (Forks g k) a h = let q : None ≡ Some a = h in cc
  unmade Returns a h = let q : None ≡ Some a = h in cc
  unmade (Traps kind) a h = let q : None ≡ Some a = h in cc
  unmade (Stops n) a h = let q : None ≡ Some a = h in cc

  pub found_by : (i : Instr) (a : FieldAccess) → made_by i ≡ Some a → Found i a
  found_by (Getr d o k) a h =
      plain (Getr d o k) false o k (λ n z at. read_effect s f m.store d (option_flatten (slice_get z.refs at))) false false false a (λ n at r. r) (λ n z at b e. ((λ q. absurd (false≢true q)), made (read_effect s f m.store d (option_flatten (slice_get z.refs at))) b a e)) h
  found_by (Geti d o k) a h =
      plain (Geti d o k) true o k (λ n z at. Goes (onward (with_int f d (unwrap_or (slice_get z.ints at) (pos 0)))) m.store) false false false a (λ n at r. r) (λ n z at b e. ((λ q. absurd (false≢true q)), made (Goes (onward (with_int f d (unwrap_or (slice_get z.ints at) (pos 0)))) m.store) b a e)) h
  found_by (Putr o k v) a h =
      plain (Putr o k v) false o k (λ n z at. unless_frozen z (Goes (onward f) (put_object m.store n (record z { refs = slice_set z.refs at (ref_in f v) })))) true false true a (λ n at r. r)
      (λ n z at b e. (let q = unfrozen z.mutable (Goes (onward f) (put_object m.store n (record z { refs = slice_set z.refs at (ref_in f v) }))) (Some b) a e in ((λ w. q.0), made (Goes (onward f) (put_object m.store n (record z { refs = slice_set z.refs at (ref_in f v) }))) b a q.1))) h
  found_by (Puti o k v) a h =
      plain (Puti o k v) true o k (λ n z at. unless_frozen z (Goes (onward f) (put_object m.store n (record z { ints = slice_set z.ints at (int_in f v) })))) true false true a (λ n at r. r)
      (λ n z at b e. (let q = unfrozen z.mutable (Goes (onward f) (put_object m.store n (record z { ints = slice_set z.ints at (int_in f v) }))) (Some b) a e in ((λ w. q.0), made (Goes (onward f) (put_object m.store n (record z { ints = slice_set z.ints at (int_in f v) }))) b a q.1))) h
  found_by (Cas d o k e v) a h =
      let z = found false o k (λ n z at. unless_frozen z (cond (same_name (option_flatten (slice_get z.refs at)) (ref_in f e)) (Goes (onward (with_int f d (pos 1))) (put_object m.store n (record z { refs = slice_set z.refs at (ref_in f v) }))) (Goes (onward (with_int f d (pos 0))) m.store)))
      (swap_access (strand_of u y) line.number m.store (ref_in f e)) a refl h in
      let b : FieldAccess = record { strand = strand_of u y; line = line.number; field = field_of false z.0 z.2; writes = same_name (value_of m.store (field_of false z.0 z.2)) (ref_in f e); swaps = true } in
      let does : Effect = cond (same_name (option_flatten (slice_get z.1.refs z.2)) (ref_in f e)) (Goes (onward (with_int f d (pos 1))) (put_object m.store z.0 (record z.1 { refs = slice_set z.1.refs z.2 (ref_in f v) }))) (Goes (onward (with_int f d (pos 0))) m.store) in
      let q = unfrozen z.1.mutable does (Some b) a z.6 in
      let same : b ≡ a = made does b a q.1 in
      record {
        number = false;
        name = z.0;
        at = z.2;
        reach = record { kind = refl; name = z.3; object = z.1; is = z.4; place = z.5; mutable = λ w. q.0 };
        field = ap (λ (c : FieldAccess). c.field) (sym same);
        strand = ap (λ (c : FieldAccess). c.strand) (sym same);
      }
  found_by i a h = absurd (unmade (effect s f m.store i) a h)

  pub found_at : (a : FieldAccess) → next_access p m u ≡ Some a → Found line.instr a
  found_at a e = found_by line.instr a (sym access_is ∙ e)
