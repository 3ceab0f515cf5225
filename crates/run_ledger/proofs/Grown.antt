-- What a step adds to the store: nothing, or the one object that it allocates; and objects keep their words.
use Rattle.run_ledger.proofs.Common.{sum_by-append, sum_by-cons, ◌≡◌, ℕ, ℤ, zero, suc, pos, ◌+◌, ◌-◌, ◌==◌, ◌<◌, ◌≤◌, Bool, true, false, cond, Option, Some, None, List, [], ◌∷◌, ◌++◌, length, slice_get, slice_set, replicate, take, ◌⊎◌, inl, inr, refl, ap, ap₂, sym, subst, ◌∙◌, arith, is_some, nat_lt, sum_by, length-set, option_flatten, false≢true, same_Some, length-take, length-replicate, got_within, got_some, none_some, Instr, Set, Mov, Movr, Nil as NilOf, Calc, Same, Jmp, Jz, Newm, Pack, Getr, Geti, Putr, Puti, Cntr, Cnti, Freeze, Cas, Call, Par, Ret, Out, Line, ProgramText, Name, Object, Frame, Task, Trap, Range, Frozen, Div, Size, Depth, Trapped, MachineState, Effect, Goes, Prints, Calls, Forks, Returns, Traps, Stops, StepContext, effect, made, row_of, object_at, put_object, counts_in, int_in, ref_in, or_trap, with_object, read_effect, calculated, place_in, same_name, onward, words_asked, words_for, precedes, IsStored, setting, fetched, step, follow, called, returned, returned_to, last_return, child_ended_by, last_of, result_at, result_of, sibling, is_left, or_same, join_of, ended_by, can_step, is_running, asked, asked_line, frame_limit, depth_limit, put_cases, made_cases, in_row, next_name, IsForkJoinState, empty_rows, asked_at, object_later, made_here, can_runs, step_taken, step_none, store_words, object_words_of, words_at}
use Rattle.path_laws.specs.below.hh_model.{Nil}

-- WORDS OF A STORE

sum_set : {A : Type 0} (g : A → ℕ) (xs : List A) (k : ℕ) (x y : A) → slice_get xs k ≡ Some x → sum_by g (slice_set xs k y) + g x ≡ sum_by g xs + g y
sum_set g [] k x y e = absurd cc
sum_set g (z ∷ xs) zero x y e =
    let same : z ≡ x = same_Some z x e in
    let q = ap g same in
    let a = sum_by-cons g z xs in
    let b : sum_by g (slice_set (z ∷ xs) zero y) ≡ g y + sum_by g xs = sum_by-cons g y xs in
    omega arith
sum_set g (z ∷ xs) (suc k) x y e =
    let more = sum_set g xs k x y e in
    let a = sum_by-cons g z xs in
    let b : sum_by g (slice_set (z ∷ xs) (suc k) y) ≡ g z + sum_by g (slice_set xs k y) = sum_by-cons g z (slice_set xs k y) in
    omega arith

put_words : (store : List (List Object)) (n : Name) (x y : Object) → object_at store n ≡ Some x → object_words_of (Some y) ≡ object_words_of (Some x) → store_words (put_object store n y) ≡ store_words store
put_words store n x y is w =
    let row = in_row store (slice_get store n.task) n.task n.count x refl is in
    let new : List Object = slice_set (row_of (slice_get store n.task)) n.count y in
    let at : row_of (slice_get store n.task) ≡ row.0 = ap row_of row.1 in
    let a = sum_set (λ r. sum_by (λ o. object_words_of (Some o)) r) store n.task row.0 new row.1 in
    let b = sum_set (λ o. object_words_of (Some o)) row.0 n.count x y row.2 in
    let c : sum_by (λ o. object_words_of (Some o)) new ≡ sum_by (λ o. object_words_of (Some o)) (slice_set row.0 n.count y) = ap (λ r. sum_by (λ o. object_words_of (Some o)) (slice_set r n.count y)) at in
    omega arith

two_empty : (store : List (List Object)) → store_words (store ++ [] ∷ [] ∷ []) ≡ store_words store
two_empty store = sum_by-append (λ row. sum_by (λ o. object_words_of (Some o)) row) store ([] ∷ [] ∷ []) ∙ omega arith

push_words : (store : List (List Object)) (t : ℕ) (row : List Object) (o : Object) → slice_get store t ≡ Some row → store_words (slice_set store t (row_of (slice_get store t) ++ o ∷ [])) ≡ store_words store + object_words_of (Some o)
push_words store t row o e =
    let at : row_of (slice_get store t) ≡ row = ap row_of e in
    let a = sum_set (λ r. sum_by (λ q. object_words_of (Some q)) r) store t row (row_of (slice_get store t) ++ o ∷ []) e in
    let b = sum_by-append (λ q. object_words_of (Some q)) row (o ∷ []) in
    let c : sum_by (λ q. object_words_of (Some q)) (row_of (slice_get store t) ++ o ∷ []) ≡ sum_by (λ q. object_words_of (Some q)) (row ++ o ∷ []) = ap (λ r. sum_by (λ q. object_words_of (Some q)) (r ++ o ∷ [])) at in
    let d : sum_by (λ q. object_words_of (Some q)) (o ∷ []) ≡ object_words_of (Some o) = sum_by-cons (λ q. object_words_of (Some q)) o [] ∙ omega arith in
    omega arith

-- EFFECTS

-- each object of the first store is in the second, with as many words
abbrev pub Within : List (List Object) → List (List Object) → Type 0
Within store' store = ((n : Name) (q : Object) → object_at store' n ≡ Some q → (o : Object) × (object_at store n ≡ Some o)) × (store_words store' ≡ store_words store)

-- one more object, in the row of the task t, of at most these words
pub record Adds (t words : ℕ) (store store' : List (List Object)) : Type 0 where
  pub new : Object
  pub size : object_words_of (Some new) ≤ words
  pub is : store' ≡ slice_set store t (row_of (slice_get store t) ++ new ∷ [])

abbrev pub Grows : ℕ → Option ℕ → List (List Object) → List (List Object) → Type 0
Grows t next store store' = ((next ≡ None) × Within store' store) ⊎ ((w : ℕ) × (next ≡ Some w) × Adds t w store store')

-- the store after an effect, if the instruction allocates these words
abbrev Makes : StepContext → List (List Object) → Option ℕ → Effect → Type 0
Makes s store next (Goes f store') = Grows s.task next store store'
Makes s store next (Prints k) = next ≡ None
Makes s store next (Calls g) = next ≡ None
Makes s store next (Forks g h) = next ≡ None
Makes s store next Returns = next ≡ None
Makes s store next (Traps kind) = next ≡ None
Makes s store next (Stops n) = next ≡ None

module _ (s : StepContext) (f : Frame) (store : List (List Object)) where
  grows_nothing : Grows s.task None store store
  grows_nothing = inl (refl, (λ n q e. (q, e), refl))

  trap : {A : Type 0} (kind : Trap) (o : Option A) (go : A → Effect) → ((x : A) → Makes s store None (go x)) → Makes s store None (or_trap kind o go)
  trap kind None go each = refl
  trap kind (Some x) go each = each x

  object : (r : Option Name) (go : Name → Object → Effect) → ((n : Name) (x : Object) → object_at store n ≡ Some x → Makes s store None (go n x)) → Makes s store None (with_object store r go)
  object None go each = refl
  object (Some n) go each = object_by_cases (object_at store n) refl
    where
      object_by_cases : (o : Option Object) → object_at store n ≡ o → Makes s store None (or_trap Nil o (go n))
      object_by_cases None e = refl
      object_by_cases (Some x) e = each n x e

  put : (n : Name) (x y : Object) → object_at store n ≡ Some x → object_words_of (Some y) ≡ object_words_of (Some x) → Grows s.task None store (put_object store n y)
  put n x y is w = inl (refl, (λ k q e. elim (put_cases store n y k q e) [ inl p ↦ (x, ap (object_at store) p.0 ∙ is) | inr old ↦ (q, old) ], put_words store n x y is w))

  refs_words : (x : Object) (at : ℕ) (v : Option Name) → object_words_of (Some (record x { refs = slice_set x.refs at v })) ≡ object_words_of (Some x)
  refs_words x at v = ap (λ k. 2 + k + length x.ints) (length-set x.refs at v)

  ints_words : (x : Object) (at : ℕ) (v : ℤ) → object_words_of (Some (record x { ints = slice_set x.ints at v })) ≡ object_words_of (Some x)
  ints_words x at v = ap (λ k. 2 + length x.refs + k) (length-set x.ints at v)

  writable : (b : Bool) (go : Effect) → Makes s store None go → Makes s store None (cond b go (Traps Frozen))
  writable true go m = m
  writable false go m = refl

  either : (b : Bool) (e g : Effect) → Makes s store None e → Makes s store None g → Makes s store None (cond b e g)
  either true e g m k = m
  either false e g m k = k

  reads : (d : ℕ) (r : Option Name) → Makes s store None (read_effect s f store d r)
  reads d None = grows_nothing
  reads d (Some n) = trap Nil (object_at store n) _ (λ o. either (precedes s.edges o.strand s.strand) _ (Stops n) grows_nothing refl)

  newm : (d : ℕ) (o : Option (ℕ × ℕ)) → Makes s store (words_for o) (or_trap Size o (λ n. made s f store d (record { strand = s.strand; mutable = true; refs = replicate n.0 None; ints = replicate n.1 (pos 0) })))
  newm d None = refl
  newm d (Some n) = inr (
    2 + n.0 + n.1,
    refl,
    record {
      new = record { strand = s.strand; mutable = true; refs = replicate n.0 None; ints = replicate n.1 (pos 0) };
      size = omega (arith, length-replicate {A = Option Name} n.0 None, length-replicate n.1 (pos 0));
      is = refl;
    },
  )

  makes : (instr : Instr) → Makes s store (words_asked s.field_limit f instr) (effect s f store instr)
  makes (Set d k) = grows_nothing
  makes (Mov d a) = grows_nothing
  makes (Movr d a) = grows_nothing
  makes (NilOf d) = grows_nothing
  makes (Calc op d a b) = trap Div (calculated op (int_in f a) (int_in f b)) _ (λ x. grows_nothing)
  makes (Same d a b) = grows_nothing
  makes (Jmp to) = grows_nothing
  makes (Jz a to) = grows_nothing
  makes (Newm d a b) = newm d (counts_in s.field_limit (int_in f a) (int_in f b))
  makes (Pack d r i) = inr (
    2 + r + i,
    refl,
    record {
      new = record { strand = s.strand; mutable = false; refs = take r f.refs; ints = take i f.ints };
      size = omega (arith, length-take r f.refs, length-take i f.ints);
      is = refl;
    },
  )
  makes (Getr d o k) = object (ref_in f o) _ (λ n x is. trap Range (place_in (length x.refs) (int_in f k)) _ (λ at. reads d (option_flatten (slice_get x.refs at))))
  makes (Geti d o k) = object (ref_in f o) _ (λ n x is. trap Range (place_in (length x.ints) (int_in f k)) _ (λ at. grows_nothing))
  makes (Putr o k v) = object (ref_in f o) _ (λ n x is. trap Range (place_in (length x.refs) (int_in f k)) _ (λ at. writable x.mutable _ (put n x _ is (refs_words x at (ref_in f v)))))
  makes (Puti o k v) = object (ref_in f o) _ (λ n x is. trap Range (place_in (length x.ints) (int_in f k)) _ (λ at. writable x.mutable _ (put n x _ is (ints_words x at (int_in f v)))))
  makes (Cntr d o) = object (ref_in f o) _ (λ n x is. grows_nothing)
  makes (Cnti d o) = object (ref_in f o) _ (λ n x is. grows_nothing)
  makes (Freeze o) = object (ref_in f o) _ (λ n x is.
      either (s.owner n.task == s.task) (Goes (onward f) (put_object store n (record x { mutable = false }))) (Traps Frozen) (put n x (record x { mutable = false }) is refl) refl)
  makes (Cas d o k e v) = object (ref_in f o) _ (λ n x is. trap Range (place_in (length x.refs) (int_in f k)) _ (λ at. writable x.mutable _ (either (same_name (option_flatten (slice_get x.refs at)) (ref_in f e)) _ _ (put n x _ is (refs_words x at (ref_in f v))) grows_nothing)))
  makes (Call g) = refl
  makes (Par g h) = refl
  makes Ret = refl
  makes (Out a) = refl

-- STEPS

module _ (m : MachineState) (t : ℕ) (x : Task) where
  store_either : (b : Bool) (m1 m2 : MachineState) → m1.store ≡ m.store → m2.store ≡ m.store → (cond b m1 m2).store ≡ m.store
  store_either true m1 m2 e g = e
  store_either false m1 m2 e g = g

  store_or : {A : Type 0} (o : Option A) (go : A → MachineState) → ((y : A) → (go y).store ≡ m.store) → (or_same m o go).store ≡ m.store
  store_or None go each = refl
  store_or (Some y) go each = each y

  ended_store : (parent : ℕ) (result : ℤ × Option Name) (other : Option (ℤ × Option Name)) → (child_ended_by m t x parent result other).store ≡ m.store
  ended_store parent result None = refl
  ended_store parent result (Some r) =
      store_or (slice_get m.tasks parent) _ (λ z. store_or (slice_get m.tasks (sibling t)) _ (λ y. store_either (is_left t) (join_of m parent z t x y result r) (join_of m parent z (t - 1) y x r result) refl refl))

  last_store : (parent : Option ℕ) → (last_return m t x parent).store ≡ m.store
  last_store None = refl
  last_store (Some parent) = ended_store parent (result_of x.top) (result_at (slice_get m.tasks (sibling t)))

  returned_store : (o : Option Frame) → (returned_to m t x o).store ≡ m.store
  returned_store None = last_store x.parent
  returned_store (Some f) = refl

  within_same : (store : List (List Object)) → store ≡ m.store → Within store m.store
  within_same store e = (λ n q h. (q, ap (λ w. object_at w n) (sym e) ∙ h), ap store_words e)

  within_fork : (b : Bool) (m1 m2 : MachineState) → m1.store ≡ m.store ++ [] ∷ [] ∷ [] → m2.store ≡ m.store → Within (cond b m1 m2).store m.store
  within_fork true m1 m2 e g = (λ n q h. (q, empty_rows m.store n.task n.count q (ap (λ w. object_at w n) (sym e) ∙ h)), ap store_words e ∙ two_empty m.store)
  within_fork false m1 m2 e g = within_same m2.store g

  followed : (p : ProgramText) (line : ℕ) (next : Option ℕ) (e : Effect) → Makes (setting m t x) m.store next e → Grows t next m.store (follow m t x line e).store
  followed p line next (Goes f store) k = k
  followed p line next (Prints z) k = inl (k, within_same m.store refl)
  followed p line next (Calls g) k = inl (k, within_same (called m t x g line).store (store_either (nat_lt (length x.below + 1) frame_limit) _ (ended_by m (Trapped Depth t line)) refl refl))
  followed p line next (Forks g h) k = inl (k, within_fork (nat_lt x.depth depth_limit) _ (ended_by m (Trapped Depth t line)) refl refl)
  followed p line next Returns k = inl (k, within_same (returned m t x).store (returned_store (last_of x.below)))
  followed p line next (Traps kind) k = inl (k, within_same m.store refl)
  followed p line next (Stops n) k = inl (k, within_same m.store refl)

module _ (p : ProgramText) (m : MachineState) (t : ℕ) (can : can_step m t ≡ true) where
  grows_line : (x : Task) (o : Option Line) → slice_get m.tasks t ≡ Some x → fetched p x.top ≡ o → Grows t (asked_line m.field_limit x.top o) m.store (step p m t).store
  grows_line x None is il = inl (refl, (λ n q h. (q, ap (λ (w : MachineState). object_at w.store n) (sym (step_none p m t x can is il)) ∙ h), ap (λ (w : MachineState). store_words w.store) (step_none p m t x can is il)))
  grows_line x (Some line) is il =
      subst (λ (w : MachineState). Grows t (words_asked m.field_limit x.top line.instr) m.store w.store) (sym (step_taken p m t x line can is il))
      (followed m t x p line.number (words_asked m.field_limit x.top line.instr) (effect (setting m t x) x.top m.store line.instr) (makes (setting m t x) x.top m.store line.instr))

  grows_task : (o : Option Task) → slice_get m.tasks t ≡ o → is_running o ≡ true → Grows t (asked p m t) m.store (step p m t).store
  grows_task None e h = absurd (false≢true h)
  grows_task (Some x) e h = subst (λ o. Grows t o m.store (step p m t).store) (sym (asked_at p m t x e h)) (grows_line x (fetched p x.top) e refl)

  pub step_grows : Grows t (asked p m t) m.store (step p m t).store
  step_grows = grows_task (slice_get m.tasks t) refl (can_runs m t can)

-- what is known of names after a step
pub record Grown (p : ProgramText) (m : MachineState) (t : ℕ) : Type 0 where
  pub up : (n : Name) → IsStored m n → IsStored (step p m t) n
  pub words : (n : Name) → IsStored m n → words_at (step p m t) n ≡ words_at m n
  pub down : (n : Name) → IsStored (step p m t) n → IsStored m n ⊎ ((n ≡ next_name t m.store) × (is_some (asked p m t) ≡ true))
  pub new : (w : ℕ) → asked p m t ≡ Some w → IsStored (step p m t) (next_name t m.store) × (words_at (step p m t) (next_name t m.store) ≤ w)
  pub none : asked p m t ≡ None → store_words (step p m t).store ≡ store_words m.store
  pub some : (w : ℕ) → asked p m t ≡ Some w → store_words (step p m t).store ≡ store_words m.store + words_at (step p m t) (next_name t m.store)

-- the next name of a task has no object yet
pub next_unstored : (m : MachineState) (t : ℕ) → IsStored m (next_name t m.store) → ⊥
next_unstored m t s = let lt : length (row_of (slice_get m.store t)) < length (row_of (slice_get m.store t)) = got_within (row_of (slice_get m.store t)) (length (row_of (slice_get m.store t))) s.0 s.1 in omega arith

module _ (p : ProgramText) (m : MachineState) (t : ℕ) (K : IsForkJoinState m) (can : can_step m t ≡ true) (t_row : t < length m.store) where
  same_words : (o new : Object) → length new.refs ≡ length o.refs → length new.ints ≡ length o.ints → object_words_of (Some new) ≡ object_words_of (Some o)
  same_words o new r i = ap₂ (λ a b. 2 + a + b) r i

  old_words : (n : Name) → IsStored m n → words_at (step p m t) n ≡ words_at m n
  old_words n s = let l = object_later p m t K n s.0 s.1 in ap object_words_of l.1 ∙ (same_words s.0 l.0 l.2.refs l.2.ints ∙ sym (ap object_words_of s.1))

  down_by : Grows t (asked p m t) m.store (step p m t).store → (n : Name) → IsStored (step p m t) n → IsStored m n ⊎ ((n ≡ next_name t m.store) × (is_some (asked p m t) ≡ true))
  down_by (inl g) n s = inl (g.1.0 n s.0 s.1)
  down_by (inr (w, e, a)) n s = elim (made_cases m.store t a.new n s.0 (ap (λ u. object_at u n) (sym a.is) ∙ s.1)) [
    | inl h ↦ inr (λ i. record { task = h.0 i; count = h.1 i }, ap is_some e)
    | inr old ↦ inl (s.0, old)
  ]

  new_by : Grows t (asked p m t) m.store (step p m t).store → (w : ℕ) → asked p m t ≡ Some w → IsStored (step p m t) (next_name t m.store) × (words_at (step p m t) (next_name t m.store) ≤ w)
  new_by (inl g) w e = absurd cc
  new_by (inr (v, e', a)) w e =
      let row = got_some m.store t t_row in
      let at : object_at (step p m t).store (next_name t m.store) ≡ Some a.new = ap (λ u. object_at u (next_name t m.store)) a.is ∙ made_here m.store t row.0 a.new row.1 in
      let same : v ≡ w = same_Some v w (sym e' ∙ e) in
      ((a.new, at), subst (λ k. k ≤ w) (sym (ap object_words_of at)) (subst (λ k. object_words_of (Some a.new) ≤ k) same a.size))

  none_by : Grows t (asked p m t) m.store (step p m t).store → asked p m t ≡ None → store_words (step p m t).store ≡ store_words m.store
  none_by (inl g) e = g.1.1
  none_by (inr (v, e', a)) e = absurd (none_some (sym e ∙ e'))

  some_by : Grows t (asked p m t) m.store (step p m t).store → (w : ℕ) → asked p m t ≡ Some w → store_words (step p m t).store ≡ store_words m.store + words_at (step p m t) (next_name t m.store)
  some_by (inl g) w e = absurd cc
  some_by (inr (v, e', a)) w e =
      let row = got_some m.store t t_row in
      let at : object_at (step p m t).store (next_name t m.store) ≡ Some a.new = ap (λ u. object_at u (next_name t m.store)) a.is ∙ made_here m.store t row.0 a.new row.1 in
      ap store_words a.is ∙ (push_words m.store t row.0 a.new row.1 ∙ ap (λ k. store_words m.store + k) (sym (ap object_words_of at)))

  pub grown : Grown p m t
  grown = record {
    up = λ n s. (let l = object_later p m t K n s.0 s.1 in (l.0, l.1));
    words = old_words;
    down = down_by (step_grows p m t can);
    new = new_by (step_grows p m t can);
    none = none_by (step_grows p m t can);
    some = some_by (step_grows p m t can);
  }
