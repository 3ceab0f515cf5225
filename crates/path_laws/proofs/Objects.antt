-- After a step every object is still there.
use Rattle.path_laws.proofs.Common.{◌≡◌, ℕ, ℤ, zero, suc, ◌<◌, true, false, Option, Some, None, List, [], ◌∷◌, ◌++◌, length, slice_get, slice_set, set, ◌⊎◌, inl, inr, refl, ap, sym, subst, ◌∙◌, length-set, append_assoc, append-nil, cases_eq, both_ways, same_Some, got_same, got_other, got_front, got_within, none_set, ProgramText, Name, Object, Task, MachineState, row_of, object_at, put_object, step, run, run_from, start, setting, IsWriteTo, WritesNext, StaysAs, ObjectsStay, OutputsGrow, in_row, SetsRef, SetsInt, Freezes, IsForkJoinState, start_is_fork_join_state, run_is_fork_join_state, step_is_fork_join_state, Alters, step_cases}

-- an object after another one was added
pub made_stays : (store : List (List Object)) (t : ℕ) (q : Object) (n : Name) (o : Object) → object_at store n ≡ Some o
    → object_at (slice_set store t (row_of (slice_get store t) ++ q ∷ [])) n ≡ Some o
made_stays store t q n o is =
    let r = in_row store (slice_get store n.task) n.task n.count o refl is in
    elim (cases_eq n.task t) [
      | inl e ↦
          let at : slice_get store t ≡ Some r.0 = ap (slice_get store) (sym e) ∙ r.1 in
          let lt : n.count < length r.0 = got_within r.0 n.count o r.2 in
          ap (λ k. slice_get (row_of (slice_get (set store t (row_of (slice_get store t) ++ q ∷ [])) k)) n.count) e
          ∙ (ap (λ w. slice_get (row_of w) n.count) (got_same store t r.0 (row_of (slice_get store t) ++ q ∷ []) at)
          ∙ (ap (λ w. slice_get (row_of w ++ q ∷ []) n.count) at ∙ (got_front r.0 (q ∷ []) n.count lt ∙ r.2)))
      | inr ne ↦ ap (λ w. slice_get (row_of w) n.count) (got_other store t n.task (row_of (slice_get store t) ++ q ∷ []) ne) ∙ is
    ]

-- an object that was put there
pub put_here : (store : List (List Object)) (n : Name) (x y : Object) → object_at store n ≡ Some x → object_at (put_object store n y) n ≡ Some y
put_here store n x y is =
    let r = in_row store (slice_get store n.task) n.task n.count x refl is in
    ap (λ w. slice_get (row_of w) n.count) (got_same store n.task r.0 (slice_set (row_of (slice_get store n.task)) n.count y) r.1)
    ∙ (ap (λ w. slice_get (slice_set (row_of w) n.count y) n.count) r.1 ∙ got_same r.0 n.count x y r.2)

-- putting an object keeps the length of a row
pub put_rows : (store : List (List Object)) (m : Name) (y : Object) (u : ℕ) → length (row_of (slice_get (put_object store m y) u)) ≡ length (row_of (slice_get store u))
put_rows store m y u = elim (cases_eq u m.task) [
  | inr off ↦ ap (λ r. length (row_of r)) (got_other store m.task u (slice_set (row_of (slice_get store m.task)) m.count y) off)
  | inl e ↦ ap (λ k. length (row_of (slice_get (put_object store m y) k))) e ∙ (row (slice_get store m.task) refl ∙ ap (λ k. length (row_of (slice_get store k))) (sym e))
]
  where
    row : (o : Option (List Object)) → slice_get store m.task ≡ o → length (row_of (slice_get (put_object store m y) m.task)) ≡ length (row_of (slice_get store m.task))
    row None is = ap (λ r. length (row_of r)) (none_set store m.task (slice_set (row_of (slice_get store m.task)) m.count y) is ∙ sym is)
    row (Some xs) is =
        ap (λ r. length (row_of r)) (got_same store m.task xs (slice_set (row_of (slice_get store m.task)) m.count y) is)
        ∙ length-set (row_of (slice_get store m.task)) m.count y

-- an object after another one was put there
pub put_other : (store : List (List Object)) (k n : Name) (y o : Object) → object_at store n ≡ Some o → ((n.task ≡ k.task) × (n.count ≡ k.count) → ⊥)
    → object_at (put_object store k y) n ≡ Some o
put_other store k n y o is ne =
    let r = in_row store (slice_get store n.task) n.task n.count o refl is in
    elim (cases_eq n.task k.task) [
      | inl e ↦
          let at : slice_get store k.task ≡ Some r.0 = ap (slice_get store) (sym e) ∙ r.1 in
          ap (λ j. slice_get (row_of (slice_get (set store k.task (set (row_of (slice_get store k.task)) k.count y)) j)) n.count) e
          ∙ (ap (λ w. slice_get (row_of w) n.count) (got_same store k.task r.0 (set (row_of (slice_get store k.task)) k.count y) at)
          ∙ (ap (λ w. slice_get (set (row_of w) k.count y) n.count) at ∙ (got_other r.0 k.count n.count y (λ c. ne (e, c)) ∙ r.2)))
      | inr other ↦ ap (λ w. slice_get (row_of w) n.count) (got_other store k.task n.task (set (row_of (slice_get store k.task)) k.count y) other) ∙ is
    ]

-- two new rows
pub rows_stay : (rows : List (List Object)) (k c : ℕ) (o : Object) → slice_get (row_of (slice_get rows k)) c ≡ Some o → slice_get (row_of (slice_get (rows ++ [] ∷ [] ∷ []) k)) c ≡ Some o
rows_stay [] k c o e = absurd cc
rows_stay (row ∷ rows) zero c o e = e
rows_stay (row ∷ rows) (suc k) c o e = rows_stay rows k c o e

pub same_stays : (o : Object) → StaysAs o o
same_stays o = record { strand = refl; refs = refl; ints = refl; frozen = λ h. refl }

pub stays_on : (a b c : Object) → StaysAs a b → StaysAs b c → StaysAs a c
stays_on a b c h k = record {
  strand = k.strand ∙ h.strand;
  refs = k.refs ∙ h.refs;
  ints = k.ints ∙ h.ints;
  frozen = λ f. k.frozen (ap (λ (o : Object). o.mutable) (h.frozen f) ∙ f) ∙ h.frozen f;
}

ref_stays : (x : Object) (at : ℕ) (v : Option Name) → x.mutable ≡ true → StaysAs x (record x { refs = slice_set x.refs at v })
ref_stays x at v h = record { strand = refl; refs = length-set x.refs at v; ints = refl; frozen = λ f. absurd (both_ways x.mutable f h) }

int_stays : (x : Object) (at : ℕ) (k : ℤ) → x.mutable ≡ true → StaysAs x (record x { ints = slice_set x.ints at k })
int_stays x at k h = record { strand = refl; refs = refl; ints = length-set x.ints at k; frozen = λ f. absurd (both_ways x.mutable f h) }

freeze_stays : (x : Object) → StaysAs x (record x { mutable = false })
freeze_stays x = record { strand = refl; refs = refl; ints = refl; frozen = λ f. λ i. record x { mutable = (sym f) i } }

module _ (p : ProgramText) (m : MachineState) (t : ℕ) (K : IsForkJoinState m) where
  abbrev Later : Name → Object → List (List Object) → Type 0
  Later n o store = (new : Object) × (object_at store n ≡ Some new) × StaysAs o new × ((new ≡ o) ⊎ WritesNext p m t n)

  same_later : (n : Name) (o : Object) → object_at m.store n ≡ Some o → Later n o m.store
  same_later n o is = (o, is, same_stays o, inl refl)

  altered : (x : Task) (store : List (List Object)) (n : Name) (o : Object) → slice_get m.tasks t ≡ Some x → object_at m.store n ≡ Some o → Alters p m t x store → Later n o store
  altered x store n o ix is (inl e) = subst (Later n o) (sym e) (same_later n o is)
  altered x store n o ix is (inr (line, il, inl e)) = subst (Later n o) (sym e) (same_later n o is)
  altered x store n o ix is (inr (line, il, inr (inl a))) = subst (Later n o) (sym a.is) (o, made_stays m.store t a.new n o is, same_stays o, inl refl)
  altered x store n o ix is (inr (line, il, inr (inr w))) =
      subst (Later n o) (sym w.is) (elim (cases_eq n.task w.name.task) [
        | inl e ↦ elim (cases_eq n.count w.name.count) [
          | inl e' ↦
              let same : n ≡ w.name = λ i. record { task = e i; count = e' i } in
              let old : o ≡ w.old = same_Some o w.old (sym is ∙ (ap (object_at m.store) same ∙ w.was)) in (
                w.new,
                ap (object_at (put_object m.store w.name w.new)) same ∙ put_here m.store w.name w.old w.new w.was,
                subst (λ (q : Object). StaysAs q w.new) (sym old) (how w.old w.new w.how),
                inr (x, line, record { task = ix; fetched = il }, subst (λ (q : Name). IsWriteTo x.top line.instr q) (sym same) w.by),
              )
          | inr ne ↦ (o, put_other m.store w.name n w.new o is (λ h. ne h.1), same_stays o, inl refl)
        ]
        | inr ne ↦ (o, put_other m.store w.name n w.new o is (λ h. ne h.0), same_stays o, inl refl)
      ])
    where
      how : (old new : Object) → SetsRef x.top old new ⊎ (SetsInt old new ⊎ Freezes (setting m t x) w.name old new) → StaysAs old new
      how old new (inl h) = subst (StaysAs old) (sym h.1.2) (ref_stays old h.1.0 h.1.1 h.0)
      how old new (inr (inl h)) = subst (StaysAs old) (sym h.1.2) (int_stays old h.1.0 h.1.1 h.0)
      how old new (inr (inr h)) = subst (StaysAs old) (sym h.1) (freeze_stays old)

  pub object_later : (n : Name) (o : Object) → object_at m.store n ≡ Some o → Later n o (step p m t).store
  object_later n o is =
      step_cases p m t K (λ m'. Later n o m'.store) (same_later n o is) (λ x e ix run why. same_later n o is)
      (λ x y store outs ix run ep ed es ej names fields alters grows. altered x store n o ix is alters)
      (λ x parent e ix run pp which result. same_later n o is)
      (λ x g h ix run next top. (o, rows_stay m.store n.task n.count o is, same_stays o, inl refl))
      (λ parent l xp xl xr rl rr ip il ir pl left dl dr wl wr nl nr side. same_later n o is)

  pub outputs_later : (outs : List ℤ) × ((step p m t).outputs ≡ m.outputs ++ outs)
  outputs_later =
      step_cases p m t K (λ m'. (outs : List ℤ) × (m'.outputs ≡ m.outputs ++ outs)) outputs_later_same (λ x e ix run why. outputs_later_same)
      (λ x y store outs ix run ep ed es ej names fields alters grows. elim grows [ inl e ↦ ([], e ∙ sym (append-nil m.outputs)) | inr more ↦ (more.0 ∷ [], more.1) ])
      (λ x parent e ix run pp which result. outputs_later_same) (λ x g h ix run next top. outputs_later_same) (λ parent l xp xl xr rl rr ip il ir pl left dl dr wl wr nl nr side. outputs_later_same)
    where
      outputs_later_same : (outs : List ℤ) × (m.outputs ≡ m.outputs ++ outs)
      outputs_later_same = ([], sym (append-nil m.outputs))

objects_from : (p : ProgramText) (m : MachineState) (more : List ℕ) (n : Name) (o : Object) → IsForkJoinState m → object_at m.store n ≡ Some o
    → (new : Object) × (object_at (run_from p m more).store n ≡ Some new) × StaysAs o new
objects_from p m [] n o K is = (o, is, same_stays o)
objects_from p m (t ∷ more) n o K is =
    let l = object_later p m t K n o is in
    let r = objects_from p (step p m t) more n l.0 (step_is_fork_join_state p m t K) l.1 in
    (r.0, r.1, stays_on o l.0 r.0 l.2 r.2)

pub objects_stay : ObjectsStay
objects_stay p limit ts more n o is = objects_from p (run p limit ts) more n o (run_is_fork_join_state p (start p limit) ts (start_is_fork_join_state p limit)) is

outputs_from : (p : ProgramText) (m : MachineState) (more : List ℕ) → IsForkJoinState m → (outs : List ℤ) × ((run_from p m more).outputs ≡ m.outputs ++ outs)
outputs_from p m [] K = ([], sym (append-nil m.outputs))
outputs_from p m (t ∷ more) K =
    let l = outputs_later p m t K in
    let r = outputs_from p (step p m t) more (step_is_fork_join_state p m t K) in
    (l.0 ++ r.0, r.1 ∙ (ap (λ os. os ++ r.0) l.1 ∙ append_assoc m.outputs l.0 r.0))

pub outputs_grow : OutputsGrow
outputs_grow p limit ts more = outputs_from p (run p limit ts) more (run_is_fork_join_state p (start p limit) ts (start_is_fork_join_state p limit))
