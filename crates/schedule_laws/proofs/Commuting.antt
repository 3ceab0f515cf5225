-- Two moves of concurrent tasks, in either order.
use Rattle.schedule_laws.proofs.Common.{◌≡◌, ℕ, ◌+◌, ◌<◌, true, Option, Some, None, List, ◌++◌, length, map, slice_get, inl, inr, refl, ap, sym, subst, ◌∙◌, arith, length-append, option_map, In, in_append_cases, in_append_left, in_append_right, got_none, Name, Edge, Object, Task, End, Done, Trapped, Entangled, MachineState, object_at, is_running, IsForkJoinState, object_to, task_to, end_to, AreRenamed, Change, Same, Grows, Edits, Edit, changed, edited, row_fixed, task_fixed, itself}
use Rattle.schedule_laws.proofs.StoreSteps.{after_change}
use Rattle.schedule_laws.proofs.Swapping.{Agree, AllAt, Stored, all_at, changed_front, changed_length, changes_swap, sets, sets_front, sets_length, sets_swap}
use Rattle.schedule_laws.proofs.Moves.{Move, Moves, change_in, edges_in, news, puts, rows_in}
use Rattle.schedule_laws.proofs.Apart.{Kind, kind_within, kinds_apart}

-- TWO STATES THAT ARE EQUAL except for the order of edges and the outputs
pub record Even (m m' : MachineState) : Type 0 where
  pub limit : m'.field_limit ≡ m.field_limit
  pub tasks : m'.tasks ≡ m.tasks
  pub store : m'.store ≡ m.store
  pub edges : (e : Edge) → (In m'.edges e → In m.edges e) × (In m.edges e → In m'.edges e)
  pub end : m'.end ≡ m.end

pub even_back : (m m' : MachineState) → Even m m' → Even m' m
even_back m m' E = record { limit = sym E.limit; tasks = sym E.tasks; store = sym E.store; edges = λ e. ((E.edges e).1, (E.edges e).0); end = sym E.end }

task_same : (o : Option Task) → option_map (task_to itself) o ≡ o
task_same None = refl
task_same (Some x) = ap Some (task_fixed itself x (record { parent = λ q e. refl; result = λ k r e. refl; top = λ r i. refl; below = λ y i r j. refl }))

row_same : (o : Option (List Object)) → option_map (map (object_to itself)) o ≡ o
row_same None = refl
row_same (Some row) = ap Some (row_fixed itself row (λ o i. (refl, λ r j. refl)))

end_same : (o : Option End) → option_map (end_to itself) o ≡ o
end_same None = refl
end_same (Some Done) = refl
end_same (Some (Trapped kind t line)) = refl
end_same (Some (Entangled reader owner)) = refl

pub even_alike : (m m' : MachineState) → Even m m' → AreRenamed itself m m'
even_alike m m' E = record {
  limit = E.limit;
  count = ap (λ (ts : List Task). length ts) E.tasks;
  tasks = λ k. ap (λ ts. slice_get ts k) E.tasks ∙ sym (task_same (slice_get m.tasks k));
  objects = λ k. ap (λ (st : List (List Object)). slice_get st k) E.store ∙ sym (row_same (slice_get m.store k));
  edges = E.edges;
  end = E.end ∙ sym (end_same m.end);
}

-- edges added in either order
pub in_swap : (es xs bs : List Edge) (e : Edge) → In ((es ++ xs) ++ bs) e → In ((es ++ bs) ++ xs) e
in_swap es xs bs e i = elim (in_append_cases (es ++ xs) bs e i) [
  | inr b ↦ in_append_left (es ++ bs) xs e (in_append_right es bs e b)
  | inl h ↦ elim (in_append_cases es xs e h) [
    | inl old ↦ in_append_left (es ++ bs) xs e (in_append_left es bs e old)
    | inr a ↦ in_append_right (es ++ bs) xs e a
  ]
]

module _ (m : MachineState) (K : IsForkJoinState m) (rows : length m.store ≡ length m.tasks) (t u : ℕ) (two : t ≡ u → ⊥) (run_t : is_running (slice_get m.tasks t) ≡ true) (run_u : is_running (slice_get m.tasks u) ≡ true) (mt mu : Move)
    (kt : AllAt (Kind m t) (puts t mt)) (ku : AllAt (Kind m u) (puts u mu)) (st : Stored m.store (change_in mt)) (su : Stored m.store (change_in mu)) where
  stored_on : (op : Change) → Stored m.store op → (b : Change) → Stored m.store b → (v : ℕ) → Stored (changed op v m.store) b
  stored_on op s Same z v = tt
  stored_on op s (Grows o) z v = tt
  stored_on op s (Edits n e) z v = elim (after_change op v m.store (stored_on_there op s) n z.0 z.1) [
    | inl h ↦ (z.0, h)
    | inr h ↦ (edited h.0 z.0, h.2)
  ]
    where
      stored_on_there : (op : Change) → Stored m.store op → (k : Name) (d : Edit) → op ≡ Edits k d → (o : Object) × (object_at m.store k ≡ Some o)
      stored_on_there op s k d e = subst (Stored m.store) e s

  pub tasks_then : (m1 m12 : MachineState) → Moves m m1 t mt → Moves m1 m12 u mu → m12.tasks ≡ (sets (puts u mu) (sets (puts t mt) m.tasks) ++ news mt) ++ news mu
  tasks_then m1 m12 H H1 =
      H1.tasks
      ∙ (ap (λ ts. sets (puts u mu) ts ++ news mu) H.tasks
      ∙ ap (λ ts. ts ++ news mu) (sets_front (puts u mu) (sets (puts t mt) m.tasks) (news mt)
      (all_at (Kind m u) (λ k. k < length (sets (puts t mt) m.tasks)) (λ k a. (let lt : k < length m.tasks = kind_within m K u run_u k a in omega (arith, sets_length (puts t mt) m.tasks))) (puts u mu) ku)))

  pub tasks_cross : sets (puts u mu) (sets (puts t mt) m.tasks) ≡ sets (puts t mt) (sets (puts u mu) m.tasks)
  tasks_cross =
      sets_swap (puts u mu) (puts t mt) m.tasks
      (all_at (Kind m u) (λ k. AllAt (λ j. k ≡ j → ⊥) (puts t mt))
      (λ k a. all_at (Kind m t) (λ j. k ≡ j → ⊥) (λ j b e. kinds_apart m K t u two run_t run_u j k b a (sym e)) (puts t mt) kt) (puts u mu) ku)

  within : (v : ℕ) → v < length m.tasks → v < length (changed (change_in mt) t m.store)
  within v lt = omega (arith, changed_length (change_in mt) t m.store, rows)

  pub store_then : (m1 m12 : MachineState) → Moves m m1 t mt → Moves m1 m12 u mu → m12.store ≡ (changed (change_in mu) u (changed (change_in mt) t m.store) ++ rows_in mt) ++ rows_in mu
  store_then m1 m12 H H1 =
      H1.store
      ∙ (ap (λ s. changed (change_in mu) u s ++ rows_in mu) H.store
      ∙ ap (λ s. s ++ rows_in mu) (changed_front (change_in mu) u (changed (change_in mt) t m.store) (rows_in mt) (within u (kind_within m K u run_u u (inl refl))) (stored_on (change_in mt) st (change_in mu) su t)))

  pub store_cross : Agree (change_in mu) (change_in mt) → changed (change_in mu) u (changed (change_in mt) t m.store) ≡ changed (change_in mt) t (changed (change_in mu) u m.store)
  store_cross agree =
      let rt = row_there t (kind_within m K t run_t t (inl refl)) in
      let ru = row_there u (kind_within m K u run_u u (inl refl)) in
      changes_swap m.store u t (λ e. two (sym e)) ru.0 rt.0 ru.1 rt.1 (change_in mu) (change_in mt) su st agree
    where
      row_there : (v : ℕ) → v < length m.tasks → (row : List Object) × (slice_get m.store v ≡ Some row)
      row_there v lt = row_there_by_cases (slice_get m.store v) refl
        where
          row_there_by_cases : (o : Option (List Object)) → slice_get m.store v ≡ o → (row : List Object) × (slice_get m.store v ≡ Some row)
          row_there_by_cases (Some row) e = (row, e)
          row_there_by_cases None e = absurd (got_none m.store v (omega (arith, rows)) e)

  pub edges_then : (m1 m12 : MachineState) → Moves m m1 t mt → Moves m1 m12 u mu → m12.edges ≡ (m.edges ++ edges_in t mt (length m.tasks)) ++ edges_in u mu (length m.tasks + length (news mt))
  edges_then m1 m12 H H1 =
      let n1 : length m1.tasks ≡ length m.tasks + length (news mt) = ap (λ (ts : List Task). length ts) H.tasks ∙ (length-append (sets (puts t mt) m.tasks) (news mt) ∙ ap (λ k. k + length (news mt)) (sets_length (puts t mt) m.tasks)) in
      H1.edges ∙ (ap (λ es. es ++ edges_in u mu (length m1.tasks)) H.edges ∙ ap (λ k. (m.edges ++ edges_in t mt (length m.tasks)) ++ edges_in u mu k) n1)
