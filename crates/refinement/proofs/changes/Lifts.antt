-- If the last step of an entry changes the accounts and the memory in a way, it changes those with the steps and the
-- belongings of another task's part in the same way.
use Rattle.refinement.proofs.Common.{◌≡◌, ℕ, ℤ, ◌+◌, false, Option, List, ◌++◌, map, length, slice_get, ◌⊎◌, inl, inr, refl, ap, ap₂, sym, subst, ◌∙◌, cases_eq, both_ways, Addr, Located, Name, Object, Task, object_at, row_of, is_joined, is_waiting, is_on_path, owner_of, parent_of, Ledger, heap_of, or_fresh, merged, emptied, forked_heap, Heap, CallFrame, own, StepsAlone, WritesOne, AlikeFor, ForksTask, JoinsTasks, TasksCanJoin, StoresOne, StoresNumber, EndsTask, tree_beside, Belongings, Memory, In, objects_of_chunks, mapped_chunk, put_at, with_belongings, ForksBelongings, JoinsBelongings, WritesAt, StoresAt, StoresNumberAt, EndsBelongings, child_belongings, advanced, top_with_results}
use Rattle.refinement.proofs.objects.Untouched.{chunks_unwritten}
use Rattle.refinement.proofs.changes.UpdateOneTask.{at_belongings, off_belongings}

-- l and l' before and after the step of another task, k and k' with the private steps of u
module _ (l l' k k' : Ledger) (u : ℕ) (A : StepsAlone l k u) (A' : StepsAlone l' k' u) (E : AlikeFor u k k') where
  task_of : (z : ℕ) (o : Option Task) → (z ≡ u → ⊥) → slice_get l.machine.tasks z ≡ o → slice_get k.machine.tasks z ≡ o
  task_of z o ne e = A.tasks z ne ∙ e

  task_of' : (z : ℕ) (o : Option Task) → (z ≡ u → ⊥) → slice_get l'.machine.tasks z ≡ o → slice_get k'.machine.tasks z ≡ o
  task_of' z o ne e = A'.tasks z ne ∙ e

  -- of another task or of u
  tasks_too : (z : ℕ) → (slice_get l'.machine.tasks z ≡ slice_get l.machine.tasks z) → slice_get k'.machine.tasks z ≡ slice_get k.machine.tasks z
  tasks_too z e = elim (cases_eq z u) [
    | inl f ↦ ap (slice_get k'.machine.tasks) f ∙ (E.task ∙ ap (slice_get k.machine.tasks) (sym f))
    | inr ne ↦ A'.tasks z ne ∙ (e ∙ sym (A.tasks z ne))
  ]

  heaps_too : (z : ℕ) → (heap_of l' z ≡ heap_of l z) → heap_of k' z ≡ heap_of k z
  heaps_too z e = elim (cases_eq z u) [
    | inl f ↦ ap (heap_of k') f ∙ (ap or_fresh E.heap ∙ ap (heap_of k) (sym f))
    | inr ne ↦ A'.heaps z ne ∙ (e ∙ sym (A.heaps z ne))
  ]

  rows_too : (z : ℕ) → length (row_of (slice_get l'.machine.store z)) ≡ length (row_of (slice_get l.machine.store z)) → length (row_of (slice_get k'.machine.store z)) ≡ length (row_of (slice_get k.machine.store z))
  rows_too z e = elim (cases_eq z u) [
    | inl f ↦ ap (λ y. length (row_of (slice_get k'.machine.store y))) f ∙ (E.count ∙ ap (λ y. length (row_of (slice_get k.machine.store y))) (sym f))
    | inr ne ↦ A'.rows z ne ∙ (e ∙ sym (A.rows z ne))
  ]

  store_too : (n : Name) → object_at l'.machine.store n ≡ object_at l.machine.store n → object_at k'.machine.store n ≡ object_at k.machine.store n
  store_too n e = elim (cases_eq (own k n) u) [
    | inl f ↦ E.store n f
    | inr ne ↦ A'.store n (λ h. ne (E.owned' n (A'.tree.owners n.task ∙ h))) ∙ (e ∙ sym (A.store n (λ h. ne (A.tree.owners n.task ∙ h))))
  ]

  paths_too : (a z : ℕ) → is_on_path l'.machine.tasks a z ≡ is_on_path l.machine.tasks a z → is_on_path k'.machine.tasks a z ≡ is_on_path k.machine.tasks a z
  paths_too a z e = A'.tree.paths a z ∙ (e ∙ sym (A.tree.paths a z))

  -- if only what t owns changes from l to l', the same holds from k to k'
  pub alone_too : (t : ℕ) → StepsAlone l l' t → StepsAlone k k' t
  alone_too t B = record {
    tree = tree_beside l l' k k' B.tree A.tree A'.tree;
    tasks = λ z ne. tasks_too z (B.tasks z ne);
    heaps = λ z ne. heaps_too z (B.heaps z ne);
    rows = λ z ne. rows_too z (B.rows z ne);
    store = λ n ne. store_too n (B.store n (λ h. ne (A.tree.owners n.task ∙ h)));
  }

  pub forks_too : (t a b g h : ℕ) (x : Task) → (t ≡ u → ⊥) → (a ≡ u → ⊥) → (b ≡ u → ⊥) → ForksTask l l' t a b g h x → ForksTask k k' t a b g h x
  forks_too t a b g h x nt na nb F = record {
    task = task_of t _ nt F.task;
    waits = task_of' t _ nt F.waits;
    left = task_of' a _ na F.left;
    right = task_of' b _ nb F.right;
    tasks = λ z zt za zb. tasks_too z (F.tasks z zt za zb);
    owners = λ n. A'.tree.owners n ∙ (F.owners n ∙ sym (A.tree.owners n));
    paths = λ c z za zb. paths_too c z (F.paths c z za zb);
    store = λ n. store_too n (F.store n);
    rows = λ z. rows_too z (F.rows z);
    unmade_left = A.tasks a na ∙ F.unmade_left;
    unmade_right = A.tasks b nb ∙ F.unmade_right;
    new_left = A.rows a na ∙ F.new_left;
    new_right = A.rows b nb ∙ F.new_right;
    lone_left = λ z e. F.lone_left z (sym (A.tree.paths z a) ∙ e);
    lone_right = λ z e. F.lone_right z (sym (A.tree.paths z b) ∙ e);
    above_left = λ z e. elim (F.above_left z (sym (A'.tree.paths z a) ∙ e)) [ inl q ↦ inl q | inr q ↦ inr (A.tree.paths z t ∙ q) ];
    above_right = λ z e. elim (F.above_right z (sym (A'.tree.paths z b) ∙ e)) [ inl q ↦ inl q | inr q ↦ inr (A.tree.paths z t ∙ q) ];
    left_apart = F.left_apart;
    right_apart = F.right_apart;
    two = F.two;
    names = F.names;
    heap = A'.heaps t nt ∙ (F.heap ∙ ap (forked_heap F.names) (sym (A.heaps t nt)));
    heap_left = A'.heaps a na ∙ F.heap_left;
    heap_right = A'.heaps b nb ∙ F.heap_right;
    heaps = λ z zt za zb. heaps_too z (F.heaps z zt za zb);
  }

  pub joins_too : (p c d : ℕ) (x : Task) (rl rr : ℤ × Option Name) → (p ≡ u → ⊥) → (c ≡ u → ⊥) → (d ≡ u → ⊥) → JoinsTasks l l' p c d x rl rr → JoinsTasks k k' p c d x rl rr
  joins_too p c d x rl rr np nc nd J = record {
    owners = λ a. owner_too a (J.owners a);
    paths = λ a z. paths_too a z (J.paths a z);
    store = λ n. store_too n (J.store n);
    rows = λ z. rows_too z (J.rows z);
    parent = task_of p _ np J.parent;
    resumed = task_of' p _ np J.resumed;
    left = ap is_joined (A'.tasks c nc) ∙ J.left;
    right = ap is_joined (A'.tasks d nd) ∙ J.right;
    tasks = λ z zp zc zd. tasks_too z (J.tasks z zp zc zd);
    heap =
        A'.heaps p np ∙ (J.heap ∙ (ap (λ i. merged i (heap_of l c) (heap_of l d)) (sym (A.heaps p np)) ∙ (ap (λ i. merged (heap_of k p) i (heap_of l d)) (sym (A.heaps c nc)) ∙ ap (merged (heap_of k p) (heap_of k c)) (sym (A.heaps d nd)))));
    heap_left = A'.heaps c nc ∙ (J.heap_left ∙ ap emptied (sym (A.heaps c nc)));
    heap_right = A'.heaps d nd ∙ (J.heap_right ∙ ap emptied (sym (A.heaps d nd)));
    heaps = λ z zp zc zd. heaps_too z (J.heaps z zp zc zd);
  }
    where
      owner_too : (a : ℕ) → ((owner_of l'.machine.tasks a ≡ p) × ((owner_of l.machine.tasks a ≡ c) ⊎ (owner_of l.machine.tasks a ≡ d))) ⊎ ((owner_of l'.machine.tasks a ≡ owner_of l.machine.tasks a) × ((owner_of l.machine.tasks a ≡ c → ⊥) × (owner_of l.machine.tasks a ≡ d → ⊥)))
          → ((owner_of k'.machine.tasks a ≡ p) × ((owner_of k.machine.tasks a ≡ c) ⊎ (owner_of k.machine.tasks a ≡ d))) ⊎ ((owner_of k'.machine.tasks a ≡ owner_of k.machine.tasks a) × ((owner_of k.machine.tasks a ≡ c → ⊥) × (owner_of k.machine.tasks a ≡ d → ⊥)))
      owner_too a (inl m) = inl (A'.tree.owners a ∙ m.0, elim m.1 [ inl e ↦ inl (A.tree.owners a ∙ e) | inr e ↦ inr (A.tree.owners a ∙ e) ])
      owner_too a (inr m) = inr (A'.tree.owners a ∙ (m.0 ∙ sym (A.tree.owners a)), ((λ e. m.1.0 (sym (A.tree.owners a) ∙ e)), (λ e. m.1.1 (sym (A.tree.owners a) ∙ e))))

  pub writes_too : (t : ℕ) (n : Name) (x x' : Object) → (own l n ≡ u → ⊥) → WritesOne l l' t n x x' → WritesOne k k' t n x x'
  writes_too t n x x' ne W = record {
    tree = tree_beside l l' k k' W.tree A.tree A'.tree;
    tasks = λ z zt. tasks_too z (W.tasks z zt);
    heaps = λ z. heaps_too z (W.heaps z);
    rows = λ z. rows_too z (W.rows z);
    was = A.store n ne ∙ W.was;
    is = A'.store n (λ h. ne (sym (W.tree.owners n.task) ∙ h)) ∙ W.is;
    others = λ m off. store_too m (W.others m off);
    fields = W.fields;
  }

  pub can_too : (p c d : ℕ) (x : Task) → (p ≡ u → ⊥) → (c ≡ u → ⊥) → (d ≡ u → ⊥) → TasksCanJoin l p c d x → TasksCanJoin k p c d x
  can_too p c d x np nc nd T = record {
    left = ap parent_of (A.tasks c nc) ∙ T.left;
    right = ap parent_of (A.tasks d nd) ∙ T.right;
    two = T.two;
    waits = T.waits;
    left_idle = A.tree.waits c ∙ T.left_idle;
    right_idle = A.tree.waits d ∙ T.right_idle;
    left_live = A.tree.joins c ∙ T.left_live;
    right_live = A.tree.joins d ∙ T.right_live;
    rests = ap (λ (i : Heap). i.worker) (A.heaps p np) ∙ T.rests;
    left_rests = ap (λ (i : Heap). i.worker) (A.heaps c nc) ∙ T.left_rests;
    right_rests = ap (λ (i : Heap). i.worker) (A.heaps d nd) ∙ T.right_rests;
    left_spares = ap (λ (i : Heap). i.reserved) (A.heaps c nc) ∙ T.left_spares;
    right_spares = ap (λ (i : Heap). i.reserved) (A.heaps d nd) ∙ T.right_spares;
  }

  pub stores_too : (t : ℕ) (x : Task) (n : Name) (y : Object) (o w i : ℕ) (c : Option (ℕ × ℤ)) → (t ≡ u → ⊥) → (own l n ≡ u → ⊥) → is_waiting (slice_get k.machine.tasks u) ≡ false → StoresOne l l' t x n y o w i c → StoresOne k k' t x n y o w i c
  stores_too t x n y o w i c nt ne idle W = record {
    task = task_of t _ nt W.task;
    runs = W.runs;
    object = W.object;
    field = W.field;
    mutable = W.mutable;
    goes = task_of' t _ nt W.goes;
    writes = writes_too t n y _ ne W.writes;
    waits = λ z e.
        let off : z ≡ u → ⊥ = λ f. both_ways (is_waiting (slice_get k.machine.tasks u)) idle (ap (λ j. is_waiting (slice_get k.machine.tasks j)) (sym f) ∙ e) in
        ap (λ (j : Heap). j.worker) (A.heaps z off) ∙ W.waits z (sym (A.tree.waits z) ∙ e);
  }

  pub numbers_too : (t : ℕ) (x : Task) (n : Name) (y : Object) (o w i : ℕ) → (t ≡ u → ⊥) → (own l n ≡ u → ⊥) → is_waiting (slice_get k.machine.tasks u) ≡ false → StoresNumber l l' t x n y o w i → StoresNumber k k' t x n y o w i
  numbers_too t x n y o w i nt ne idle W = record {
    task = task_of t _ nt W.task;
    runs = W.runs;
    object = W.object;
    mutable = W.mutable;
    goes = task_of' t _ nt W.goes;
    writes = writes_too t n y _ ne W.writes;
    waits = λ z e.
        let off : z ≡ u → ⊥ = λ f. both_ways (is_waiting (slice_get k.machine.tasks u)) idle (ap (λ j. is_waiting (slice_get k.machine.tasks j)) (sym f) ∙ e) in
        ap (λ (j : Heap). j.worker) (A.heaps z off) ∙ W.waits z (sym (A.tree.waits z) ∙ e);
  }

  pub ends_too : (t : ℕ) (x : Task) → (t ≡ u → ⊥) → StepsAlone k k' t → EndsTask l l' t x → EndsTask k k' t x
  ends_too t x nt M W = record {
    task = task_of t _ nt W.task;
    runs = W.runs;
    ended = task_of' t _ nt W.ended;
    alone = M;
    heap = heaps_too t W.heap;
    row = rows_too t W.row;
    store = λ n. store_too n (W.store n);
  }

-- THE MEMORY, with u's belongings in it

module _ (v v' : Memory) (u : ℕ) (h : Belongings) where
  abbrev w : Memory
  w = with_belongings v u h

  abbrev w' : Memory
  w' = with_belongings v' u h

  belongings_too : (z : ℕ) → v'.belongings z ≡ v.belongings z → w'.belongings z ≡ w.belongings z
  belongings_too z e = elim (cases_eq z u) [
    | inl f ↦ ap w'.belongings f ∙ (at_belongings v' u h ∙ (sym (at_belongings v u h) ∙ ap w.belongings (sym f)))
    | inr ne ↦ off_belongings v' u h z ne ∙ (e ∙ sym (off_belongings v u h z ne))
  ]

  pub forks_with : (t a b g i : ℕ) → (t ≡ u → ⊥) → (a ≡ u → ⊥) → (b ≡ u → ⊥) → ForksBelongings v v' t a b g i → ForksBelongings w w' t a b g i
  forks_with t a b g i nt na nb F = record {
    belongings = off_belongings v' u h t nt ∙ (F.belongings ∙ ap (λ (y : Belongings). record y { frames = advanced y.frames }) (sym (off_belongings v u h t nt)));
    left = off_belongings v' u h a na ∙ (F.left ∙ ap (λ (y : Belongings). child_belongings g y) (sym (off_belongings v u h t nt)));
    right = off_belongings v' u h b nb ∙ (F.right ∙ ap (λ (y : Belongings). child_belongings i y) (sym (off_belongings v u h t nt)));
    others = λ z zt za zb. belongings_too z (F.others z zt za zb);
    owner = F.owner;
    left_noted = F.left_noted;
    right_noted = F.right_noted;
    sources = F.sources;
  }

  pub joins_with : (p c d : ℕ) (rl rr : ℤ × Option Addr) → (p ≡ u → ⊥) → (c ≡ u → ⊥) → (d ≡ u → ⊥) → JoinsBelongings v v' p c d rl rr → JoinsBelongings w w' p c d rl rr
  joins_with p c d rl rr np nc nd J =
      let ep : w.belongings p ≡ v.belongings p = off_belongings v u h p np in
      let ec : w.belongings c ≡ v.belongings c = off_belongings v u h c nc in
      let ed : w.belongings d ≡ v.belongings d = off_belongings v u h d nd in
      let ep' : w'.belongings p ≡ v'.belongings p = off_belongings v' u h p np in
      record {
        chunks = ap (λ (y : Belongings). y.chunks) ep' ∙ (J.chunks ∙ sym (ap₂ (λ x y. x ++ y) (ap₂ (λ x y. x ++ y) (ap (λ (y : Belongings). y.chunks) ec) (ap (λ (y : Belongings). y.chunks) ed)) (ap (λ (y : Belongings). y.chunks) ep)));
        room = ap (λ (y : Belongings). y.room) ep' ∙ (J.room ∙ sym (ap (λ (y : Belongings). y.room) ep));
        since = ap (λ (y : Belongings). y.since) ep' ∙ (J.since ∙ sym (ap₂ (λ x y. x + y) (ap₂ (λ x y. x + y) (ap (λ (y : Belongings). y.since) ep) (ap (λ (y : Belongings). y.since) ec)) (ap (λ (y : Belongings). y.since) ed)));
        count = ap (λ (y : Belongings). y.count) ep' ∙ (J.count ∙ sym (ap (λ (y : Belongings). y.count) ep));
        begun = ap (λ (y : Belongings). y.begun) ep' ∙ (J.begun ∙ sym (ap (λ (y : Belongings). y.begun) ep));
        view = ap (λ (y : Belongings). y.view) ep' ∙ (J.view ∙ sym (ap (λ (y : Belongings). y.view) ep));
        frames = ap (λ (y : Belongings). y.frames) ep' ∙ (J.frames ∙ sym (ap (λ (y : Belongings). top_with_results rl rr y.frames) ep));
        left = off_belongings v' u h c nc ∙ J.left;
        right = off_belongings v' u h d nd ∙ J.right;
        others = λ z zp zc zd. belongings_too z (J.others z zp zc zd);
        owner_left = λ k i. J.owner_left k (subst (λ (y : Belongings). In y.chunks k) ec i);
        owner_right = λ k i. J.owner_right k (subst (λ (y : Belongings). In y.chunks k) ed i);
        owners = J.owners;
        owned = J.owned;
        lifted = J.lifted;
        left_noted = J.left_noted;
        right_noted = J.right_noted;
        sources = J.sources;
      }

  -- what is seen of a task's belongings, of u's or of another's
  view_too : {A : Type 0} (view was : Belongings → A) (z : ℕ) → view h ≡ was h → ((z ≡ u → ⊥) → view (v'.belongings z) ≡ was (v.belongings z)) → view (w'.belongings z) ≡ was (w.belongings z)
  view_too view was z mine e = elim (cases_eq z u) [
    | inl f ↦ ap (λ j. view (w'.belongings j)) f ∙ (ap view (at_belongings v' u h) ∙ (mine ∙ (ap was (sym (at_belongings v u h)) ∙ ap (λ j. was (w.belongings j)) (sym f))))
    | inr ne ↦ ap view (off_belongings v' u h z ne) ∙ (e ne ∙ ap was (sym (off_belongings v u h z ne)))
  ]

  -- a write of an object that isn't in u's belongings
  pub writes_with : (t : ℕ) (a : Addr) (f : Located → Located) → ((o : Located) → In (objects_of_chunks h.chunks) o → o.at.chunk ≡ a.chunk → ⊥) → WritesAt v v' t a f → WritesAt w w' t a f
  writes_with t a f none C = record {
    same_name = C.same_name;
    same_at = C.same_at;
    same_words = C.same_words;
    same_kind = C.same_kind;
    chunks = λ z. view_too (λ j. j.chunks) (λ j. map (mapped_chunk (put_at a f)) j.chunks) z (sym (chunks_unwritten a f h.chunks none)) (λ ne. C.chunks z);
    room = λ z. view_too (λ j. j.room) (λ j. j.room) z refl (λ ne. C.room z);
    since = λ z. view_too (λ j. j.since) (λ j. j.since) z refl (λ ne. C.since z);
    count = λ z. view_too (λ j. j.count) (λ j. j.count) z refl (λ ne. C.count z);
    begun = λ z. view_too (λ j. j.begun) (λ j. j.begun) z refl (λ ne. C.begun z);
    view = λ z. view_too (λ j. j.view) (λ j. j.view) z refl (λ ne. C.view z);
    frames = λ z zt. view_too (λ j. j.frames) (λ j. j.frames) z refl (λ ne. C.frames z zt);
    result = λ z zt. view_too (λ j. j.result) (λ j. j.result) z refl (λ ne. C.result z zt);
    owner = C.owner;
    noted = C.noted;
  }

  pub stores_with : (l k : Ledger) (t : ℕ) (f : CallFrame) (fs : List CallFrame) (a : Addr) (o i : ℕ) (c : Option (ℕ × ℤ)) → (t ≡ u → ⊥) → ((b z : ℕ) → is_on_path k.machine.tasks b z ≡ is_on_path l.machine.tasks b z)
      → ((q : Located) → In (objects_of_chunks h.chunks) q → q.at.chunk ≡ a.chunk → ⊥) → StoresAt v v' l t f fs a o i c → StoresAt w w' k t f fs a o i c
  stores_with l k t f fs a o i c nt paths none C = record {
    frames = ap (λ (j : Belongings). j.frames) (off_belongings v u h t nt) ∙ C.frames;
    goes = ap (λ (j : Belongings). j.frames) (off_belongings v' u h t nt) ∙ C.goes;
    writes = writes_with t a _ none C.writes;
    down = λ b c d e ec ed off. C.down b c d e ec ed (sym (paths d c) ∙ off);
    only = λ z s j. elim (C.only z s j) [
      | inl old ↦ inl old
      | inr new ↦ inr (new.0, new.1, new.2, new.3, new.4, paths z new.1 ∙ new.5, new.6)
    ];
  }

  pub numbers_with : (t : ℕ) (f : CallFrame) (fs : List CallFrame) (a : Addr) (o i : ℕ) → (t ≡ u → ⊥) → ((q : Located) → In (objects_of_chunks h.chunks) q → q.at.chunk ≡ a.chunk → ⊥) → StoresNumberAt v v' t f fs a o i → StoresNumberAt w w' t f fs a o i
  numbers_with t f fs a o i nt none C = record {
    frames = ap (λ (j : Belongings). j.frames) (off_belongings v u h t nt) ∙ C.frames;
    goes = ap (λ (j : Belongings). j.frames) (off_belongings v' u h t nt) ∙ C.goes;
    writes = writes_with t a _ none C.writes;
    only = C.only;
  }

  pub ends_with : (t : ℕ) (f : CallFrame) (fs : List CallFrame) → (t ≡ u → ⊥) → EndsBelongings v v' t f fs → EndsBelongings w w' t f fs
  ends_with t f fs nt C = record {
    frames = ap (λ (j : Belongings). j.frames) (off_belongings v u h t nt) ∙ C.frames;
    result = ap (λ (j : Belongings). j.result) (off_belongings v' u h t nt) ∙ C.result;
    begun = view_too (λ j. j.begun) (λ j. j.begun) t refl (λ ne. C.begun);
    view = view_too (λ j. j.view) (λ j. j.view) t refl (λ ne. C.view);
    chunks = view_too (λ j. j.chunks) (λ j. j.chunks) t refl (λ ne. C.chunks);
    room = view_too (λ j. j.room) (λ j. j.room) t refl (λ ne. C.room);
    since = view_too (λ j. j.since) (λ j. j.since) t refl (λ ne. C.since);
    count = view_too (λ j. j.count) (λ j. j.count) t refl (λ ne. C.count);
    others = λ z zt. belongings_too z (C.others z zt);
    owner = C.owner;
    sources = C.sources;
  }
