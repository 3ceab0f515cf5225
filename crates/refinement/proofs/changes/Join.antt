-- A join: the parent owns what its children owned, and nothing moves.
use Rattle.refinement.proofs.Common.{◌≡◌, ℕ, ℤ, ◌+◌, ◌<◌, ◌||◌, arith, true, false, Option, Some, None, is_some, List, [], ◌∷◌, ◌++◌, map, length, slice_get, slice_set, ◌⊎◌, inl, inr, refl, ap, ap₂, sym, subst, ◌∙◌, ne_eqb, cases_eq, both_ways, false≢true, same_Some, in_append_left, in_append_right, in_append_cases, Addr, Located, Name, Object, Frame as ModelFrame, TaskStatus, Running, Waiting, Ended, Joined, Task, object_at, row_of, is_waiting, is_joined, is_over, is_on_path, parents, joined, resumed, path_itself, path_child, path_parent, path_through, live_up, waiting, joins_in, Heap, Ledger, heap_of, emptied, SoundLedger, CallFrame, RefField, own, Rests, JoinsTasks, TasksCanJoin, leaf_alone, Chunk, Belongings, no_belongings, Memory, In, object_name, objects, objects_of_chunks, sources, Lies, ReadsReference, IsModelObject, FrameIsRead, FramesAreRead, HoldsRead, TaskIsRead, AreLaidOut, LiesWithOwner, ChunksHaveNames, small_chunks, large_chunks, GivesLevel, BelongingsStand, IsSource, MemoryStands, AboveIsShown, JoinsBelongings, with_results, top_with_results, chunk_names}
use Rattle.refinement.proofs.objects.Carry.{object_kept, task_kept, frames_kept, read_kept, all_set}
use Rattle.refinement.proofs.objects.Members.{in_chunk, in_objects, lies_in as owned_by, none_in}
use Rattle.refinement.proofs.objects.LaidOut.{none_laid, laid_both}
use Rattle.refinement.proofs.objects.Merged.{small_both, large_both}
use Rattle.refinement.proofs.changes.Alone.{belongings_own, belongings_kept}
use Rattle.refinement.proofs.changes.Same.{source_kept}
use Rattle.refinement.proofs.changes.Shown.{join_shown}
use Rattle.refinement.proofs.changes.Giving.{gives_kept, waits_live}

joined_holds : (at : Name → Addr → Type 0) (h : Belongings) (y : Task) → is_joined (Some y) ≡ true → TaskIsRead at h y
joined_holds at h y e = joined_holds_by_cases y.status e
  where
    joined_holds_by_cases : (s : TaskStatus) → is_over s ≡ true → HoldsRead at h y s
    joined_holds_by_cases Running e = absurd (false≢true e)
    joined_holds_by_cases Waiting e = absurd (false≢true e)
    joined_holds_by_cases (Ended k n) e = absurd (false≢true e)
    joined_holds_by_cases Joined e = tt

module _ (v v' : Memory) (l l' : Ledger) (p c d : ℕ) (x : Task) (rl rr : ℤ × Option Name) (al ar : ℤ × Option Addr) (S : SoundLedger l) (V : MemoryStands v l)
    (J : JoinsTasks l l' p c d x rl rr) (T : TasksCanJoin l p c d x) (H : JoinsBelongings v v' p c d al ar)
    (gl : (al.0 ≡ rl.0) × ReadsReference (LiesWithOwner v l) al.1 rl.1) (gr : (ar.0 ≡ rr.0) × ReadsReference (LiesWithOwner v l) ar.1 rr.1) where
  abbrev par : ℕ → Option ℕ
  par = parents l.machine.tasks

  abbrev IsChild : ℕ → Type 0
  IsChild z = (z ≡ c) ⊎ (z ≡ d)

  abbrev IsOther : ℕ → Type 0
  IsOther z = (z ≡ p → ⊥) × (z ≡ c → ⊥) × (z ≡ d → ⊥)

  p_c : p ≡ c → ⊥
  p_c e = let lt : p < c = S.fork_join.tree.low c p T.left in omega arith

  p_d : p ≡ d → ⊥
  p_d e = let lt : p < d = S.fork_join.tree.low d p T.right in omega arith

  parent_waits : is_waiting (slice_get l.machine.tasks p) ≡ true
  parent_waits = ap is_waiting J.parent ∙ ap (λ s. is_waiting (Some (record x { status = s }))) T.waits

  parent_was_live : is_joined (slice_get l.machine.tasks p) ≡ false
  parent_was_live = ap is_joined J.parent ∙ ap (λ s. is_joined (Some (record x { status = s }))) T.waits

  child_parent : (z : ℕ) → IsChild z → par z ≡ Some p
  child_parent z (inl e) = ap par e ∙ T.left
  child_parent z (inr e) = ap par e ∙ T.right

  child_idle : (z : ℕ) → IsChild z → is_waiting (slice_get l.machine.tasks z) ≡ false
  child_idle z (inl e) = ap (λ k. is_waiting (slice_get l.machine.tasks k)) e ∙ T.left_idle
  child_idle z (inr e) = ap (λ k. is_waiting (slice_get l.machine.tasks k)) e ∙ T.right_idle

  child_rests : (z : ℕ) → IsChild z → Rests l z
  child_rests z (inl e) = ap (λ k. (heap_of l k).worker) e ∙ T.left_rests
  child_rests z (inr e) = ap (λ k. (heap_of l k).worker) e ∙ T.right_rests

  which : (z : ℕ) → (z ≡ p) ⊎ (IsChild z ⊎ IsOther z)
  which z = elim (cases_eq z p) [
    | inl e ↦ inl e
    | inr np ↦ elim (cases_eq z c) [
      | inl e ↦ inr (inl (inl e))
      | inr nc ↦ elim (cases_eq z d) [ inl e ↦ inr (inl (inr e)) | inr nd ↦ inr (inr (np, nc, nd)) ]
    ]
  ]

  rest : (z : ℕ) → Rests l' z → Rests l z
  rest z r = elim (which z) [
    | inl e ↦ ap (λ k. (heap_of l k).worker) e ∙ T.rests
    | inr w ↦ elim w [ inl ch ↦ child_rests z ch | inr o ↦ ap (λ (h : Heap). h.worker) (sym (J.heaps z o.0 o.1 o.2)) ∙ r ]
  ]

  -- PATHS

  on_itself : is_on_path l.machine.tasks p p ≡ true
  on_itself = path_itself par S.fork_join.tree.low p

  -- an ancestor of a child that isn't a child itself is an ancestor of the parent
  over : (a z : ℕ) → IsChild z → (a ≡ z → ⊥) → is_on_path l.machine.tasks a z ≡ true → is_on_path l.machine.tasks a p ≡ true
  over a z ch ne h = sym (path_child par S.fork_join.tree.low a z p (child_parent z ch) ∙ ap (λ b. b || is_on_path l.machine.tasks a p) (ne_eqb a z ne)) ∙ h

  -- what is below a child is below the parent
  under : (a z : ℕ) → IsChild a → is_on_path l.machine.tasks a z ≡ true → is_on_path l.machine.tasks p z ≡ true
  under a z ch h = path_parent par S.fork_join.tree.low a p z (child_parent a ch) h

  is_child : (e : ℕ) → par e ≡ Some p → is_joined (slice_get l.machine.tasks e) ≡ false → IsChild e
  is_child e pe alive = elim (S.fork_join.tree.brothers c e p T.left pe T.left_live alive) [
    | inl a ↦ inl a
    | inr a ↦ elim (S.fork_join.tree.brothers c d p T.left T.right T.left_live T.right_live) [
      | inl b ↦ absurd (T.two (sym b))
      | inr b ↦ inr (a ∙ sym b)
    ]
  ]

  -- the parent is an ancestor of no live task other than its children
  only_children : (z : ℕ) → is_joined (slice_get l.machine.tasks z) ≡ false → is_on_path l.machine.tasks p z ≡ true → IsOther z → ⊥
  only_children z live h o = elim (path_through par S.fork_join.tree.low z p z h) [
    | inl e ↦ o.0 (sym e)
    | inr e ↦
        let alive : is_joined (slice_get l.machine.tasks e.0) ≡ false = live_up (length l.machine.tasks) par (joined l.machine.tasks) (waiting l.machine.tasks) (joins_in l.machine.tasks) l.machine.edges S.fork_join.tree z e.0 z e.2 live in
        let child : IsChild e.0 = is_child e.0 e.1 alive in
        let same : e.0 ≡ z = leaf_alone l S e.0 z (child_idle e.0 child) live e.2 in
        elim child [ inl f ↦ o.1 (sym same ∙ f) | inr f ↦ o.2 (sym same ∙ f) ]
  ]

  -- CHUNKS

  -- the heaps that are merged
  abbrev IsPart : ℕ → Type 0
  IsPart z = (z ≡ p) ⊎ IsChild z

  part_rests : (z : ℕ) → IsPart z → Rests l z
  part_rests z (inl e) = ap (λ k. (heap_of l k).worker) e ∙ T.rests
  part_rests z (inr ch) = child_rests z ch

  chunk_in : (z : ℕ) (k : Chunk) → IsPart z → In (v.belongings z).chunks k → In (v'.belongings p).chunks k
  chunk_in z k part i = subst (λ ks. In ks k) (sym H.chunks) (chunk_in_by_cases part)
    where
      chunk_in_by_cases : IsPart z → In ((v.belongings c).chunks ++ (v.belongings d).chunks ++ (v.belongings p).chunks) k
      chunk_in_by_cases (inl e) = in_append_right ((v.belongings c).chunks ++ (v.belongings d).chunks) (v.belongings p).chunks k (subst (λ y. In (v.belongings y).chunks k) e i)
      chunk_in_by_cases (inr (inl e)) = in_append_left ((v.belongings c).chunks ++ (v.belongings d).chunks) (v.belongings p).chunks k (in_append_left (v.belongings c).chunks (v.belongings d).chunks k (subst (λ y. In (v.belongings y).chunks k) e i))
      chunk_in_by_cases (inr (inr e)) = in_append_left ((v.belongings c).chunks ++ (v.belongings d).chunks) (v.belongings p).chunks k (in_append_right (v.belongings c).chunks (v.belongings d).chunks k (subst (λ y. In (v.belongings y).chunks k) e i))

  chunk_was : (k : Chunk) → In (v'.belongings p).chunks k → (z : ℕ) × IsPart z × In (v.belongings z).chunks k
  chunk_was k i = elim (in_append_cases ((v.belongings c).chunks ++ (v.belongings d).chunks) (v.belongings p).chunks k (subst (λ ks. In ks k) H.chunks i)) [
    | inl b ↦ elim (in_append_cases (v.belongings c).chunks (v.belongings d).chunks k b) [ inl a ↦ (c, inr (inl refl), a) | inr a ↦ (d, inr (inr refl), a) ]
    | inr a ↦ (p, inl refl, a)
  ]

  lies_in : (z : ℕ) (n : Name) (a : Addr) → IsPart z → Lies (v.belongings z).chunks n a → Lies (v'.belongings p).chunks n a
  lies_in z n a part q = let k = in_chunk (v.belongings z).chunks q.0 q.1 in (q.0, in_objects (v'.belongings p).chunks k.0 q.0 (chunk_in z k.0 part k.1) k.2, q.2)

  -- the task whose object it was
  pub record Was (z : ℕ) (o : Located) : Type 0 where
    pub task : ℕ
    pub rests : Rests l task
    pub there : In (objects v task) o
    pub came : ((z ≡ p) × IsPart task) ⊎ ((task ≡ z) × IsOther z)

  no_object : (z : ℕ) (o : Located) → IsChild z → In (objects v' z) o → ⊥
  no_object = none_in v' c d (ap (λ (k : Belongings). k.chunks) H.left) (ap (λ (k : Belongings). k.chunks) H.right)

  was : (z : ℕ) (o : Located) → Rests l' z → In (objects v' z) o → Was z o
  was z o r i = elim (which z) [
    | inl e ↦
        let k = in_chunk (v'.belongings p).chunks o (subst (λ y. In (objects v' y) o) e i) in
        let w = chunk_was k.0 k.1 in
        record { task = w.0; rests = part_rests w.0 w.1; there = in_objects (v.belongings w.0).chunks k.0 o w.2 k.2; came = inl (e, w.1) }
    | inr w ↦ elim w [
      | inl ch ↦ absurd (no_object z o ch i)
      | inr ot ↦ record { task = z; rests = rest z r; there = subst (λ (h : Belongings). In (objects_of_chunks h.chunks) o) (H.others z ot.0 ot.1 ot.2) i; came = inr (refl, ot) }
    ]
  ]

  -- a chunk of any of them is the parent's afterwards
  relabelled : (z : ℕ) (k : Chunk) → IsPart z → In (v.belongings z).chunks k → v'.owner k.number ≡ Some p
  relabelled z k (inl e) i = H.owners k.number p p_c p_d ((V.belongings z (part_rests z (inl e))).owned k i ∙ ap Some e)
  relabelled z k (inr (inl e)) i = H.owner_left k (subst (λ y. In (v.belongings y).chunks k) e i)
  relabelled z k (inr (inr e)) i = H.owner_right k (subst (λ y. In (v.belongings y).chunks k) e i)

  -- POSITIONS

  place : (n : Name) (a : Addr) → LiesWithOwner v l n a → LiesWithOwner v' l' n a
  place n a q = elim (J.owners n.task) [
    | inl m ↦ record {
      chunk = given m.1 (q.here (child_rests (own l n) m.1)) ∙ ap Some (sym m.0);
      here = λ r. subst (λ u. Lies (v'.belongings u).chunks n a) (sym m.0) (lies_in (own l n) n a (inr m.1) (q.here (child_rests (own l n) m.1)));
    }
    | inr m ↦ record {
      chunk = H.owners a.chunk (own l n) m.1.0 m.1.1 q.chunk ∙ ap Some (sym m.0);
      here = λ r.
          let there : Lies (v.belongings (own l n)).chunks n a = q.here (rest (own l n) (subst (Rests l') m.0 r)) in
          subst (λ u. Lies (v'.belongings u).chunks n a) (sym m.0) (
          elim (cases_eq (own l n) p) [
            | inl e ↦ subst (λ u. Lies (v'.belongings u).chunks n a) (sym e) (lies_in (own l n) n a (inl e) there)
            | inr ne ↦ subst (λ (h : Belongings). Lies h.chunks n a) (sym (H.others (own l n) ne m.1.0 m.1.1)) there
          ]);
    }
  ]
    where
      given : IsChild (own l n) → Lies (v.belongings (own l n)).chunks n a → v'.owner a.chunk ≡ Some p
      given ch y =
          let k = in_chunk (v.belongings (own l n)).chunks y.0 y.1 in
          ap v'.owner (ap (λ (b : Addr). b.chunk) (sym y.2.at) ∙ (V.belongings (own l n) (child_rests (own l n) ch)).inside k.0 y.0 k.1 k.2) ∙ relabelled (own l n) k.0 (inr ch) k.1

  store_same : (n : Name) → object_at l'.machine.store n ≡ object_at l.machine.store n
  store_same n = J.store n

  row_same : (u : ℕ) → length (row_of (slice_get l'.machine.store u)) ≡ length (row_of (slice_get l.machine.store u))
  row_same u = J.rows u

  -- BELONGINGS

  abbrev A : List Chunk
  A = (v.belongings c).chunks

  abbrev B : List Chunk
  B = (v.belongings d).chunks

  abbrev C : List Chunk
  C = (v.belongings p).chunks

  abbrev both : Heap
  both = record (heap_of l p) { chunks = (heap_of l c).chunks ++ (heap_of l d).chunks; large = (heap_of l c).large ++ (heap_of l d).large }

  both_names : ChunksHaveNames (A ++ B) both
  both_names = record {
    small = small_both A B (heap_of l c) (heap_of l d) (V.belongings c T.left_rests).names (V.belongings d T.right_rests).names;
    large = large_both A B (heap_of l c) (heap_of l d) (V.belongings c T.left_rests).names (V.belongings d T.right_rests).names;
  }

  merged_names : ChunksHaveNames (v'.belongings p).chunks (heap_of l' p)
  merged_names = record {
    small = ap (λ ks. map chunk_names (small_chunks ks)) H.chunks ∙ (small_both (A ++ B) C both (heap_of l p) both_names (V.belongings p T.rests).names ∙ sym (ap (λ (h : Heap). h.chunks) J.heap));
    large = ap (λ ks. map object_name (objects_of_chunks (large_chunks ks))) H.chunks ∙ (large_both (A ++ B) C both (heap_of l p) both_names (V.belongings p T.rests).names ∙ sym (ap (λ (h : Heap). h.large) J.heap));
  }

  merged_belongings : BelongingsStand v' l' p
  merged_belongings = record {
    names = merged_names;
    room = H.room ∙ ((V.belongings p T.rests).room ∙ sym (ap (λ (h : Heap). h.room) J.heap));
    since =
        let a : (v.belongings p).since ≡ (heap_of l p).since = (V.belongings p T.rests).since in
        let b : (v.belongings c).since ≡ (heap_of l c).since = (V.belongings c T.left_rests).since in
        let e : (v.belongings d).since ≡ (heap_of l d).since = (V.belongings d T.right_rests).since in
        H.since ∙ (ap₂ (λ i j. i + j) (ap₂ (λ i j. i + j) a b) e ∙ sym (ap (λ (h : Heap). h.since) J.heap));
    count = λ live. H.count ∙ ((V.belongings p T.rests).count parent_was_live ∙ sym (row_same p));
    owned = λ k i. let w = chunk_was k i in relabelled w.0 k w.1 w.2;
    inside = λ k o i j. let w = chunk_was k i in (V.belongings w.0 (part_rests w.0 w.1)).inside k o w.2 j;
    once = λ o q i j e.
        let a = was p o rests' i in
        let b = was p q rests' j in
        let same : a.task ≡ b.task = same_Some a.task b.task (sym (owned_by v l V a.task o a.rests a.there) ∙ (ap (λ (z : Addr). v.owner z.chunk) e ∙ owned_by v l V b.task q b.rests b.there)) in
        (V.belongings a.task a.rests).once o q a.there (subst (λ z. In (objects v z) q) (sym same) b.there) e;
    named = λ o q i j e.
        let a = was p o rests' i in
        let b = was p q rests' j in
        let same : a.task ≡ b.task = sym (belongings_own v l S a.task (V.belongings a.task a.rests) o a.there) ∙ (ap (own l) e ∙ belongings_own v l S b.task (V.belongings b.task b.rests) q b.there) in
        (V.belongings a.task a.rests).named o q a.there (subst (λ z. In (objects v z) q) (sym same) b.there) e;
    laid = subst (λ ks. AreLaidOut ks (heap_of l' p).reserved) (sym H.chunks) (subst (AreLaidOut (A ++ B ++ C)) (sym (ap (λ (h : Heap). h.reserved) J.heap))
        (laid_both (A ++ B) C (heap_of l p).reserved (laid_both A B 0 (subst (AreLaidOut A) T.left_spares (merged_belongings_at c (inr (inl refl))).laid) (subst (AreLaidOut B) T.right_spares (merged_belongings_at d (inr (inr refl))).laid)
        (λ j k a b e. T.two (one_owner j k c d (inr (inl refl)) (inr (inr refl)) a b e)) (merged_belongings_at c (inr (inl refl))).inside (merged_belongings_at d (inr (inr refl))).inside)
        (merged_belongings_at p (inl refl)).laid
        (λ j k a b e. elim (in_append_cases A B j a) [
          | inl i ↦ p_c (sym (one_owner j k c p (inr (inl refl)) (inl refl) i b e))
          | inr i ↦ p_d (sym (one_owner j k d p (inr (inr refl)) (inl refl) i b e))
        ])
        (λ k o a j. elim (in_append_cases A B k a) [ inl i ↦ (merged_belongings_at c (inr (inl refl))).inside k o i j | inr i ↦ (merged_belongings_at d (inr (inr refl))).inside k o i j ])
        (merged_belongings_at p (inl refl)).inside));
  }
    where
      merged_belongings_at : (z : ℕ) → IsPart z → BelongingsStand v l z
      merged_belongings_at z part = V.belongings z (part_rests z part)

      -- a number belongs to one heap's chunk
      one_owner : (j k : Chunk) (y z : ℕ) → IsPart y → IsPart z → In (v.belongings y).chunks j → In (v.belongings z).chunks k → j.number ≡ k.number → y ≡ z
      one_owner j k y z a b i m e = same_Some y z (sym ((merged_belongings_at y a).owned j i) ∙ (ap v.owner e ∙ (merged_belongings_at z b).owned k m))

      rests' : Rests l' p
      rests' = ap (λ (h : Heap). h.worker) J.heap ∙ T.rests

  empty_belongings : (z : ℕ) → is_joined (slice_get l'.machine.tasks z) ≡ true → (heap_of l z).reserved ≡ 0 → v'.belongings z ≡ no_belongings → heap_of l' z ≡ emptied (heap_of l z) → BelongingsStand v' l' z
  empty_belongings z gone spare eh el = record {
    names = subst (λ (h : Belongings). ChunksHaveNames h.chunks (heap_of l' z)) (sym eh) (subst (ChunksHaveNames []) (sym el) (record { small = refl; large = refl }));
    room = ap (λ (h : Belongings). h.room) eh ∙ sym (ap (λ (h : Heap). h.room) el);
    since = ap (λ (h : Belongings). h.since) eh ∙ sym (ap (λ (h : Heap). h.since) el);
    count = λ live. absurd (both_ways (is_joined (slice_get l'.machine.tasks z)) live gone);
    owned = λ k i. absurd (subst (λ (h : Belongings). In h.chunks k) eh i);
    inside = λ k o i j. absurd (subst (λ (h : Belongings). In h.chunks k) eh i);
    once = λ o q i j e. absurd (subst (λ (h : Belongings). In (objects_of_chunks h.chunks) o) eh i);
    named = λ o q i j e. absurd (subst (λ (h : Belongings). In (objects_of_chunks h.chunks) o) eh i);
    laid = subst (λ (h : Belongings). AreLaidOut h.chunks (heap_of l' z).reserved) (sym eh) (subst (AreLaidOut []) (sym (ap (λ (h : Heap). h.reserved) el ∙ spare)) none_laid);
  }

  belongings : (z : ℕ) → Rests l' z → BelongingsStand v' l' z
  belongings z r = elim (which z) [
    | inl e ↦ subst (BelongingsStand v' l') (sym e) merged_belongings
    | inr w ↦ elim w [
      | inl ch ↦ elim ch [
        | inl e ↦ subst (BelongingsStand v' l') (sym e) (empty_belongings c J.left T.left_spares H.left J.heap_left)
        | inr e ↦ subst (BelongingsStand v' l') (sym e) (empty_belongings d J.right T.right_spares H.right J.heap_right)
      ]
      | inr o ↦ belongings_kept v v' l l' z (H.others z o.0 o.1 o.2) (λ k. H.owners k z o.1 o.2) (J.heaps z o.0 o.1 o.2) (row_same z) (ap is_joined (J.tasks z o.0 o.1 o.2)) (V.belongings z (rest z r))
    ]
  ]

  -- each owner exists
  made_then : (u : ℕ) → is_some (slice_get l.machine.tasks u) ≡ true → is_some (slice_get l'.machine.tasks u) ≡ true
  made_then u there = elim (which u) [
    | inl e ↦ ap (λ z. is_some (slice_get l'.machine.tasks z)) e ∙ ap is_some J.resumed
    | inr w ↦ elim w [
      | inl ch ↦ elim ch [
        | inl e ↦ ap (λ z. is_some (slice_get l'.machine.tasks z)) e ∙ joined_some (slice_get l'.machine.tasks c) J.left
        | inr e ↦ ap (λ z. is_some (slice_get l'.machine.tasks z)) e ∙ joined_some (slice_get l'.machine.tasks d) J.right
      ]
      | inr o ↦ ap is_some (J.tasks u o.0 o.1 o.2) ∙ there
    ]
  ]
    where
      joined_some : (o : Option Task) → is_joined o ≡ true → is_some o ≡ true
      joined_some None h = absurd (false≢true h)
      joined_some (Some y) h = refl

  made : (k u : ℕ) → v'.owner k ≡ Some u → is_some (slice_get l'.machine.tasks u) ≡ true
  made k u g = elim (H.owned k u g) [
    | inl e ↦ made_then u (V.made k u e)
    | inr e ↦ ap (λ z. is_some (slice_get l'.machine.tasks z)) e.0 ∙ ap is_some J.resumed
  ]

  content : (z : ℕ) (o : Located) → Rests l' z → In (objects v' z) o → (y : Object) × (object_at l'.machine.store (object_name o) ≡ Some y) × IsModelObject (LiesWithOwner v' l') o y
  content z o r i =
      let w = was z o r i in
      let k = V.contents w.task o w.rests w.there in
      (k.0, store_same (object_name o) ∙ k.1, object_kept (LiesWithOwner v l) (LiesWithOwner v' l') o k.0 (λ n j. place n) k.2)

  -- FRAMES

  resumed_frame : (f : CallFrame) (g : ModelFrame) → FrameIsRead (LiesWithOwner v' l') f g → FrameIsRead (LiesWithOwner v' l') (with_results al ar f) (resumed (record x { top = g }) rl rr).top
  resumed_frame f g k = record {
    function = k.function;
    next = k.next;
    ints = ap (λ zs. slice_set (slice_set zs 0 al.0) 1 ar.0) k.ints ∙ ap₂ (λ i j. slice_set (slice_set g.ints 0 i) 1 j) gl.0 gr.0;
    refs =
        all_set (LiesWithOwner v' l') _ _ 1 ar.1 rr.1
        (all_set (LiesWithOwner v' l') f.refs g.refs 0 al.1 rl.1 k.refs (read_kept (LiesWithOwner v l) (LiesWithOwner v' l') al.1 rl.1 (λ n e. place n) gl.1))
        (read_kept (LiesWithOwner v l) (LiesWithOwner v' l') ar.1 rr.1 (λ n e. place n) gr.1);
  }

  resumed_frames : (fs : List CallFrame) → FramesAreRead (LiesWithOwner v' l') fs (x.top ∷ x.below) → FramesAreRead (LiesWithOwner v' l') (top_with_results al ar fs) ((resumed x rl rr).top ∷ x.below)
  resumed_frames [] k = absurd k
  resumed_frames (f ∷ fs) k = (resumed_frame f x.top k.0, k.1)

  parent_task : TaskIsRead (LiesWithOwner v' l') (v'.belongings p) (resumed x rl rr)
  parent_task =
      let k : FramesAreRead (LiesWithOwner v l) (v.belongings p).frames (x.top ∷ x.below) = subst (HoldsRead (LiesWithOwner v l) (v.belongings p) x) T.waits (V.tasks p x T.rests J.parent) in
      subst (λ fs. FramesAreRead (LiesWithOwner v' l') fs ((resumed x rl rr).top ∷ x.below)) (sym H.frames)
      (resumed_frames (v.belongings p).frames (frames_kept (LiesWithOwner v l) (LiesWithOwner v' l') (v.belongings p).frames (x.top ∷ x.below) (λ n i. place n) k))

  task : (z : ℕ) (y : Task) → Rests l' z → slice_get l'.machine.tasks z ≡ Some y → TaskIsRead (LiesWithOwner v' l') (v'.belongings z) y
  task z y r is = elim (which z) [
    | inl e ↦
        let same : resumed x rl rr ≡ y = same_Some (resumed x rl rr) y (sym J.resumed ∙ (ap (slice_get l'.machine.tasks) (sym e) ∙ is)) in
        subst (λ (w : Task). TaskIsRead (LiesWithOwner v' l') (v'.belongings z) w) same (subst (λ u. TaskIsRead (LiesWithOwner v' l') (v'.belongings u) (resumed x rl rr)) (sym e) parent_task)
    | inr w ↦ elim w [
      | inl ch ↦ joined_holds (LiesWithOwner v' l') (v'.belongings z) y (ap is_joined (sym is) ∙ elim ch [ inl e ↦ ap (λ k. is_joined (slice_get l'.machine.tasks k)) e ∙ J.left | inr e ↦ ap (λ k. is_joined (slice_get l'.machine.tasks k)) e ∙ J.right ])
      | inr o ↦
          subst (λ (h : Belongings). TaskIsRead (LiesWithOwner v' l') h y) (sym (H.others z o.0 o.1 o.2))
          (task_kept (LiesWithOwner v l) (LiesWithOwner v' l') (v.belongings z) y (λ n j. place n) (V.tasks z y (rest z r) (sym (J.tasks z o.0 o.1 o.2) ∙ is)))
    ]
  ]

  -- REMEMBERED FIELDS

  -- a field that is remembered in a heap that goes on is remembered there
  source_stays : (u : ℕ) (s : RefField) → (u ≡ c → ⊥) → (u ≡ d → ⊥) → In (sources v u) s → In (sources v' u) s
  source_stays u s nc nd i = elim (cases_eq u p) [
    | inl e ↦ subst (λ z. In (sources v' z) s) (sym e) ((H.lifted s).1 (inl (subst (λ z. In (sources v z) s) e i)))
    | inr np ↦ subst (λ ss. In ss s) (sym (H.sources u np nc nd)) i
  ]

  source_lifts : (u : ℕ) (s : RefField) → IsChild u → (v.owner s.object.chunk ≡ Some p → ⊥) → In (sources v u) s → In (sources v' p) s
  source_lifts u s (inl e) apart i = (H.lifted s).1 (inr (inl (subst (λ z. In (sources v z) s) e i, apart)))
  source_lifts u s (inr e) apart i = (H.lifted s).1 (inr (inr (subst (λ z. In (sources v z) s) e i, apart)))

  abbrev Minds : ℕ → Name → RefField → Type 0
  Minds z n s = (is_on_path l'.machine.tasks (own l' n) z ≡ true) ⊎ In (sources v' (own l' n)) s

  -- into what was a child's heap
  into_child : (z : ℕ) (o : Located) (i : ℕ) (n : Name) (w : Was z o) → own l' n ≡ p → IsChild (own l n)
      → (is_on_path l.machine.tasks (own l n) w.task ≡ true) ⊎ In (sources v (own l n)) (record { object = o.at; field = i }) → Minds z n (record { object = o.at; field = i })
  into_child z o i n w e ch old = subst (λ u. (is_on_path l'.machine.tasks u z ≡ true) ⊎ In (sources v' u) (record { object = o.at; field = i })) (sym e) (into_child_by_cases w.came old)
    where
      into_child_by_cases : ((z ≡ p) × IsPart w.task) ⊎ ((w.task ≡ z) × IsOther z) → (is_on_path l.machine.tasks (own l n) w.task ≡ true) ⊎ In (sources v (own l n)) (record { object = o.at; field = i })
          → (is_on_path l'.machine.tasks p z ≡ true) ⊎ In (sources v' p) (record { object = o.at; field = i })
      into_child_by_cases (inl m) old = inl (ap (λ k. is_on_path l'.machine.tasks p k) m.0 ∙ (J.paths p p ∙ on_itself))
      into_child_by_cases (inr m) (inl h) = inl (J.paths p z ∙ under (own l n) z ch (ap (λ k. is_on_path l.machine.tasks (own l n) k) (sym m.0) ∙ h))
      into_child_by_cases (inr m) (inr s) = inr (source_lifts (own l n) (record { object = o.at; field = i }) ch (λ g. m.1.0 (sym m.0 ∙ same_Some w.task p (sym (owned_by v l V w.task o w.rests w.there) ∙ g))) s)

  -- into another heap
  into_other : (z : ℕ) (o : Located) (i : ℕ) (n : Name) (w : Was z o) → own l' n ≡ own l n → (own l n ≡ c → ⊥) → (own l n ≡ d → ⊥)
      → (is_on_path l.machine.tasks (own l n) w.task ≡ true) ⊎ In (sources v (own l n)) (record { object = o.at; field = i }) → Minds z n (record { object = o.at; field = i })
  into_other z o i n w e nc nd old = subst (λ u. (is_on_path l'.machine.tasks u z ≡ true) ⊎ In (sources v' u) (record { object = o.at; field = i })) (sym e) (into_other_by_cases old)
    where
      not_child : (y : ℕ) → IsChild y → own l n ≡ y → ⊥
      not_child y (inl f) g = nc (g ∙ f)
      not_child y (inr f) g = nd (g ∙ f)

      up : ((z ≡ p) × IsPart w.task) ⊎ ((w.task ≡ z) × IsOther z) → is_on_path l.machine.tasks (own l n) w.task ≡ true → is_on_path l.machine.tasks (own l n) z ≡ true
      up (inl (m, inl f)) h = ap (λ k. is_on_path l.machine.tasks (own l n) k) (m ∙ sym f) ∙ h
      up (inl (m, inr ch)) h = ap (λ k. is_on_path l.machine.tasks (own l n) k) m ∙ over (own l n) w.task ch (not_child w.task ch) h
      up (inr m) h = ap (λ k. is_on_path l.machine.tasks (own l n) k) (sym m.0) ∙ h

      into_other_by_cases : (is_on_path l.machine.tasks (own l n) w.task ≡ true) ⊎ In (sources v (own l n)) (record { object = o.at; field = i })
          → (is_on_path l'.machine.tasks (own l n) z ≡ true) ⊎ In (sources v' (own l n)) (record { object = o.at; field = i })
      into_other_by_cases (inl h) = inl (J.paths (own l n) z ∙ up w.came h)
      into_other_by_cases (inr s) = inr (source_stays (own l n) (record { object = o.at; field = i }) nc nd s)

  remember : (z : ℕ) (o : Located) (y : Object) (i : ℕ) (n : Name) → Rests l' z → In (objects v' z) o → object_at l'.machine.store (object_name o) ≡ Some y → slice_get y.refs i ≡ Some (Some n)
      → (is_on_path l'.machine.tasks (own l' n) z ≡ true) ⊎ In (sources v' (own l' n)) (record { object = o.at; field = i })
  remember z o y i n r j is at =
      let w = was z o r j in
      let old = V.remembered w.task o y i n w.rests w.there (sym (store_same (object_name o)) ∙ is) at in
      elim (J.owners n.task) [
        | inl m ↦ into_child z o i n w m.0 m.1 old
        | inr m ↦ into_other z o i n w m.0 m.1.0 m.1.1 old
      ]

  -- a source whose owner goes on waiting
  carried : (z y : ℕ) (s : RefField) (k : IsSource v l y s) → (own l k.name ≡ p → ⊥) → is_on_path l.machine.tasks (own l k.name) z ≡ true → (own l k.name ≡ z → ⊥) → is_joined (slice_get l'.machine.tasks z) ≡ false → IsSource v' l' z s
  carried z y s k np path apart live =
      let nc : (own l k.name ≡ c → ⊥) = λ e. both_ways _ T.left_idle (ap (λ u. is_waiting (slice_get l.machine.tasks u)) (sym e) ∙ k.waits) in
      let nd : (own l k.name ≡ d → ⊥) = λ e. both_ways _ T.right_idle (ap (λ u. is_waiting (slice_get l.machine.tasks u)) (sym e) ∙ k.waits) in
      let e : own l' k.name ≡ own l k.name = owner_stays k.name nc nd in
      source_kept v v' l l' y z s k e (store_same k.name) (place k.name s.object k.place) (ap is_waiting (J.tasks (own l k.name) np nc nd)) (ap (λ (h : Heap). h.worker) (J.heaps (own l k.name) np nc nd)) (J.paths (own l k.name) z ∙ path) apart live
      (subst (λ (h : Heap). In h.snapshot k.name) (sym (J.heaps (own l k.name) np nc nd)) k.snapshot)
    where
      owner_stays : (n : Name) → (own l n ≡ c → ⊥) → (own l n ≡ d → ⊥) → own l' n ≡ own l n
      owner_stays n nc nd = elim (J.owners n.task) [
        | inl m ↦ absurd (elim m.1 [ inl f ↦ nc f | inr f ↦ nd f ])
        | inr m ↦ m.0
      ]

  parent_live : is_joined (slice_get l'.machine.tasks p) ≡ false
  parent_live = ap is_joined J.resumed

  from_child : (y : ℕ) (s : RefField) → IsChild y → (v.owner s.object.chunk ≡ Some p → ⊥) → In (sources v y) s → IsSource v' l' p s
  from_child y s ch apart i =
      let k = V.sources y s i in
      let np : own l k.name ≡ p → ⊥ = λ e. apart (k.place.chunk ∙ ap Some e) in
      carried p y s k np (over (own l k.name) y ch k.below k.above) np parent_live

  source : (z : ℕ) (s : RefField) → In (sources v' z) s → IsSource v' l' z s
  source z s i = elim (which z) [
    | inl e ↦ subst (λ u. IsSource v' l' u s) (sym e) (elim ((H.lifted s).0 (subst (λ u. In (sources v' u) s) e i)) [
      | inl j ↦ let k = V.sources p s j in carried p p s k k.below k.above k.below parent_live
      | inr m ↦ elim m [
        | inl j ↦ from_child c s (inl refl) j.1 j.0
        | inr j ↦ from_child d s (inr refl) j.1 j.0
      ]
    ])
    | inr w ↦ elim w [
      | inl ch ↦ absurd (elim ch [
        | inl e ↦ subst (λ ss. In ss s) (ap (λ u. sources v' u) e ∙ H.left_noted) i
        | inr e ↦ subst (λ ss. In ss s) (ap (λ u. sources v' u) e ∙ H.right_noted) i
      ])
      | inr o ↦
          let k = V.sources z s (subst (λ ss. In ss s) (H.sources z o.0 o.1 o.2) i) in
          carried z z s k (λ e. only_children z k.live (ap (λ u. is_on_path l.machine.tasks u z) (sym e) ∙ k.above) o) k.above k.below (ap is_joined (J.tasks z o.0 o.1 o.2) ∙ k.live)
    ]
  ]

  view : (z : ℕ) → Rests l' z → is_joined (slice_get l'.machine.tasks z) ≡ false → AboveIsShown v' l' z
  view z r j =
      let gone : (k : ℕ) → is_joined (slice_get l'.machine.tasks k) ≡ true → z ≡ k → ⊥ = λ k g f. both_ways (is_joined (slice_get l'.machine.tasks z)) j (ap (λ y. is_joined (slice_get l'.machine.tasks y)) f ∙ g) in
      let nc : z ≡ c → ⊥ = gone c J.left in
      let nd : z ≡ d → ⊥ = gone d J.right in
      let shown : Rests l z → is_joined (slice_get l.machine.tasks z) ≡ false → (v'.belongings z).view ≡ (v.belongings z).view → AboveIsShown v' l' z = λ rz lz same. join_shown v v' l l' p c d x rl rr al ar only_children V.views J H T z same rz lz j in
      elim (cases_eq z p) [
        | inl e ↦ shown (ap (λ k. (heap_of l k).worker) e ∙ T.rests) (ap (λ k. is_joined (slice_get l.machine.tasks k)) e ∙ parent_was_live) (ap (λ k. (v'.belongings k).view) e ∙ (H.view ∙ ap (λ k. (v.belongings k).view) (sym e)))
        | inr np ↦ shown (ap (λ (k : Heap). k.worker) (sym (J.heaps z np nc nd)) ∙ r) (ap is_joined (sym (J.tasks z np nc nd)) ∙ j) (ap (λ (k : Belongings). k.view) (H.others z np nc nd))
      ]

  give : (z u : ℕ) → Rests l' z → is_joined (slice_get l'.machine.tasks z) ≡ false → is_on_path l'.machine.tasks u z ≡ true → (u ≡ z → ⊥) → is_waiting (slice_get l'.machine.tasks u) ≡ true → Rests l' u → GivesLevel v' u z
  give z u r j up ne w ru =
      let gone : (y k : ℕ) → is_joined (slice_get l'.machine.tasks k) ≡ true → is_joined (slice_get l'.machine.tasks y) ≡ false → y ≡ k → ⊥ = λ y k g live f. both_ways (is_joined (slice_get l'.machine.tasks y)) live (ap (λ i. is_joined (slice_get l'.machine.tasks i)) f ∙ g) in
      let live_u : is_joined (slice_get l'.machine.tasks u) ≡ false = waits_live (slice_get l'.machine.tasks u) w in
      let up1 : is_on_path l.machine.tasks u z ≡ true = sym (J.paths u z) ∙ up in
      let pu : u ≡ p → ⊥ = λ e. both_ways (is_waiting (slice_get l'.machine.tasks u)) (ap (λ i. is_waiting (slice_get l'.machine.tasks i)) e ∙ ap is_waiting J.resumed) w in
      let cu = gone u c J.left live_u in
      let du = gone u d J.right live_u in
      let w1 : is_waiting (slice_get l.machine.tasks u) ≡ true = ap is_waiting (sym (J.tasks u pu cu du)) ∙ w in
      let ru1 : Rests l u = ap (λ (k : Heap). k.worker) (sym (J.heaps u pu cu du)) ∙ ru in
      let same_u : (v'.belongings u).view ≡ (v.belongings u).view = ap (λ (k : Belongings). k.view) (H.others u pu cu du) in
      let own : (n : ℕ) → v'.owner n ≡ Some u → v.owner n ≡ Some u = λ n o. elim (H.owned n u o) [ inl old ↦ old | inr new ↦ absurd (pu new.0) ] in
      let kept : (v'.belongings z).view ≡ (v.belongings z).view → Rests l z → is_joined (slice_get l.machine.tasks z) ≡ false → GivesLevel v' u z = λ same rz lz. gives_kept v v' u z same same_u own (V.gives z u rz lz up1 ne w1 ru1) in
      let nc = gone z c J.left j in
      let nd = gone z d J.right j in
      elim (cases_eq z p) [
        | inl e ↦ kept (ap (λ k. (v'.belongings k).view) e ∙ (H.view ∙ ap (λ k. (v.belongings k).view) (sym e))) (ap (λ k. (heap_of l k).worker) e ∙ T.rests) (ap (λ k. is_joined (slice_get l.machine.tasks k)) e ∙ parent_was_live)
        | inr np ↦ kept (ap (λ (k : Belongings). k.view) (H.others z np nc nd)) (ap (λ (k : Heap). k.worker) (sym (J.heaps z np nc nd)) ∙ r) (ap is_joined (sym (J.tasks z np nc nd)) ∙ j)
      ]

  pub joined_stands : MemoryStands v' l'
  joined_stands = record { made = made; belongings = belongings; contents = content; tasks = task; remembered = remember; sources = source; views = view; gives = give }
