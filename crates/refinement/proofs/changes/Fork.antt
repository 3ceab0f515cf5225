-- A fork: the parent waits, its children have fresh belongings, and nothing moves.
use Rattle.refinement.proofs.Common.{is_some, ◌≡◌, ℕ, ◌+◌, true, false, Some, List, [], ◌∷◌, map, length, slice_get, ◌⊎◌, inl, inr, refl, ap, sym, subst, ◌∙◌, cases_eq, both_ways, same_Some, Addr, Located, Name, Object, Frame as ModelFrame, Running, Waiting, Task, object_at, row_of, onward, is_waiting, is_joined, is_on_path, child, runs_idle, runs_live, Heap, Ledger, heap_of, fresh, SoundLedger, CallFrame, RefField, own, Rests, ForksTask, Belongings, Memory, In, object_name, objects, objects_of_chunks, sources, Lies, FramesAreRead, HoldsRead, TaskIsRead, AreLaidOut, LiesWithOwner, small_chunks, large_chunks, ChunksHaveNames, BelongingsStand, IsSource, MemoryStands, AboveIsShown, ForksBelongings, advanced, entered_frames, child_belongings, chunk_names}
use Rattle.refinement.proofs.objects.Carry.{object_kept, task_kept, frames_kept}
use Rattle.refinement.proofs.objects.LaidOut.{none_laid}
use Rattle.refinement.proofs.changes.Alone.{belongings_kept}
use Rattle.refinement.proofs.changes.Same.{source_kept}
use Rattle.refinement.proofs.changes.Giving.{fork_gives}
use Rattle.refinement.proofs.changes.Shown.{left_shown, right_shown, rest_shown}
use Rattle.refinement.proofs.objects.Members.{none_in}

advanced_read : (at : Name → Addr → Type 0) (fs : List CallFrame) (f : ModelFrame) (xs : List ModelFrame) → FramesAreRead at fs (f ∷ xs) → FramesAreRead at (advanced fs) (onward f ∷ xs)
advanced_read at [] f xs h = absurd h
advanced_read at (y ∷ fs) f xs h = (record { function = h.0.function; next = ap (λ n. n + 1) h.0.next; ints = h.0.ints; refs = h.0.refs }, h.1)

entered_read : (at : Name → Addr → Type 0) (fs : List CallFrame) (t d g : ℕ) (f : ModelFrame) (xs : List ModelFrame) → FramesAreRead at fs (f ∷ xs) → FramesAreRead at (entered_frames g fs) ((child t d g f).top ∷ [])
entered_read at [] t d g f xs h = absurd h
entered_read at (y ∷ fs) t d g f xs h = (record { function = refl; next = refl; ints = h.0.ints; refs = h.0.refs }, tt)

module _ (v v' : Memory) (l l' : Ledger) (t a b g h : ℕ) (x : Task) (S : SoundLedger l) (V : MemoryStands v l) (runs : x.status ≡ Running) (rests : Rests l t) (F : ForksTask l l' t a b g h x) (C : ForksBelongings v v' t a b g h) where
  abbrev IsOther : ℕ → Type 0
  IsOther z = (z ≡ t → ⊥) × (z ≡ a → ⊥) × (z ≡ b → ⊥)

  which : (z : ℕ) → (z ≡ t) ⊎ ((z ≡ a) ⊎ ((z ≡ b) ⊎ IsOther z))
  which z = elim (cases_eq z t) [
    | inl e ↦ inl e
    | inr nt ↦ elim (cases_eq z a) [
      | inl e ↦ inr (inl e)
      | inr na ↦ elim (cases_eq z b) [ inl e ↦ inr (inr (inl e)) | inr nb ↦ inr (inr (inr (nt, na, nb))) ]
    ]
  ]

  -- the belongings of an old task are unchanged, except for the frames
  chunks_same : (z : ℕ) → (z ≡ a → ⊥) → (z ≡ b → ⊥) → (v'.belongings z).chunks ≡ (v.belongings z).chunks
  chunks_same z na nb = elim (cases_eq z t) [
    | inl e ↦ ap (λ k. (v'.belongings k).chunks) e ∙ (ap (λ (i : Belongings). i.chunks) C.belongings ∙ ap (λ k. (v.belongings k).chunks) (sym e))
    | inr nt ↦ ap (λ (i : Belongings). i.chunks) (C.others z nt na nb)
  ]

  -- a new one has no object
  abbrev none_new : (z : ℕ) (o : Located) → (z ≡ a) ⊎ (z ≡ b) → In (objects v' z) o → ⊥
  none_new = none_in v' a b (ap (λ (k : Belongings). k.chunks) C.left) (ap (λ (k : Belongings). k.chunks) C.right)

  rest : (z : ℕ) → (z ≡ a → ⊥) → (z ≡ b → ⊥) → Rests l' z → Rests l z
  rest z na nb r = elim (cases_eq z t) [
    | inl e ↦ ap (λ k. (heap_of l k).worker) e ∙ rests
    | inr nt ↦ ap (λ (i : Heap). i.worker) (sym (F.heaps z nt na nb)) ∙ r
  ]

  -- the address of a name among such belongings is unchanged
  place_in : (n : Name) (c : Addr) → (own l n ≡ a → ⊥) → (own l n ≡ b → ⊥) → LiesWithOwner v l n c → LiesWithOwner v' l' n c
  place_in n c na nb p = record {
    chunk = C.owner c.chunk ∙ (p.chunk ∙ ap Some (sym (F.owners n.task)));
    here = λ r.
        subst (λ z. Lies (v'.belongings z).chunks n c) (sym (F.owners n.task))
        (subst (λ ks. Lies ks n c) (sym (chunks_same (own l n) na nb)) (p.here (rest (own l n) na nb (subst (Rests l') (F.owners n.task) r))));
  }

  -- no chunk is owned by a child that doesn't exist yet
  unowned : (k z : ℕ) → (z ≡ a) ⊎ (z ≡ b) → v.owner k ≡ Some z → ⊥
  unowned k z (inl e) g = both_ways (is_some (slice_get l.machine.tasks a)) (ap is_some F.unmade_left) (ap (λ u. is_some (slice_get l.machine.tasks u)) (sym e) ∙ V.made k z g)
  unowned k z (inr e) g = both_ways (is_some (slice_get l.machine.tasks b)) (ap is_some F.unmade_right) (ap (λ u. is_some (slice_get l.machine.tasks u)) (sym e) ∙ V.made k z g)

  made : (k z : ℕ) → v'.owner k ≡ Some z → is_some (slice_get l'.machine.tasks z) ≡ true
  made k z g =
      let there = V.made k z (sym (C.owner k) ∙ g) in
      elim (which z) [
        | inl e ↦ ap (λ u. is_some (slice_get l'.machine.tasks u)) e ∙ ap is_some F.waits
        | inr w ↦ elim w [
          | inl e ↦ ap (λ u. is_some (slice_get l'.machine.tasks u)) e ∙ ap is_some F.left
          | inr w' ↦ elim w' [
            | inl e ↦ ap (λ u. is_some (slice_get l'.machine.tasks u)) e ∙ ap is_some F.right
            | inr o ↦ ap is_some (F.tasks z o.0 o.1 o.2) ∙ there
          ]
        ]
      ]

  module _ where
    place : (n : Name) (c : Addr) → LiesWithOwner v l n c → LiesWithOwner v' l' n c
    place n c p = place_in n c (λ e. unowned c.chunk (own l n) (inl e) p.chunk) (λ e. unowned c.chunk (own l n) (inr e) p.chunk) p

    was : (z : ℕ) (o : Located) → Rests l' z → In (objects v' z) o → (z ≡ a → ⊥) × (z ≡ b → ⊥) × Rests l z × In (objects v z) o
    was z o r i =
        let na : z ≡ a → ⊥ = λ e. none_new z o (inl e) i in
        let nb : z ≡ b → ⊥ = λ e. none_new z o (inr e) i in
        (na, nb, rest z na nb r, subst (λ ks. In (objects_of_chunks ks) o) (chunks_same z na nb) i)

    running : is_joined (slice_get l.machine.tasks t) ≡ false
    running = runs_live x F.task runs

    old_belongings : BelongingsStand v' l' t
    old_belongings =
        let H = V.belongings t rests in
        record {
          names = record {
            small = ap (λ ks. map chunk_names (small_chunks ks)) (ap (λ (i : Belongings). i.chunks) C.belongings) ∙ (H.names.small ∙ sym (ap (λ (i : Heap). i.chunks) F.heap));
            large = ap (λ ks. map object_name (objects_of_chunks (large_chunks ks))) (ap (λ (i : Belongings). i.chunks) C.belongings) ∙ (H.names.large ∙ sym (ap (λ (i : Heap). i.large) F.heap));
          };
          room = ap (λ (i : Belongings). i.room) C.belongings ∙ (H.room ∙ sym (ap (λ (i : Heap). i.room) F.heap));
          since = ap (λ (i : Belongings). i.since) C.belongings ∙ (H.since ∙ sym (ap (λ (i : Heap). i.since) F.heap));
          count = λ live. ap (λ (i : Belongings). i.count) C.belongings ∙ (H.count running ∙ sym (F.rows t));
          owned = λ k i. C.owner k.number ∙ H.owned k (subst (λ (j : Belongings). In j.chunks k) C.belongings i);
          inside = λ k o i j. H.inside k o (subst (λ (j : Belongings). In j.chunks k) C.belongings i) j;
          once = λ o q i j e. H.once o q (subst (λ (j : Belongings). In (objects_of_chunks j.chunks) o) C.belongings i) (subst (λ (j : Belongings). In (objects_of_chunks j.chunks) q) C.belongings j) e;
          named = λ o q i j e. H.named o q (subst (λ (j : Belongings). In (objects_of_chunks j.chunks) o) C.belongings i) (subst (λ (j : Belongings). In (objects_of_chunks j.chunks) q) C.belongings j) e;
          laid = subst (λ (i : Belongings). AreLaidOut i.chunks (heap_of l' t).reserved) (sym C.belongings) (subst (AreLaidOut (v.belongings t).chunks) (sym (ap (λ (i : Heap). i.reserved) F.heap)) H.laid);
        }

    new_belongings : (z f : ℕ) → v'.belongings z ≡ child_belongings f (v.belongings t) → heap_of l' z ≡ fresh → length (row_of (slice_get l.machine.store z)) ≡ 0 → BelongingsStand v' l' z
    new_belongings z f eh el er = record {
      names = subst (λ (i : Belongings). ChunksHaveNames i.chunks (heap_of l' z)) (sym eh) (subst (ChunksHaveNames []) (sym el) (record { small = refl; large = refl }));
      room = ap (λ (i : Belongings). i.room) eh ∙ sym (ap (λ (i : Heap). i.room) el);
      since = ap (λ (i : Belongings). i.since) eh ∙ sym (ap (λ (i : Heap). i.since) el);
      count = λ live. ap (λ (i : Belongings). i.count) eh ∙ sym (F.rows z ∙ er);
      owned = λ k i. absurd (subst (λ (j : Belongings). In j.chunks k) eh i);
      inside = λ k o i j. absurd (subst (λ (j : Belongings). In j.chunks k) eh i);
      once = λ o q i j e. absurd (subst (λ (j : Belongings). In (objects_of_chunks j.chunks) o) eh i);
      named = λ o q i j e. absurd (subst (λ (j : Belongings). In (objects_of_chunks j.chunks) o) eh i);
      laid = subst (λ (i : Belongings). AreLaidOut i.chunks (heap_of l' z).reserved) (sym eh) (subst (AreLaidOut []) (sym (ap (λ (i : Heap). i.reserved) el)) none_laid);
    }

    belongings : (z : ℕ) → Rests l' z → BelongingsStand v' l' z
    belongings z r = elim (which z) [
      | inl e ↦ subst (BelongingsStand v' l') (sym e) old_belongings
      | inr w ↦ elim w [
        | inl e ↦ subst (BelongingsStand v' l') (sym e) (new_belongings a g C.left F.heap_left F.new_left)
        | inr w' ↦ elim w' [
          | inl e ↦ subst (BelongingsStand v' l') (sym e) (new_belongings b h C.right F.heap_right F.new_right)
          | inr o ↦ belongings_kept v v' l l' z (C.others z o.0 o.1 o.2) (λ k e. C.owner k ∙ e) (F.heaps z o.0 o.1 o.2) (F.rows z) (ap is_joined (F.tasks z o.0 o.1 o.2)) (V.belongings z (rest z o.1 o.2 r))
        ]
      ]
    ]

    frames_then : FramesAreRead (LiesWithOwner v' l') (v.belongings t).frames (x.top ∷ x.below)
    frames_then = frames_kept (LiesWithOwner v l) (LiesWithOwner v' l') (v.belongings t).frames (x.top ∷ x.below) (λ n j. place n) (subst (HoldsRead (LiesWithOwner v l) (v.belongings t) x) runs (V.tasks t x rests F.task))

    new_task : (z f : ℕ) (y : Task) → v'.belongings z ≡ child_belongings f (v.belongings t) → slice_get l'.machine.tasks z ≡ Some (child t (x.depth + 1) f x.top) → slice_get l'.machine.tasks z ≡ Some y → TaskIsRead (LiesWithOwner v' l') (v'.belongings z) y
    new_task z f y eh it is =
        subst (λ (w : Task). TaskIsRead (LiesWithOwner v' l') (v'.belongings z) w) (same_Some (child t (x.depth + 1) f x.top) y (sym it ∙ is))
        (subst (λ (i : Belongings). TaskIsRead (LiesWithOwner v' l') i (child t (x.depth + 1) f x.top)) (sym eh) (entered_read (LiesWithOwner v' l') (v.belongings t).frames t (x.depth + 1) f x.top x.below frames_then))

    task : (z : ℕ) (y : Task) → Rests l' z → slice_get l'.machine.tasks z ≡ Some y → TaskIsRead (LiesWithOwner v' l') (v'.belongings z) y
    task z y r is = elim (which z) [
      | inl e ↦
          subst (λ u. TaskIsRead (LiesWithOwner v' l') (v'.belongings u) y) (sym e)
          (subst (λ (w : Task). TaskIsRead (LiesWithOwner v' l') (v'.belongings t) w) (same_Some (record x { status = Waiting; top = onward x.top }) y (sym F.waits ∙ (ap (slice_get l'.machine.tasks) (sym e) ∙ is)))
          (subst (λ (i : Belongings). TaskIsRead (LiesWithOwner v' l') i (record x { status = Waiting; top = onward x.top })) (sym C.belongings) (advanced_read (LiesWithOwner v' l') (v.belongings t).frames x.top x.below frames_then)))
      | inr w ↦ elim w [
        | inl e ↦ subst (λ u. TaskIsRead (LiesWithOwner v' l') (v'.belongings u) y) (sym e) (new_task a g y C.left F.left (ap (slice_get l'.machine.tasks) (sym e) ∙ is))
        | inr w' ↦ elim w' [
          | inl e ↦ subst (λ u. TaskIsRead (LiesWithOwner v' l') (v'.belongings u) y) (sym e) (new_task b h y C.right F.right (ap (slice_get l'.machine.tasks) (sym e) ∙ is))
          | inr o ↦
              subst (λ (i : Belongings). TaskIsRead (LiesWithOwner v' l') i y) (sym (C.others z o.0 o.1 o.2))
              (task_kept (LiesWithOwner v l) (LiesWithOwner v' l') (v.belongings z) y (λ n j. place n) (V.tasks z y (rest z o.1 o.2 r) (sym (F.tasks z o.0 o.1 o.2) ∙ is)))
        ]
      ]
    ]

    remember : (z : ℕ) (o : Located) (y : Object) (i : ℕ) (n : Name) → Rests l' z → In (objects v' z) o → object_at l'.machine.store (object_name o) ≡ Some y → slice_get y.refs i ≡ Some (Some n)
        → (is_on_path l'.machine.tasks (own l' n) z ≡ true) ⊎ In (sources v' (own l' n)) (record { object = o.at; field = i })
    remember z o y i n r j is at =
        let w = was z o r j in
        elim (V.remembered z o y i n w.2 w.3 (sym (F.store (object_name o)) ∙ is) at) [
          | inl p ↦ inl (ap (λ k. is_on_path l'.machine.tasks k z) (F.owners n.task) ∙ (F.paths (own l n) z w.0 w.1 ∙ p))
          | inr s ↦ inr (subst (λ k. In (sources v' k) (record { object = o.at; field = i })) (sym (F.owners n.task)) (stays (own l n) (record { object = o.at; field = i }) s))
        ]
      where
        -- a task that doesn't exist yet has nothing noted
        stays : (u : ℕ) (s : RefField) → In (sources v u) s → In (sources v' u) s
        stays u s i =
            let k = V.sources u s i in
            let na : u ≡ a → ⊥ = λ e. k.below (F.lone_left (own l k.name) (ap (is_on_path l.machine.tasks (own l k.name)) (sym e) ∙ k.above) ∙ sym e) in
            let nb : u ≡ b → ⊥ = λ e. k.below (F.lone_right (own l k.name) (ap (is_on_path l.machine.tasks (own l k.name)) (sym e) ∙ k.above) ∙ sym e) in
            subst (λ ss. In ss s) (sym (C.sources u na nb)) i

    source : (z : ℕ) (s : RefField) → In (sources v' z) s → IsSource v' l' z s
    source z s i =
        let na : z ≡ a → ⊥ = λ e. subst (λ ss. In ss s) (ap (λ u. sources v' u) e ∙ C.left_noted) i in
        let nb : z ≡ b → ⊥ = λ e. subst (λ ss. In ss s) (ap (λ u. sources v' u) e ∙ C.right_noted) i in
        let k = V.sources z s (subst (λ ss. In ss s) (C.sources z na nb) i) in
        let e : own l' k.name ≡ own l k.name = F.owners k.name.task in
        let nt : own l k.name ≡ t → ⊥ = λ f. both_ways (is_waiting (slice_get l.machine.tasks t)) (runs_idle x F.task runs) (ap (λ u. is_waiting (slice_get l.machine.tasks u)) (sym f) ∙ k.waits) in
        let oa : own l k.name ≡ a → ⊥ = λ f. unowned s.object.chunk (own l k.name) (inl f) k.place.chunk in
        let ob : own l k.name ≡ b → ⊥ = λ f. unowned s.object.chunk (own l k.name) (inr f) k.place.chunk in
        source_kept v v' l l' z z s k e (F.store k.name) (place k.name s.object k.place) (ap is_waiting (F.tasks (own l k.name) nt oa ob)) (ap (λ (i : Heap). i.worker) (F.heaps (own l k.name) nt oa ob)) (F.paths (own l k.name) z na nb ∙ k.above) k.below (live z na nb k.live)
        (subst (λ (i : Heap). In i.snapshot k.name) (sym (F.heaps (own l k.name) nt oa ob)) k.snapshot)
      where
        live : (z : ℕ) → (z ≡ a → ⊥) → (z ≡ b → ⊥) → is_joined (slice_get l.machine.tasks z) ≡ false → is_joined (slice_get l'.machine.tasks z) ≡ false
        live z na nb k = elim (cases_eq z t) [
          | inl e ↦ ap (λ u. is_joined (slice_get l'.machine.tasks u)) e ∙ ap is_joined F.waits
          | inr nt ↦ ap is_joined (F.tasks z nt na nb) ∙ k
        ]

    view_same : (z : ℕ) → (z ≡ a → ⊥) → (z ≡ b → ⊥) → (v'.belongings z).view ≡ (v.belongings z).view
    view_same z na nb = elim (cases_eq z t) [
      | inl e ↦ ap (λ k. (v'.belongings k).view) e ∙ (ap (λ (i : Belongings). i.view) C.belongings ∙ ap (λ k. (v.belongings k).view) (sym e))
      | inr nt ↦ ap (λ (i : Belongings). i.view) (C.others z nt na nb)
    ]

    live_then : (z : ℕ) → (z ≡ a → ⊥) → (z ≡ b → ⊥) → is_joined (slice_get l'.machine.tasks z) ≡ false → is_joined (slice_get l.machine.tasks z) ≡ false
    live_then z na nb k = elim (cases_eq z t) [
      | inl e ↦ ap (λ u. is_joined (slice_get l.machine.tasks u)) e ∙ running
      | inr nt ↦ ap is_joined (sym (F.tasks z nt na nb)) ∙ k
    ]

    view : (z : ℕ) → Rests l' z → is_joined (slice_get l'.machine.tasks z) ≡ false → AboveIsShown v' l' z
    view z r j = elim (cases_eq z a) [
      | inl e ↦ subst (AboveIsShown v' l') (sym e) (left_shown v v' l l' t a b g h x V V.views rests running F C view_same (ap (λ (i : Belongings). i.view) C.left))
      | inr na ↦ elim (cases_eq z b) [
        | inl e ↦ subst (AboveIsShown v' l') (sym e) (right_shown v v' l l' t a b g h x V V.views rests running F C view_same (ap (λ (i : Belongings). i.view) C.right))
        | inr nb ↦ rest_shown v v' l l' t a b g h x V V.views rests running F C view_same z na nb (rest z na nb r) (live_then z na nb j)
      ]
    ]

    pub forked_stands : MemoryStands v' l'
    forked_stands = record {
      made = made;
      belongings = belongings;
      contents = λ z o r i.
          let w = was z o r i in
          let k = V.contents z o w.2 w.3 in
          (k.0, F.store (object_name o) ∙ k.1, object_kept (LiesWithOwner v l) (LiesWithOwner v' l') o k.0 (λ n j. place n) k.2);
      tasks = task;
      remembered = remember;
      sources = source;
      views = view;
      gives = λ z u r j up ne w ru. fork_gives v v' l l' t a b g h x S V V.gives rests runs running F C view_same z u (λ na nb. rest z na nb r) (λ na nb. live_then z na nb j) up ne w ru;
    }
