-- A private step of a task whose belongings are in the memory: what is shown of its belongings is enough.
use Rattle.refinement.proofs.Common.{◌≡◌, ℕ, true, false, Option, Some, None, slice_get, ◌⊎◌, inl, inr, refl, ap, sym, subst, ◌∙◌, cases_eq, both_ways, got_in, Addr, Located, Name, Object, Task, object_at, is_joined, is_waiting, is_on_path, parents, path_itself, Heap, Ledger, heap_of, SoundLedger, RefField, own, Rests, StepsAlone, own_live, leaf_alone, Belongings, Memory, In, object_name, objects, objects_of_chunks, sources, Lies, shown_at, IsModelObject, TaskIsRead, LiesWithOwner, GivesLevel, BelongingsStand, IsSource, MemoryStands, AboveIsShown, StepsInBelongings, BelongingsAreRead, Allocates}
use Rattle.refinement.proofs.objects.Carry.{object_kept, task_kept}
use Rattle.refinement.proofs.objects.Members.{in_chunk}
use Rattle.refinement.proofs.changes.Alone.{belongings_own, belongings_kept}
use Rattle.refinement.proofs.changes.Sweep.{refers}
use Rattle.refinement.proofs.changes.Giving.{gives_kept}
use Rattle.refinement.proofs.changes.Same.{source_alone}

module _ (v v' : Memory) (l l' : Ledger) (t : ℕ) (S : SoundLedger l) (S' : SoundLedger l') (V : MemoryStands v l) (A : StepsAlone l l' t) (rests : Rests l t) (rests' : Rests l' t)
    (idle : is_waiting (slice_get l.machine.tasks t) ≡ false) (C : StepsInBelongings v v' t) where
  rest : (u : ℕ) → Rests l' u → Rests l u
  rest u r = elim (cases_eq u t) [
    | inl e ↦ ap (λ z. (heap_of l z).worker) e ∙ rests
    | inr ne ↦ ap (λ (h : Heap). h.worker) (sym (A.heaps u ne)) ∙ r
  ]

  pub place_own : (n : Name) (a : Addr) → LiesWithOwner v l n a → LiesWithOwner v' l' n a
  place_own n a p =
      let e : own l' n ≡ own l n = A.tree.owners n.task in
      record {
        chunk = C.owner a.chunk ∙ (p.chunk ∙ ap Some (sym e));
        here = λ r.
            let q : Lies (v.belongings (own l n)).chunks n a = p.here (rest (own l n) (subst (Rests l') e r)) in
            subst (λ u. Lies (v'.belongings u).chunks n a) (sym e) (elim (cases_eq (own l n) t) [
              | inl f ↦ subst (λ u. Lies (v'.belongings u).chunks n a) (sym f) (C.stays n a (subst (λ u. Lies (v.belongings u).chunks n a) f q))
              | inr ne ↦ subst (λ (h : Belongings). Lies h.chunks n a) (sym (C.others (own l n) ne)) q
            ]);
      }

  module _ (H : BelongingsAreRead v' l' t) where
    was : (u : ℕ) (o : Located) → (u ≡ t → ⊥) → In (objects v' u) o → In (objects v u) o
    was u o ne i = subst (λ (h : Belongings). In (objects_of_chunks h.chunks) o) (C.others u ne) i

    store_same : (u : ℕ) (o : Located) → (u ≡ t → ⊥) → Rests l u → In (objects v u) o → object_at l'.machine.store (object_name o) ≡ object_at l.machine.store (object_name o)
    store_same u o ne r i = A.store (object_name o) (λ e. ne (sym (belongings_own v l S u (V.belongings u r) o i) ∙ e))

    content : (u : ℕ) (o : Located) → Rests l' u → In (objects v' u) o → (x : Object) × (object_at l'.machine.store (object_name o) ≡ Some x) × IsModelObject (LiesWithOwner v' l') o x
    content u o r i = elim (cases_eq u t) [
      | inl e ↦ H.contents o (subst (λ z. In (objects v' z) o) e i)
      | inr ne ↦
          let c = V.contents u o (rest u r) (was u o ne i) in
          (c.0, store_same u o ne (rest u r) (was u o ne i) ∙ c.1, object_kept (LiesWithOwner v l) (LiesWithOwner v' l') o c.0 (λ n j. place_own n) c.2)
    ]

    task : (u : ℕ) (x : Task) → Rests l' u → slice_get l'.machine.tasks u ≡ Some x → TaskIsRead (LiesWithOwner v' l') (v'.belongings u) x
    task u x r is = elim (cases_eq u t) [
      | inl e ↦ subst (λ z. TaskIsRead (LiesWithOwner v' l') (v'.belongings z) x) (sym e) (H.task x (ap (slice_get l'.machine.tasks) (sym e) ∙ is))
      | inr ne ↦ subst (λ (h : Belongings). TaskIsRead (LiesWithOwner v' l') h x) (sym (C.others u ne)) (task_kept (LiesWithOwner v l) (LiesWithOwner v' l') (v.belongings u) x (λ n j. place_own n) (V.tasks u x (rest u r) (sym (A.tasks u ne) ∙ is)))
    ]

    idle' : is_waiting (slice_get l'.machine.tasks t) ≡ false
    idle' = A.tree.waits t ∙ idle

    -- a running task's objects refer up or inside
    own_up : (o : Located) (y : Object) (n : Name) → In (objects v' t) o → object_at l'.machine.store (object_name o) ≡ Some y → In y.refs (Some n) → is_on_path l'.machine.tasks (own l' n) t ≡ true
    own_up o y n j is i =
        let e : own l' (object_name o) ≡ t = belongings_own v' l' S' t H.belongings o j in
        elim (S'.apart.of_object (object_name o) n (refers l'.machine.store (object_name o) n y is i)).2 [
          | inl h ↦
              let q : t ≡ own l' n = leaf_alone l' S' t (own l' n) idle' (own_live l' S' n) (ap (λ z. is_on_path l'.machine.tasks z (own l' n)) (sym e) ∙ h) in
              ap (λ z. is_on_path l'.machine.tasks z t) (sym q) ∙ path_itself (parents l'.machine.tasks) S'.fork_join.tree.low t
          | inr h ↦ ap (is_on_path l'.machine.tasks (own l' n)) (sym e) ∙ h
        ]

    remember : (u : ℕ) (o : Located) (x : Object) (i : ℕ) (n : Name) → Rests l' u → In (objects v' u) o → object_at l'.machine.store (object_name o) ≡ Some x → slice_get x.refs i ≡ Some (Some n)
        → (is_on_path l'.machine.tasks (own l' n) u ≡ true) ⊎ In (sources v' (own l' n)) (record { object = o.at; field = i })
    remember u o x i n r j is at = elim (cases_eq u t) [
      | inl e ↦ inl (ap (is_on_path l'.machine.tasks (own l' n)) e ∙ own_up o x n (subst (λ z. In (objects v' z) o) e j) is (got_in x.refs i (Some n) at))
      | inr ne ↦
          let e : own l' n ≡ own l n = A.tree.owners n.task in
          elim (V.remembered u o x i n (rest u r) (was u o ne j) (sym (store_same u o ne (rest u r) (was u o ne j)) ∙ is) at) [
            | inl h ↦ inl (ap (λ k. is_on_path l'.machine.tasks k u) e ∙ (A.tree.paths (own l n) u ∙ h))
            | inr s ↦ inr (subst (λ k. In (sources v' k) (record { object = o.at; field = i })) (sym e) (subst (λ ss. In ss (record { object = o.at; field = i })) (sym (C.sources (own l n))) s))
          ]
    ]

    source : (u : ℕ) (s : RefField) → In (sources v' u) s → IsSource v' l' u s
    source u s i =
        let k = V.sources u s (subst (λ ss. In ss s) (C.sources u) i) in
        let ne : own l k.name ≡ t → ⊥ = λ f. both_ways _ idle (ap (λ z. is_waiting (slice_get l.machine.tasks z)) (sym f) ∙ k.waits) in
        source_alone v v' l l' t u s k A ne (place_own k.name s.object k.place)

    view_same : (z : ℕ) → (v'.belongings z).view ≡ (v.belongings z).view
    view_same z = elim (cases_eq z t) [
      | inl e ↦ ap (λ k. (v'.belongings k).view) e ∙ (C.view ∙ ap (λ k. (v.belongings k).view) (sym e))
      | inr nt ↦ ap (λ (h : Belongings). h.view) (C.others z nt)
    ]

    view : (z : ℕ) → Rests l' z → is_joined (slice_get l'.machine.tasks z) ≡ false → AboveIsShown v' l' z
    view z r j w o up ne rw i =
        let up1 : is_on_path l.machine.tasks w z ≡ true = sym (A.tree.paths w z) ∙ up in
        let j1 : is_joined (slice_get l.machine.tasks z) ≡ false = sym (A.tree.joins z) ∙ j in
        let wt : w ≡ t → ⊥ = λ f. ne (leaf_alone l S w z (ap (λ y. is_waiting (slice_get l.machine.tasks y)) f ∙ idle) j1 up1) in
        ap (λ s. shown_at s o.at) (view_same z) ∙ V.views z (rest z r) j1 w o up1 ne (rest w rw) (subst (λ (h : Belongings). In (objects_of_chunks h.chunks) o) (C.others w wt) i)

    give : (z w : ℕ) → Rests l' z → is_joined (slice_get l'.machine.tasks z) ≡ false → is_on_path l'.machine.tasks w z ≡ true → (w ≡ z → ⊥) → is_waiting (slice_get l'.machine.tasks w) ≡ true → Rests l' w → GivesLevel v' w z
    give z w r j up ne wait rw =
        let wait1 : is_waiting (slice_get l.machine.tasks w) ≡ true = sym (A.tree.waits w) ∙ wait in
        let wt : w ≡ t → ⊥ = λ f. both_ways (is_waiting (slice_get l.machine.tasks w)) (ap (λ y. is_waiting (slice_get l.machine.tasks y)) f ∙ idle) wait1 in
        gives_kept v v' w z (view_same z) (view_same w) (λ n o. sym (C.owner n) ∙ o) (V.gives z w (rest z r) (sym (A.tree.joins z) ∙ j) (sym (A.tree.paths w z) ∙ up) ne wait1 (rest w rw))

    pub stepped : MemoryStands v' l'
    stepped = record {
      made = λ k u e. A.tree.made u ∙ V.made k u (sym (C.owner k) ∙ e);
      belongings = λ u r. elim (cases_eq u t) [
        | inl e ↦ subst (BelongingsStand v' l') (sym e) H.belongings
        | inr ne ↦ belongings_kept v v' l l' u (C.others u ne) (λ k e. C.owner k ∙ e) (A.heaps u ne) (A.rows u ne) (A.tree.joins u) (V.belongings u (rest u r))
      ];
      contents = content;
      tasks = task;
      remembered = remember;
      sources = source;
      views = view;
      gives = give;
    }

  -- AN ALLOCATION: the map gets one more name

  module _ (o : Located) (x : Object) (N : Allocates v v' l l' t o x) where
    new_object_is_there : In (objects v' t) o
    new_object_is_there = (N.objects o).1 (inr refl)

    place_new : LiesWithOwner v' l' (object_name o) o.at
    place_new =
        let e : own l' (object_name o) ≡ t = belongings_own v' l' S' t N.belongings o new_object_is_there in
        let k = in_chunk (v'.belongings t).chunks o new_object_is_there in
        record {
          chunk = ap v'.owner (N.belongings.inside k.0 o k.1 k.2) ∙ (N.belongings.owned k.0 k.1 ∙ ap Some (sym e));
          here = λ r. subst (λ u. Lies (v'.belongings u).chunks (object_name o) o.at) (sym e) (o, new_object_is_there, record { name = refl; at = refl });
        }

    place_either : (n : Name) (a : Addr) → LiesWithOwner v l n a ⊎ ((object_name o ≡ n) × (o.at ≡ a)) → LiesWithOwner v' l' n a
    place_either n a (inl p) = place_own n a p
    place_either n a (inr p) = subst (λ m. LiesWithOwner v' l' m a) p.0 (subst (LiesWithOwner v' l' (object_name o)) p.1 place_new)

    old_or_new : (q : Located) → In (objects v t) q ⊎ (o ≡ q) → (y : Object) × (object_at l'.machine.store (object_name q) ≡ Some y) × IsModelObject (LiesWithOwner v' l') q y
    old_or_new q (inl i) =
        let c = V.contents t q rests i in
        (c.0, N.others (object_name q) (λ e. none_some (sym N.new ∙ (ap (object_at l.machine.store) (sym e) ∙ c.1))) ∙ c.1, object_kept (LiesWithOwner v l) (LiesWithOwner v' l') q c.0 (λ n j. place_own n) c.2)
      where
        none_some : {y : Object} → ◌≡◌ {A = Option Object} None (Some y) → ⊥
        none_some e = absurd cc
    old_or_new q (inr e) = subst (λ (z : Located). (y : Object) × (object_at l'.machine.store (object_name z) ≡ Some y) × IsModelObject (LiesWithOwner v' l') z y) e (x, N.is, object_kept (LiesWithOwner v l) (LiesWithOwner v' l') o x (λ n j. place_own n) N.reads)

    pub allocated : MemoryStands v' l'
    allocated = stepped (record {
      belongings = N.belongings;
      contents = λ q i. old_or_new q ((N.objects q).0 i);
      task = λ y is. task_kept (λ n a. LiesWithOwner v l n a ⊎ ((object_name o ≡ n) × (o.at ≡ a))) (LiesWithOwner v' l') (v'.belongings t) y (λ n j. place_either n) (N.task y is);
    })
