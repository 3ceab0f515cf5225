-- Two parts that fit a memory fit it together: with the belongings of both in it, it stands for the accounts in which
-- both tasks rest.
use Rattle.refinement_laws.proofs.Common.{◌≡◌, ℕ, true, false, Some, slice_get, ◌⊎◌, inl, inr, ap, sym, subst, ◌∙◌, cases_eq, both_ways, same_Some, Addr, Located, Name, Object, Task, object_at, is_waiting, is_joined, is_on_path, Heap, Ledger, SoundLedger, RefField, Belongings, Memory, In, object_name, objects, objects_of_chunks, sources, Lies, shown_at, IsModelObject, TaskIsRead, own, Rests, StepsAlone, GivesLevel, LiesWithOwner, BelongingsStand, IsSource, MemoryStands, AboveIsShown, SameBut, object_kept, task_kept, object_both, task_both, belongings_own, belongings_kept, refers, gives_kept, leaf_alone, source_alone}

-- v1 has t's belongings, v2 has u's, and v has both; l1 and l2 are the accounts for them. What the tasks own is
-- disjoint: from l1 to l only what u owns changes, from l2 to l only what t owns.
module _ (v v1 v2 : Memory) (l l1 l2 : Ledger) (t u : ℕ) (apart : t ≡ u → ⊥) (S1 : SoundLedger l1) (S2 : SoundLedger l2) (V1 : MemoryStands v1 l1) (V2 : MemoryStands v2 l2)
    (A1 : StepsAlone l1 l u) (A2 : StepsAlone l2 l t) (C1 : SameBut v1 v u) (C2 : SameBut v2 v t)
    (idle_t : is_waiting (slice_get l.machine.tasks t) ≡ false) (idle_u : is_waiting (slice_get l.machine.tasks u) ≡ false)
    (live_t : is_joined (slice_get l.machine.tasks t) ≡ false) (live_u : is_joined (slice_get l.machine.tasks u) ≡ false) where
  own1 : (n : Name) → own l n ≡ own l1 n
  own1 n = A1.tree.owners n.task

  own2 : (n : Name) → own l n ≡ own l2 n
  own2 n = A2.tree.owners n.task

  rest1 : (z : ℕ) → (z ≡ u → ⊥) → Rests l z → Rests l1 z
  rest1 z ne r = ap (λ (h : Heap). h.worker) (sym (A1.heaps z ne)) ∙ r

  rest2 : (z : ℕ) → (z ≡ t → ⊥) → Rests l z → Rests l2 z
  rest2 z ne r = ap (λ (h : Heap). h.worker) (sym (A2.heaps z ne)) ∙ r

  -- a name that isn't u's has its address by the first, and one that isn't t's by the second
  place1 : (n : Name) (a : Addr) → (own l n ≡ u → ⊥) → LiesWithOwner v1 l1 n a → LiesWithOwner v l n a
  place1 n a ne p = record {
    chunk = C1.owner a.chunk ∙ (p.chunk ∙ ap Some (sym (own1 n)));
    here = λ r.
        subst (λ (h : Belongings). Lies h.chunks n a) (sym (C1.belongings (own l n) ne))
        (subst (λ z. Lies (v1.belongings z).chunks n a) (sym (own1 n)) (p.here (subst (Rests l1) (own1 n) (rest1 (own l n) ne r))));
  }

  place2 : (n : Name) (a : Addr) → (own l n ≡ t → ⊥) → LiesWithOwner v2 l2 n a → LiesWithOwner v l n a
  place2 n a ne p = record {
    chunk = C2.owner a.chunk ∙ (p.chunk ∙ ap Some (sym (own2 n)));
    here = λ r.
        subst (λ (h : Belongings). Lies h.chunks n a) (sym (C2.belongings (own l n) ne))
        (subst (λ z. Lies (v2.belongings z).chunks n a) (sym (own2 n)) (p.here (subst (Rests l2) (own2 n) (rest2 (own l n) ne r))));
  }

  place : (n : Name) (a : Addr) → LiesWithOwner v1 l1 n a → LiesWithOwner v2 l2 n a → LiesWithOwner v l n a
  place n a p q = elim (cases_eq (own l n) u) [
    | inl e ↦ place2 n a (λ f. apart (sym f ∙ e)) q
    | inr ne ↦ place1 n a ne p
  ]

  path1 : (a z : ℕ) → is_on_path l.machine.tasks a z ≡ is_on_path l1.machine.tasks a z
  path1 a z = A1.tree.paths a z

  path2 : (a z : ℕ) → is_on_path l.machine.tasks a z ≡ is_on_path l2.machine.tasks a z
  path2 a z = A2.tree.paths a z

  -- what is on one path with t isn't u's, and vice versa
  not_u : (a : ℕ) → (is_on_path l1.machine.tasks t a ≡ true) ⊎ (is_on_path l1.machine.tasks a t ≡ true) → a ≡ u → ⊥
  not_u a (inl h) e = apart (leaf_alone l1 S1 t u (sym (A1.tree.waits t) ∙ idle_t) (sym (A1.tree.joins u) ∙ live_u) (ap (is_on_path l1.machine.tasks t) (sym e) ∙ h))
  not_u a (inr h) e = apart (sym (leaf_alone l1 S1 u t (sym (A1.tree.waits u) ∙ idle_u) (sym (A1.tree.joins t) ∙ live_t) (ap (λ z. is_on_path l1.machine.tasks z t) (sym e) ∙ h)))

  not_t : (a : ℕ) → (is_on_path l2.machine.tasks u a ≡ true) ⊎ (is_on_path l2.machine.tasks a u ≡ true) → a ≡ t → ⊥
  not_t a (inl h) e = apart (sym (leaf_alone l2 S2 u t (sym (A2.tree.waits u) ∙ idle_u) (sym (A2.tree.joins t) ∙ live_t) (ap (is_on_path l2.machine.tasks u) (sym e) ∙ h)))
  not_t a (inr h) e = apart (leaf_alone l2 S2 t u (sym (A2.tree.waits t) ∙ idle_t) (sym (A2.tree.joins u) ∙ live_u) (ap (λ z. is_on_path l2.machine.tasks z u) (sym e) ∙ h))

  from1 : (z : ℕ) (o : Located) → (z ≡ u → ⊥) → In (objects v z) o → In (objects v1 z) o
  from1 z o ne i = subst (λ (h : Belongings). In (objects_of_chunks h.chunks) o) (C1.belongings z ne) i

  from2 : (z : ℕ) (o : Located) → (z ≡ t → ⊥) → In (objects v z) o → In (objects v2 z) o
  from2 z o ne i = subst (λ (h : Belongings). In (objects_of_chunks h.chunks) o) (C2.belongings z ne) i

  belongings : (z : ℕ) → Rests l z → BelongingsStand v l z
  belongings z r = elim (cases_eq z u) [
    | inl e ↦
        let ne : z ≡ t → ⊥ = λ f. apart (sym f ∙ e) in
        belongings_kept v2 v l2 l z (C2.belongings z ne) (λ k g. C2.owner k ∙ g) (A2.heaps z ne) (A2.rows z ne) (A2.tree.joins z) (V2.belongings z (rest2 z ne r))
    | inr ne ↦ belongings_kept v1 v l1 l z (C1.belongings z ne) (λ k g. C1.owner k ∙ g) (A1.heaps z ne) (A1.rows z ne) (A1.tree.joins z) (V1.belongings z (rest1 z ne r))
  ]

  owner1 : (z : ℕ) (o : Located) → (z ≡ u → ⊥) → Rests l z → In (objects v z) o → own l1 (object_name o) ≡ z
  owner1 z o ne r i = belongings_own v1 l1 S1 z (V1.belongings z (rest1 z ne r)) o (from1 z o ne i)

  owner2 : (z : ℕ) (o : Located) → (z ≡ t → ⊥) → Rests l z → In (objects v z) o → own l2 (object_name o) ≡ z
  owner2 z o ne r i = belongings_own v2 l2 S2 z (V2.belongings z (rest2 z ne r)) o (from2 z o ne i)

  -- the object of a name that isn't u's, and of one that isn't t's
  object1 : (z : ℕ) (o : Located) → (z ≡ u → ⊥) → Rests l z → In (objects v z) o → object_at l.machine.store (object_name o) ≡ object_at l1.machine.store (object_name o)
  object1 z o ne r i = A1.store (object_name o) (λ e. ne (sym (owner1 z o ne r i) ∙ e))

  object2 : (z : ℕ) (o : Located) → (z ≡ t → ⊥) → Rests l z → In (objects v z) o → object_at l.machine.store (object_name o) ≡ object_at l2.machine.store (object_name o)
  object2 z o ne r i = A2.store (object_name o) (λ e. ne (sym (owner2 z o ne r i) ∙ e))

  abbrev Content : Located → Type 0
  Content o = (x : Object) × (object_at l.machine.store (object_name o) ≡ Some x) × IsModelObject (LiesWithOwner v l) o x

  content : (z : ℕ) (o : Located) → Rests l z → In (objects v z) o → Content o
  content z o r i = elim (cases_eq z u) [
    | inl e ↦
        let ne : z ≡ t → ⊥ = λ f. apart (sym f ∙ e) in
        let c = V2.contents z o (rest2 z ne r) (from2 z o ne i) in
        let mine : own l2 (object_name o) ≡ u = owner2 z o ne r i ∙ e in (
          c.0,
          object2 z o ne r i ∙ c.1,
          object_kept (LiesWithOwner v2 l2) (LiesWithOwner v l) o c.0
              (λ n j a. place2 n a (λ f. not_t (own l2 n) (subst (λ k. (is_on_path l2.machine.tasks k (own l2 n) ≡ true) ⊎ (is_on_path l2.machine.tasks (own l2 n) k ≡ true)) mine
              (S2.apart.of_object (object_name o) n (refers l2.machine.store (object_name o) n c.0 c.1 j)).2) (sym (own2 n) ∙ f))) c.2,
        )
    | inr nu ↦
        let c = V1.contents z o (rest1 z nu r) (from1 z o nu i) in
        elim (cases_eq z t) [
          | inl e ↦
              let mine : own l1 (object_name o) ≡ t = owner1 z o nu r i ∙ e in (
                c.0,
                object1 z o nu r i ∙ c.1,
                object_kept (LiesWithOwner v1 l1) (LiesWithOwner v l) o c.0
                    (λ n j a. place1 n a (λ f. not_u (own l1 n) (subst (λ k. (is_on_path l1.machine.tasks k (own l1 n) ≡ true) ⊎ (is_on_path l1.machine.tasks (own l1 n) k ≡ true)) mine
                    (S1.apart.of_object (object_name o) n (refers l1.machine.store (object_name o) n c.0 c.1 j)).2) (sym (own1 n) ∙ f))) c.2,
              )
          | inr nt ↦
              let d = V2.contents z o (rest2 z nt r) (from2 z o nt i) in
              let same : d.0 ≡ c.0 = same_Some d.0 c.0 (sym d.1 ∙ (sym (object2 z o nt r i) ∙ (object1 z o nu r i ∙ c.1))) in
              (c.0, object1 z o nu r i ∙ c.1, object_both (LiesWithOwner v1 l1) (LiesWithOwner v2 l2) (LiesWithOwner v l) o c.0 place c.2 (subst (IsModelObject (LiesWithOwner v2 l2) o) same d.2))
        ]
  ]

  task : (z : ℕ) (x : Task) → Rests l z → slice_get l.machine.tasks z ≡ Some x → TaskIsRead (LiesWithOwner v l) (v.belongings z) x
  task z x r is = elim (cases_eq z u) [
    | inl e ↦
        let ne : z ≡ t → ⊥ = λ f. apart (sym f ∙ e) in
        let is2 : slice_get l2.machine.tasks z ≡ Some x = sym (A2.tasks z ne) ∙ is in
        subst (λ (h : Belongings). TaskIsRead (LiesWithOwner v l) h x) (sym (C2.belongings z ne))
        (task_kept (LiesWithOwner v2 l2) (LiesWithOwner v l) (v2.belongings z) x
        (λ n j a. place2 n a (λ f. not_t (own l2 n) (inr (ap (is_on_path l2.machine.tasks (own l2 n)) (sym e) ∙ (S2.apart.of_task z x n is2 j).1)) (sym (own2 n) ∙ f)))
        (V2.tasks z x (rest2 z ne r) is2))
    | inr nu ↦
        let is1 : slice_get l1.machine.tasks z ≡ Some x = sym (A1.tasks z nu) ∙ is in
        elim (cases_eq z t) [
          | inl e ↦
              subst (λ (h : Belongings). TaskIsRead (LiesWithOwner v l) h x) (sym (C1.belongings z nu))
              (task_kept (LiesWithOwner v1 l1) (LiesWithOwner v l) (v1.belongings z) x
              (λ n j a. place1 n a (λ f. not_u (own l1 n) (inr (ap (is_on_path l1.machine.tasks (own l1 n)) (sym e) ∙ (S1.apart.of_task z x n is1 j).1)) (sym (own1 n) ∙ f)))
              (V1.tasks z x (rest1 z nu r) is1))
          | inr nt ↦
              let is2 : slice_get l2.machine.tasks z ≡ Some x = sym (A2.tasks z nt) ∙ is in
              let k1 : TaskIsRead (LiesWithOwner v1 l1) (v.belongings z) x = subst (λ (h : Belongings). TaskIsRead (LiesWithOwner v1 l1) h x) (sym (C1.belongings z nu)) (V1.tasks z x (rest1 z nu r) is1) in
              let k2 : TaskIsRead (LiesWithOwner v2 l2) (v.belongings z) x = subst (λ (h : Belongings). TaskIsRead (LiesWithOwner v2 l2) h x) (sym (C2.belongings z nt)) (V2.tasks z x (rest2 z nt r) is2) in
              task_both (LiesWithOwner v1 l1) (LiesWithOwner v2 l2) (LiesWithOwner v l) (v.belongings z) x place k1 k2
        ]
  ]

  remember : (z : ℕ) (o : Located) (x : Object) (i : ℕ) (n : Name) → Rests l z → In (objects v z) o → object_at l.machine.store (object_name o) ≡ Some x → slice_get x.refs i ≡ Some (Some n)
      → (is_on_path l.machine.tasks (own l n) z ≡ true) ⊎ In (sources v (own l n)) (record { object = o.at; field = i })
  remember z o x i n r j is at = elim (cases_eq z u) [
    | inl e ↦
        let ne : z ≡ t → ⊥ = λ f. apart (sym f ∙ e) in
        elim (V2.remembered z o x i n (rest2 z ne r) (from2 z o ne j) (sym (object2 z o ne r j) ∙ is) at) [
          | inl h ↦ inl (ap (λ k. is_on_path l.machine.tasks k z) (own2 n) ∙ (path2 (own l2 n) z ∙ h))
          | inr s ↦ inr (subst (λ k. In (sources v k) (record { object = o.at; field = i })) (sym (own2 n)) (subst (λ ss. In ss (record { object = o.at; field = i })) (sym (C2.sources (own l2 n))) s))
        ]
    | inr ne ↦ elim (V1.remembered z o x i n (rest1 z ne r) (from1 z o ne j) (sym (object1 z o ne r j) ∙ is) at) [
      | inl h ↦ inl (ap (λ k. is_on_path l.machine.tasks k z) (own1 n) ∙ (path1 (own l1 n) z ∙ h))
      | inr s ↦ inr (subst (λ k. In (sources v k) (record { object = o.at; field = i })) (sym (own1 n)) (subst (λ ss. In ss (record { object = o.at; field = i })) (sym (C1.sources (own l1 n))) s))
    ]
  ]

  source : (z : ℕ) (s : RefField) → In (sources v z) s → IsSource v l z s
  source z s i =
      let k = V1.sources z s (subst (λ ss. In ss s) (C1.sources z) i) in
      let e : own l k.name ≡ own l1 k.name = own1 k.name in
      let ne : own l1 k.name ≡ u → ⊥ = λ f. both_ways _ (sym (A1.tree.waits u) ∙ idle_u) (ap (λ y. is_waiting (slice_get l1.machine.tasks y)) (sym f) ∙ k.waits) in
      let ne' : own l k.name ≡ u → ⊥ = λ f. ne (sym e ∙ f) in
      source_alone v1 v l1 l u z s k A1 ne (place1 k.name s.object ne' k.place)

  view : (z : ℕ) → Rests l z → is_joined (slice_get l.machine.tasks z) ≡ false → AboveIsShown v l z
  view z r j w o up ne rw i = elim (cases_eq z u) [
    | inl e ↦
        let nt : z ≡ t → ⊥ = λ f. apart (sym f ∙ e) in
        let up2 : is_on_path l2.machine.tasks w z ≡ true = sym (path2 w z) ∙ up in
        let j2 : is_joined (slice_get l2.machine.tasks z) ≡ false = sym (A2.tree.joins z) ∙ j in
        let wt : w ≡ t → ⊥ = λ f. nt (sym (leaf_alone l2 S2 t z (sym (A2.tree.waits t) ∙ idle_t) j2 (ap (λ y. is_on_path l2.machine.tasks y z) (sym f) ∙ up2))) in
        ap (λ (h : Belongings). shown_at h.view o.at) (C2.belongings z nt) ∙ V2.views z (rest2 z nt r) j2 w o up2 ne (rest2 w wt rw) (from2 w o wt i)
    | inr nu ↦
        let up1 : is_on_path l1.machine.tasks w z ≡ true = sym (path1 w z) ∙ up in
        let j1 : is_joined (slice_get l1.machine.tasks z) ≡ false = sym (A1.tree.joins z) ∙ j in
        let wu : w ≡ u → ⊥ = λ f. nu (sym (leaf_alone l1 S1 u z (sym (A1.tree.waits u) ∙ idle_u) j1 (ap (λ y. is_on_path l1.machine.tasks y z) (sym f) ∙ up1))) in
        ap (λ (h : Belongings). shown_at h.view o.at) (C1.belongings z nu) ∙ V1.views z (rest1 z nu r) j1 w o up1 ne (rest1 w wu rw) (from1 w o wu i)
  ]

  give : (z w : ℕ) → Rests l z → is_joined (slice_get l.machine.tasks z) ≡ false → is_on_path l.machine.tasks w z ≡ true → (w ≡ z → ⊥) → is_waiting (slice_get l.machine.tasks w) ≡ true → Rests l w → GivesLevel v w z
  give z w r j up ne wait rw =
      let wt : w ≡ t → ⊥ = λ e. both_ways (is_waiting (slice_get l.machine.tasks w)) (ap (λ y. is_waiting (slice_get l.machine.tasks y)) e ∙ idle_t) wait in
      let wu : w ≡ u → ⊥ = λ e. both_ways (is_waiting (slice_get l.machine.tasks w)) (ap (λ y. is_waiting (slice_get l.machine.tasks y)) e ∙ idle_u) wait in
      elim (cases_eq z u) [
        | inl e ↦
            let nt : z ≡ t → ⊥ = λ f. apart (sym f ∙ e) in
            gives_kept v2 v w z (ap (λ (h : Belongings). h.view) (C2.belongings z nt)) (ap (λ (h : Belongings). h.view) (C2.belongings w wt)) (λ n o. sym (C2.owner n) ∙ o)
            (V2.gives z w (rest2 z nt r) (sym (A2.tree.joins z) ∙ j) (sym (path2 w z) ∙ up) ne (sym (A2.tree.waits w) ∙ wait) (rest2 w wt rw))
        | inr nu ↦
            gives_kept v1 v w z (ap (λ (h : Belongings). h.view) (C1.belongings z nu)) (ap (λ (h : Belongings). h.view) (C1.belongings w wu)) (λ n o. sym (C1.owner n) ∙ o)
            (V1.gives z w (rest1 z nu r) (sym (A1.tree.joins z) ∙ j) (sym (path1 w z) ∙ up) ne (sym (A1.tree.waits w) ∙ wait) (rest1 w wu rw))
      ]

  pub assembled : MemoryStands v l
  assembled = record { made = λ k z e. A1.tree.made z ∙ V1.made k z (sym (C1.owner k) ∙ e); belongings = belongings; contents = content; tasks = task; remembered = remember; sources = source; views = view; gives = give }
