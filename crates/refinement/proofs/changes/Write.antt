-- A step writes a field, of an object of its task or of an ancestor: nothing moves, and a reference that points down is
-- remembered.
use Rattle.refinement.proofs.Common.{◌≡◌, ℕ, ◌<◌, Bool, true, false, cond, Some, length, slice_get, ◌⊎◌, inl, inr, refl, ap, sym, subst, ◌∙◌, cases_eq, both_ways, cond-true, cond-false, same_Some, Addr, Located, Name, Object, Task, object_at, is_waiting, is_on_path, Heap, Ledger, heap_of, SoundLedger, RefField, own, Rests, WritesOne, name_cases, same_address, is_same, same_is, Memory, In, object_name, objects, objects_of_chunks, sources, Lies, put_at, IsModelObject, TaskIsRead, words, LiesWithOwner, IsSource, MemoryStands, WritesAt, WritesWell}
use Rattle.refinement.proofs.objects.Carry.{object_kept, task_kept, same_holding}
use Rattle.refinement.proofs.objects.Members.{in_chunk}
use Rattle.refinement.proofs.objects.Mapped.{from_mapped, lies_mapped, belongings_mapped_by}
use Rattle.refinement.proofs.changes.Alone.{belongings_own}
use Rattle.refinement.proofs.changes.Shown.{write_shown}
use Rattle.refinement.proofs.changes.Giving.{gives_kept}

module _ (v v' : Memory) (l l' : Ledger) (t : ℕ) (n : Name) (a : Addr) (x x' : Object) (f : Located → Located) (S : SoundLedger l) (V : MemoryStands v l)
    (L : WritesOne l l' t n x x') (C : WritesAt v v' t a f) (W : WritesWell v v' l l' t n a x x' f) where
  abbrev one : Located → Located
  one o = put_at a f o

  one_name : (o : Located) → object_name (one o) ≡ object_name o
  one_name o = one_name_by_cases (same_address o.at a)
    where
      one_name_by_cases : (b : Bool) → object_name (cond b (f o) o) ≡ object_name o
      one_name_by_cases true = C.same_name o
      one_name_by_cases false = refl

  one_at : (o : Located) → (one o).at ≡ o.at
  one_at o = one_at_by_cases (same_address o.at a)
    where
      one_at_by_cases : (b : Bool) → (cond b (f o) o).at ≡ o.at
      one_at_by_cases true = C.same_at o
      one_at_by_cases false = refl

  one_words : (o : Located) → words (one o) ≡ words o
  one_words o = one_words_by_cases (same_address o.at a)
    where
      one_words_by_cases : (b : Bool) → words (cond b (f o) o) ≡ words o
      one_words_by_cases true = C.same_words o
      one_words_by_cases false = refl

  owner_same : (m : Name) → own l' m ≡ own l m
  owner_same m = L.tree.owners m.task

  rest : (u : ℕ) → Rests l' u → Rests l u
  rest u r = ap (λ (h : Heap). h.worker) (sym (L.heaps u)) ∙ r

  place : (m : Name) (b : Addr) → LiesWithOwner v l m b → LiesWithOwner v' l' m b
  place m b p = record {
    chunk = C.owner b.chunk ∙ (p.chunk ∙ ap Some (sym (owner_same m)));
    here = λ r.
        subst (λ u. Lies (v'.belongings u).chunks m b) (sym (owner_same m))
        (subst (λ ks. Lies ks m b) (sym (C.chunks (own l m)))
        (lies_mapped one one_name one_at (v.belongings (own l m)).chunks m b (p.here (rest (own l m) (subst (Rests l') (owner_same m) r)))));
  }

  was : (u : ℕ) (o : Located) → In (objects v' u) o → (q : Located) × In (objects v u) q × (one q ≡ o)
  was u o i = from_mapped one one_name one_at (v.belongings u).chunks o (subst (λ ks. In (objects_of_chunks ks) o) (C.chunks u) i)

  -- the object of this name is written, and no other is
  written_is : (u : ℕ) (o : Located) → Rests l u → In (objects v u) o → o.at ≡ a → object_name o ≡ n
  written_is u o r i e =
      let q : Lies (v.belongings (own l n)).chunks n a = W.place.here W.rests in
      let k = in_chunk (v.belongings u).chunks o i in
      let mine : v.owner a.chunk ≡ Some u = ap (λ (b : Addr). v.owner b.chunk) (sym e) ∙ (ap v.owner ((V.belongings u r).inside k.0 o k.1 k.2) ∙ (V.belongings u r).owned k.0 k.1) in
      let same : own l n ≡ u = same_Some (own l n) u (sym W.place.chunk ∙ mine) in
      let p : o ≡ q.0 = (V.belongings u r).once o q.0 i (subst (λ z. In (objects v z) q.0) same q.1) (e ∙ sym q.2.at) in
      ap object_name p ∙ q.2.name

  name_is : (u : ℕ) (o : Located) → Rests l u → In (objects v u) o → object_name o ≡ n → o.at ≡ a
  name_is u o r i e =
      let q : Lies (v.belongings (own l n)).chunks n a = W.place.here W.rests in
      let same : own l n ≡ u = sym (ap (own l) e) ∙ belongings_own v l S u (V.belongings u r) o i in
      let p : o ≡ q.0 = (V.belongings u r).named o q.0 i (subst (λ z. In (objects v z) q.0) same q.1) (e ∙ sym q.2.name) in
      ap (λ (z : Located). z.at) p ∙ q.2.at

  -- an object before the write is the one that is written, or is unchanged
  abbrev Cases : Located → Type 0
  Cases o = ((object_name o ≡ n) × (o.at ≡ a) × (one o ≡ f o)) ⊎ ((object_name o ≡ n → ⊥) × (one o ≡ o))

  cases : (u : ℕ) (o : Located) → Rests l u → In (objects v u) o → Cases o
  cases u o r i = cases_by_cases (same_address o.at a) refl
    where
      cases_by_cases : (b : Bool) → same_address o.at a ≡ b → Cases o
      cases_by_cases true e = let at : o.at ≡ a = same_is o.at a e in inl (written_is u o r i at, at, cond-true (same_address o.at a) (f o) o e)
      cases_by_cases false e = inr ((λ g. both_ways (same_address o.at a) e (is_same o.at a (name_is u o r i g))), cond-false (same_address o.at a) (f o) o e)

  abbrev Content : Located → Type 0
  Content o = (y : Object) × (object_at l'.machine.store (object_name o) ≡ Some y) × IsModelObject (LiesWithOwner v' l') o y

  content : (u : ℕ) (o : Located) → Rests l' u → In (objects v' u) o → Content o
  content u o r i =
      let q = was u o i in
      let c = V.contents u q.0 (rest u r) q.1 in
      subst Content q.2 (elim (cases u q.0 (rest u r) q.1) [
        | inl w ↦
            let same : c.0 ≡ x = same_Some c.0 x (sym c.1 ∙ (ap (object_at l.machine.store) w.0 ∙ L.was)) in
            let reads : IsModelObject (LiesWithOwner v l) (one q.0) x' = subst (λ (z : Located). IsModelObject (LiesWithOwner v l) z x') (sym w.2) (W.reads q.0 (subst (IsModelObject (LiesWithOwner v l) q.0) same c.2)) in
            (x', ap (object_at l'.machine.store) (one_name q.0 ∙ w.0) ∙ L.is, object_kept (LiesWithOwner v l) (LiesWithOwner v' l') (one q.0) x' (λ m j. place m) reads)
        | inr w ↦ subst Content (sym w.1) (c.0, L.others (object_name q.0) w.0 ∙ c.1, object_kept (LiesWithOwner v l) (LiesWithOwner v' l') q.0 c.0 (λ m j. place m) c.2)
      ])

  task : (u : ℕ) (y : Task) → Rests l' u → slice_get l'.machine.tasks u ≡ Some y → TaskIsRead (LiesWithOwner v' l') (v'.belongings u) y
  task u y r is = task_kept (LiesWithOwner v l) (LiesWithOwner v' l') (v'.belongings u) y (λ m j. place m) (elim (cases_eq u t) [
    | inl e ↦ subst (λ z. TaskIsRead (LiesWithOwner v l) (v'.belongings z) y) (sym e) (W.task y (subst (Rests l) e (rest u r)) (ap (slice_get l'.machine.tasks) (sym e) ∙ is))
    | inr ne ↦ same_holding (LiesWithOwner v l) (v.belongings u) (v'.belongings u) y (C.frames u ne) (C.result u ne) (V.tasks u y (rest u r) (sym (L.tasks u ne) ∙ is))
  ])

  abbrev Minds : ℕ → Name → RefField → Type 0
  Minds u r s = (is_on_path l'.machine.tasks (own l' r) u ≡ true) ⊎ In (sources v' (own l' r)) s

  minds : (u : ℕ) (r : Name) (s : RefField) → (is_on_path l.machine.tasks (own l r) u ≡ true) ⊎ In (sources v' (own l r)) s → Minds u r s
  minds u r s (inl h) = inl (ap (λ k. is_on_path l'.machine.tasks k u) (owner_same r) ∙ (L.tree.paths (own l r) u ∙ h))
  minds u r s (inr i) = inr (subst (λ k. In (sources v' k) s) (sym (owner_same r)) i)

  remember : (u : ℕ) (o : Located) (y : Object) (i : ℕ) (r : Name) → Rests l' u → In (objects v' u) o → object_at l'.machine.store (object_name o) ≡ Some y → slice_get y.refs i ≡ Some (Some r)
      → Minds u r (record { object = o.at; field = i })
  remember u o y i r q j is at =
      let p = was u o j in
      let e : o.at ≡ p.0.at = ap (λ (z : Located). z.at) (sym p.2) ∙ one_at p.0 in
      let is' : object_at l'.machine.store (object_name p.0) ≡ Some y = ap (object_at l'.machine.store) (sym (one_name p.0) ∙ ap object_name p.2) ∙ is in
      subst (λ (b : Addr). Minds u r (record { object = b; field = i })) (sym e) (minds u r (record { object = p.0.at; field = i }) (elim (cases u p.0 (rest u q) p.1) [
        | inl w ↦
            let same : x' ≡ y = same_Some x' y (sym L.is ∙ (ap (object_at l'.machine.store) (sym w.0) ∙ is')) in
            let mine : own l n ≡ u = sym (ap (own l) w.0) ∙ belongings_own v l S u (V.belongings u (rest u q)) p.0 p.1 in
            subst (λ z. (is_on_path l.machine.tasks (own l r) z ≡ true) ⊎ In (sources v' (own l r)) (record { object = p.0.at; field = i })) mine
            (subst (λ (b : Addr). (is_on_path l.machine.tasks (own l r) (own l n) ≡ true) ⊎ In (sources v' (own l r)) (record { object = b; field = i })) (sym w.1)
            (W.minds i r (ap (λ (z : Object). slice_get z.refs i) same ∙ at)))
        | inr w ↦ elim (V.remembered u p.0 y i r (rest u q) p.1 (sym (L.others (object_name p.0) w.0) ∙ is') at) [
          | inl h ↦ inl h
          | inr s ↦ inr (C.noted (own l r) (record { object = p.0.at; field = i }) s)
        ]
      ]))

  source : (u : ℕ) (s : RefField) → In (sources v' u) s → IsSource v' l' u s
  source u s i =
      let k = W.sources u s i in
      let e : own l' k.name ≡ own l k.name = owner_same k.name in
      let now = object k.name k.object k.is in
      record {
        name = k.name;
        object = now.0;
        is = now.1;
        mutable = now.3 k.mutable;
        place = place k.name s.object k.place;
        field = subst (λ z. s.field < z) (sym now.2) k.field;
        waits = ap (λ z. is_waiting (slice_get l'.machine.tasks z)) e ∙ (L.tree.waits (own l k.name) ∙ k.waits);
        rests = ap (λ z. (heap_of l' z).worker) e ∙ (ap (λ (h : Heap). h.worker) (L.heaps (own l k.name)) ∙ k.rests);
        above = ap (λ z. is_on_path l'.machine.tasks z u) e ∙ (L.tree.paths (own l k.name) u ∙ k.above);
        below = λ z. k.below (sym e ∙ z);
        live = L.tree.joins u ∙ k.live;
        snapshot = subst (λ z. In (heap_of l' z).snapshot k.name) (sym e) (subst (λ (h : Heap). In h.snapshot k.name) (sym (L.heaps (own l k.name))) k.snapshot);
      }
    where
      -- the object afterwards
      object : (m : Name) (y : Object) → object_at l.machine.store m ≡ Some y → (z : Object) × (object_at l'.machine.store m ≡ Some z) × (length z.refs ≡ length y.refs) × (y.mutable ≡ true → z.mutable ≡ true)
      object m y is = elim (name_cases m n) [
        | inl e ↦ (x', ap (object_at l'.machine.store) e ∙ L.is, L.fields ∙ ap (λ (z : Object). length z.refs) (same_Some x y (sym L.was ∙ (ap (object_at l.machine.store) (sym e) ∙ is))), λ q. W.still)
        | inr ne ↦ (y, L.others m ne ∙ is, refl, λ q. q)
      ]

  mutable_at : (u : ℕ) (o : Located) → In (objects v u) o → Rests l u → o.at ≡ a → o.mutable ≡ true
  mutable_at u o i r e =
      let c = V.contents u o r i in
      let same : c.0 ≡ x = same_Some c.0 x (sym c.1 ∙ (ap (object_at l.machine.store) (written_is u o r i e) ∙ L.was)) in
      c.2.mutable ∙ (ap (λ (z : Object). z.mutable) same ∙ W.mutable)

  pub written : MemoryStands v' l'
  written = record {
    made = λ k u e. L.tree.made u ∙ V.made k u (sym (C.owner k) ∙ e);
    belongings = λ u r. belongings_mapped_by one one_name one_at v v' l l' u (C.chunks u) (C.room u) (C.since u) (C.count u) (λ k e. C.owner k ∙ e) (L.heaps u) (L.rows u) (L.tree.joins u) one_words (V.belongings u (rest u r));
    contents = content;
    tasks = task;
    remembered = remember;
    sources = source;
    gives = λ z u r j up ne w ru. gives_kept v v' u z (C.view z) (C.view u) (λ k o. sym (C.owner k) ∙ o) (V.gives z u (rest z r) (sym (L.tree.joins z) ∙ j) (sym (L.tree.paths u z) ∙ up) ne (sym (L.tree.waits u) ∙ w) (rest u ru));
    views = λ z r j. write_shown v v' l l' t a f V.views C C.same_kind mutable_at C.view (λ u y. L.tree.paths u y) rest z (rest z r) (sym (L.tree.joins z) ∙ j);
  }
