-- What is noted of a waiting heap still holds, whatever entry is made.
use Rattle.refinement.proofs.Common.{◌≡◌, ℕ, ℤ, suc, Bool, true, false, cond, Option, Some, None, List, [], ◌∷◌, ◌⊎◌, length, slice_get, inl, inr, refl, ap, ap₂, sym, subst, ◌∙◌, option_map, list_any, ◌&&◌, not, both_ways, same_Some, append-nil, length-map, Addr, Located, Name, Object, Task, Running, object_at, task_names, is_waiting, runs_idle, got_in, Heap, Ledger, heap_of, heap_at, within, SoundLedger, InHeaps, heap_names, snapshot_at, MarkingValue, in_append_right, CallFrame, RefField, own, Rests, ref_of, ForksTask, StoresOne, same_address, Chunk, Belongings, Memory, In, object_name, objects, objects_of_chunks, sources, is_source, rewritten, rewritten_refs, rewritten_belongings, mapped_chunk, put_at, LiesWithOwner, MemoryStands, IsReachedAt, AreRoots, CanGoOnMarking, MarkedBy, Since, kept, NotedAt, SameNotes, NoNotes, StaysWhole, Moves, ForksBelongings, WritesAt, StoresAt, with_field, with_int_field, KeepsOldValue}
use Rattle.refinement.proofs.objects.Mapped.{count_mapped, from_mapped, to_mapped}
use Rattle.refinement.proofs.notes.MarksGoOn.{goes_on}
use Rattle.refinement.proofs.objects.Members.{object_held}
use Rattle.refinement.proofs.notes.Roots.{name_at}
use Rattle.refinement.proofs.notes.Snapshot.{since_fork, since_write, write_stays}
use Rattle.refinement.proofs.changes.Sweep.{snapshot_is, refers}
use Rattle.refinement.proofs.changes.Store as store

-- WHAT IS MARKED stays marked, if its objects stay

pub marks_carry : (v v' : Memory) (l l' : Ledger) (t : ℕ) (o o' : Option MarkingValue) → o' ≡ o → (heap_of l' t).marked ≡ (heap_of l t).marked
    → ((q : Located) → In (objects v t) q → In (heap_of l t).snapshot (object_name q) → (z : Located) × In (objects v' t) z × (z.at ≡ q.at) × In (heap_of l' t).snapshot (object_name z))
    → ((m : MarkingValue) → CanGoOnMarking v t (heap_of l t).snapshot m → CanGoOnMarking v' t (heap_of l' t).snapshot m) → MarkedBy v l t o → MarkedBy v' l' t o'
marks_carry v v' l l' t o o' same account stay further M = subst (MarkedBy v' l' t) (sym same) (marks_carry_by_cases o M)
  where
    marks_carry_by_cases : (o : Option MarkingValue) → MarkedBy v l t o → MarkedBy v' l' t o
    marks_carry_by_cases None M = account ∙ M
    marks_carry_by_cases (Some m) M = (
      record {
        count = account ∙ M.0.count;
        once = M.0.once;
        each = λ a i. (let q = M.0.each a i in let z = stay q.0 q.1 q.3 in (z.0, z.1, z.2 ∙ q.2, z.3));
      },
      further m M.1,
    )

-- IF ITS OBJECTS STAY

module _ (v v' : Memory) (l l' : Ledger) (t : ℕ) (N : SameNotes v v' l l' t) where
  since_stays : StaysWhole v v' t → Since v l t → Since v' l' t
  since_stays S H = record {
    belongings = H.belongings;
    roots = H.roots;
    registers = λ f j. let g = H.registers f j in (g.0, subst (λ fs. In fs g.0) (sym N.frames) g.1, g.2);
    rooted = λ b j. elim (H.rooted b j) [ inl r ↦ inl (N.rooted b r) | inr k ↦ inr (subst (λ bs. In bs b) (sym N.kept) k) ];
    there = λ o i. (let q = H.there o i in let z = S.there q.0 q.1 in (z.0, z.1, z.2 ∙ q.2, z.3 ∙ q.3));
    were = λ q i. (let z = S.were q i in let o = H.were z.0 z.1 in (o.0, o.1, z.2 ∙ o.2, z.3 ∙ o.3));
    snapshot = λ q i.
        let z = S.were q i in
        let r = H.snapshot z.0 z.1 in (
          (λ w. subst (λ ns. In ns (object_name q)) (sym N.snapshot) (subst (In (heap_of l t).snapshot) (sym z.3) (r.0 (subst (IsReachedAt H.belongings H.roots) z.2 w)))),
          (λ w. subst (IsReachedAt H.belongings H.roots) (sym z.2) (r.1 (subst (In (heap_of l t).snapshot) z.3 (subst (λ ns. In ns (object_name q)) N.snapshot w)))),
        );
    overwritten = λ o q b i j e k c.
        let z = S.were q j in
        let mine : v.owner b.chunk ≡ Some t = N.none_new b.chunk c in
        elim (H.overwritten o z.0 b i z.1 (sym z.2 ∙ e) k mine) [
          | inl r ↦ inl (z.4 b mine r)
          | inr r ↦ inr (subst (λ bs. In bs b) (sym N.kept) r)
        ];
    each = λ b j.
        let r = H.each b (subst (λ bs. In bs b) N.kept j) in
        let z = S.there r.0 r.1 in
        (z.0, z.1, z.2 ∙ r.2, subst (λ ns. In ns (object_name z.0)) (sym N.snapshot) (subst (In (heap_of l t).snapshot) (sym z.3) r.3));
  }

  keeps_same : NotedAt v l t → (v'.noted t).keeps ≡ (is_waiting (slice_get l'.machine.tasks t) && not (heap_of l' t).swept)
  keeps_same H = N.keeps ∙ (H.keeps ∙ ap₂ (λ a b. a && not b) (sym N.waits) (sym N.swept))

  pub notes_with : StaysWhole v v' t → ((v'.noted t).keeps ≡ true → MarkedBy v' l' t (v'.noted t).marked) → NotedAt v l t → NotedAt v' l' t
  notes_with S M H = record { keeps = keeps_same H; since = λ e. since_stays S (H.since (sym N.keeps ∙ e)); marks = M }

  -- a marking can go on
  still_goes : StaysWhole v v' t → (m : MarkingValue) → CanGoOnMarking v t (heap_of l t).snapshot m → CanGoOnMarking v' t (heap_of l' t).snapshot m
  still_goes S m G =
      subst (λ ns. CanGoOnMarking v' t ns m) (sym N.snapshot)
      (goes_on v v' t (heap_of l t).snapshot m [] (N.kept ∙ sym (append-nil (kept v t))) S.there (λ q i. let o = S.were q i in (o.0, o.1, o.2, o.3, λ a c r. inl (o.4 a c r))) N.none_new S.count S.chunks (λ b i. absurd i) G)

  pub notes_stay : (v'.noted t).marked ≡ (v.noted t).marked → (heap_of l' t).marked ≡ (heap_of l t).marked → StaysWhole v v' t → NotedAt v l t → NotedAt v' l' t
  notes_stay marked account S H = notes_with S (λ e.
      marks_carry v v' l l' t (v.noted t).marked (v'.noted t).marked marked account
      (λ q i j. let z = S.there q i in (z.0, z.1, z.2, subst (λ ns. In ns (object_name z.0)) (sym N.snapshot) (subst (In (heap_of l t).snapshot) (sym z.3) j))) (still_goes S) (H.marks (sym N.keeps ∙ e))) H

pub same_whole : (v v' : Memory) (t : ℕ) → objects v' t ≡ objects v t → length (v'.belongings t).chunks ≡ length (v.belongings t).chunks → StaysWhole v v' t
same_whole v v' t e chunks = record {
  count = ap (λ (os : List Located). length os) e;
  chunks = chunks;
  there = λ o i. (o, subst (λ os. In os o) (sym e) i, refl, refl);
  were = λ q i. (q, subst (λ os. In os q) e i, refl, refl, λ b c j. j);
}

-- the end of another task's collection rewrites only what points into that task's heap
rewritten_keeps : (f : Addr → Addr) (ss : List RefField) (a : Addr) (i : ℕ) (rs : List (Option Addr)) (b : Addr) → f b ≡ b → In rs (Some b) → In (rewritten_refs f ss a i rs) (Some b)
rewritten_keeps f ss a i [] b e j = j
rewritten_keeps f ss a i (r ∷ rs) b e (inl g) = inl (rewritten_keeps_by_cases (list_any (is_source a i) ss))
  where
    rewritten_keeps_by_cases : (c : Bool) → cond c (option_map f r) r ≡ Some b
    rewritten_keeps_by_cases true = ap (option_map f) g ∙ ap Some e
    rewritten_keeps_by_cases false = g
rewritten_keeps f ss a i (r ∷ rs) b e (inr j) = inr (rewritten_keeps f ss a (suc i) rs b e j)

pub moves_whole : (v v' : Memory) (l l' : Ledger) (u t : ℕ) (names : List Name) (f : Addr → Addr) → (t ≡ u → ⊥) → Moves v v' l l' u names f → StaysWhole v v' t
moves_whole v v' l l' u t names f ne M =
    let e : v'.belongings t ≡ rewritten_belongings f (sources v u) (v.belongings t) = M.others t ne in
    record {
      count = ap (λ (h : Belongings). length (objects_of_chunks h.chunks)) e ∙ count_mapped (rewritten f (sources v u)) (λ o. refl) (λ o. refl) (v.belongings t).chunks;
      chunks = ap (λ (h : Belongings). length h.chunks) e ∙ length-map (v.belongings t).chunks (mapped_chunk (rewritten f (sources v u)));
      there = λ o i. (rewritten f (sources v u) o, subst (λ (h : Belongings). In (objects_of_chunks h.chunks) (rewritten f (sources v u) o)) (sym e) (to_mapped (rewritten f (sources v u)) (λ o. refl) (λ o. refl) (v.belongings t).chunks o i), refl, refl);
      were = λ q i.
          let z = from_mapped (rewritten f (sources v u)) (λ o. refl) (λ o. refl) (v.belongings t).chunks q (subst (λ (h : Belongings). In (objects_of_chunks h.chunks) q) e i) in (
            z.0,
            z.1,
            ap (λ (o : Located). o.at) (sym z.2),
            ap object_name (sym z.2),
            λ b c j. subst (λ (o : Located). In o.refs (Some b)) z.2 (rewritten_keeps f (sources v u) z.0.at 0 z.0.refs b (M.same b t ne c) j),
          );
    }

-- putting a number into an object keeps its name, its address and its references
module _ (a : Addr) (i : ℕ) (k : ℤ) where
  pub number_name : (q : Located) → object_name (put_at a (with_int_field i k) q) ≡ object_name q
  number_name q = number_name_by_cases (same_address q.at a)
    where
      number_name_by_cases : (b : Bool) → object_name (cond b (with_int_field i k q) q) ≡ object_name q
      number_name_by_cases true = refl
      number_name_by_cases false = refl

  pub number_at : (q : Located) → (put_at a (with_int_field i k) q).at ≡ q.at
  number_at q = number_at_by_cases (same_address q.at a)
    where
      number_at_by_cases : (b : Bool) → (cond b (with_int_field i k q) q).at ≡ q.at
      number_at_by_cases true = refl
      number_at_by_cases false = refl

  pub number_refs : (q : Located) → (put_at a (with_int_field i k) q).refs ≡ q.refs
  number_refs q = number_refs_by_cases (same_address q.at a)
    where
      number_refs_by_cases : (b : Bool) → (cond b (with_int_field i k q) q).refs ≡ q.refs
      number_refs_by_cases true = refl
      number_refs_by_cases false = refl

-- so does a store of a number
pub numbers_whole : (v v' : Memory) (w : ℕ) (a : Addr) (i : ℕ) (k : ℤ) (t : ℕ) → WritesAt v v' w a (with_int_field i k) → StaysWhole v v' t
numbers_whole v v' w a i k t C = record {
  count = ap (λ ks. length (objects_of_chunks ks)) (C.chunks t) ∙ count_mapped one (number_name a i k) (number_at a i k) (v.belongings t).chunks;
  chunks = ap (λ (ks : List Chunk). length ks) (C.chunks t) ∙ length-map (v.belongings t).chunks (mapped_chunk one);
  there = λ o j. (one o, subst (λ ks. In (objects_of_chunks ks) (one o)) (sym (C.chunks t)) (to_mapped one (number_name a i k) (number_at a i k) (v.belongings t).chunks o j), number_at a i k o, number_name a i k o);
  were = λ q j.
      let z = from_mapped one (number_name a i k) (number_at a i k) (v.belongings t).chunks q (subst (λ ks. In (objects_of_chunks ks) q) (C.chunks t) j) in (
        z.0,
        z.1,
        ap (λ (o : Located). o.at) (sym z.2) ∙ number_at a i k z.0,
        ap object_name (sym z.2) ∙ number_name a i k z.0,
        λ b c r. subst (λ (o : Located). In o.refs (Some b)) z.2 (subst (λ rs. In rs (Some b)) (sym (number_refs a i k z.0)) r),
      );
}
  where
    one : Located → Located
    one q = put_at a (with_int_field i k) q

-- in any store each object keeps its address
pub writes_stay : (v v' : Memory) (w : ℕ) (a : Addr) (f : Located → Located) (t : ℕ) → WritesAt v v' w a f → (q : Located) → In (objects v t) q → (z : Located) × In (objects v' t) z × (z.at ≡ q.at) × (object_name z ≡ object_name q)
writes_stay v v' w a f t C q j = (put_at a f q, subst (λ ks. In (objects_of_chunks ks) (put_at a f q)) (sym (C.chunks t)) (to_mapped (put_at a f) one_name one_at (v.belongings t).chunks q j), one_at q, one_name q)
  where
    one_name : (o : Located) → object_name (put_at a f o) ≡ object_name o
    one_name o = one_name_by_cases (same_address o.at a)
      where
        one_name_by_cases : (b : Bool) → object_name (cond b (f o) o) ≡ object_name o
        one_name_by_cases true = C.same_name o
        one_name_by_cases false = refl

    one_at : (o : Located) → (put_at a f o).at ≡ o.at
    one_at o = one_at_by_cases (same_address o.at a)
      where
        one_at_by_cases : (b : Bool) → (cond b (f o) o).at ≡ o.at
        one_at_by_cases true = C.same_at o
        one_at_by_cases false = refl

-- NOTHING IS NOTED

pub no_notes : (v' : Memory) (l' : Ledger) (t : ℕ) → NoNotes v' l' t → NotedAt v' l' t
no_notes v' l' t N = record { keeps = N.keeps ∙ sym N.needless; since = λ e. absurd (both_ways (v'.noted t).keeps N.keeps e); marks = λ e. absurd (both_ways (v'.noted t).keeps N.keeps e) }

-- A FORK

pub fork_notes : (v v' : Memory) (l l' : Ledger) (t a b g h : ℕ) (x : Task) (roots : List Addr) → SoundLedger l → MemoryStands v l → x.status ≡ Running → Rests l t → ((u : ℕ) → is_waiting (slice_get l.machine.tasks u) ≡ true → Rests l u)
    → (F : ForksTask l l' t a b g h x) → ForksBelongings v v' t a b g h → AreRoots v l t roots → F.names ≡ within l t → kept v' t ≡ [] → (v'.noted t).marked ≡ None → (v'.noted t).keeps ≡ true → NotedAt v' l' t
fork_notes v v' l l' t a b g h x roots S V runs rests at_rest F C R names none unmarked keeps = record {
  keeps = keeps ∙ sym (ap₂ (λ a b. a && not b) (ap is_waiting F.waits) (ap (λ (z : Heap). z.swept) F.heap));
  since = λ e. since_fork v v' l l' t a b g h x roots S V runs rests at_rest F C R (λ n. ((λ i. subst (λ ns. In ns n) (sym names) i), (λ i. subst (λ ns. In ns n) names i))) none;
  marks = λ e. subst (MarkedBy v' l' t) (sym unmarked) (ap (λ (z : Heap). z.marked) F.heap);
}

-- A STORE OF A REFERENCE: what it overwrites is in the snapshot

module _ (v v' : Memory) (l l' : Ledger) (t : ℕ) (x : Task) (n : Name) (y : Object) (o w i : ℕ) (c : Option (ℕ × ℤ)) (f : CallFrame) (fs : List CallFrame) (a : Addr) (S : SoundLedger l) (V : MemoryStands v l) (rests : Rests l t)
    (L : StoresOne l l' t x n y o w i c) (C : StoresAt v v' l t f fs a w i c) (at_a : ref_of f o ≡ Some a) (u : ℕ) (wait : is_waiting (slice_get l.machine.tasks u) ≡ true) where
  abbrev place : LiesWithOwner v l n a
  place = store.place v v' l l' t x n y o w i c f fs a S V rests L C at_a

  abbrev rests_n : Rests l (own l n)
  rests_n = store.rests_n v v' l l' t x n y o w i c f fs a S V rests L C at_a

  holds : In (task_names x) n
  holds = store.holds v v' l l' t x n y o w i c f fs a S V rests L C at_a o n L.object

  -- a task that writes doesn't wait
  apart : u ≡ t → ⊥
  apart e = both_ways (is_waiting (slice_get l.machine.tasks u)) (ap (λ z. is_waiting (slice_get l.machine.tasks z)) e ∙ runs_idle x L.task L.runs) wait

  of_snapshot : (z : ℕ) (q : Located) (b : Addr) → v.owner a.chunk ≡ Some z → In (objects v z) q → q.at ≡ a → slice_get q.refs i ≡ Some (Some b) → v.owner b.chunk ≡ Some u → (k : Located) × In (objects v u) k × (k.at ≡ b) × In (heap_of l u).snapshot (object_name k)
  of_snapshot z q b oz j e g ob =
      let mine : own l n ≡ z = same_Some (own l n) z (sym place.chunk ∙ oz) in
      let p = place.here rests_n in
      let j' : In (objects v (own l n)) q = subst (λ k. In (objects v k) q) (sym mine) j in
      let same : q ≡ p.0 = (V.belongings (own l n) rests_n).once q p.0 j' p.1 (e ∙ sym p.2.at) in
      let c = V.contents (own l n) q rests_n j' in
      let is : c.0 ≡ y = same_Some c.0 y (sym c.1 ∙ (ap (object_at l.machine.store) (ap object_name same ∙ p.2.name) ∙ L.writes.was)) in
      let r = name_at (LiesWithOwner v l) q.refs c.0.refs i b c.2.refs g in
      let theirs : own l r.0 ≡ u = same_Some (own l r.0) u (sym r.2.chunk ∙ ob) in
      let k = r.2.here (subst (Rests l) (sym theirs) (L.waits u wait)) in
      let k' : In (objects v u) k.0 = subst (λ m. In (objects v m) k.0) theirs k.1 in
      let held : In (heap_names (heap_at l u)) (object_name k.0) = object_held (v.belongings u).chunks (heap_of l u) (V.belongings u (L.waits u wait)).names k.0 k' in
      let P = (S.waits u wait).of_object n r.0 ((S.waits u wait).of_task t x n L.task holds) (refers l.machine.store n r.0 y L.writes.was (subst (λ (m : Object). In m.refs (Some r.0)) is (got_in c.0.refs i (Some r.0) r.1))) in
      (k.0, k', k.2.at, subst (λ ns. In ns (object_name k.0)) (snapshot_is (slice_get l.heaps u)) (subst (In (snapshot_at (slice_get l.heaps u))) (sym k.2.name) (P.1 (subst (InHeaps l.heaps u) k.2.name held))))

  abbrev one : Located → Located
  one q = put_at a (with_field i (ref_of f w)) q

  one_name : (q : Located) → object_name (one q) ≡ object_name q
  one_name q = one_name_by_cases (same_address q.at a)
    where
      one_name_by_cases : (b : Bool) → object_name (cond b (with_field i (ref_of f w) q) q) ≡ object_name q
      one_name_by_cases true = refl
      one_name_by_cases false = refl

  one_at : (q : Located) → (one q).at ≡ q.at
  one_at q = one_at_by_cases (same_address q.at a)
    where
      one_at_by_cases : (b : Bool) → (cond b (with_field i (ref_of f w) q) q).at ≡ q.at
      one_at_by_cases true = refl
      one_at_by_cases false = refl

  -- a marking can go on
  store_goes : Since v' l' u → KeepsOldValue v v' u a i → (m : MarkingValue) → CanGoOnMarking v u (heap_of l u).snapshot m → CanGoOnMarking v' u (heap_of l' u).snapshot m
  store_goes H' K m G =
      let back : (q : Located) → In (objects v' u) q → (o : Located) × In (objects v u) o × (one o ≡ q) = λ q j. from_mapped one one_name one_at (v.belongings u).chunks q (subst (λ ks. In (objects_of_chunks ks) q) (C.writes.chunks u) j) in
      let same : (heap_of l' u).snapshot ≡ (heap_of l u).snapshot = ap (λ (g : Heap). g.snapshot) (L.writes.heaps u) in
      subst (λ ns. CanGoOnMarking v' u ns m) (sym same)
      (goes_on v v' u (heap_of l u).snapshot m K.more K.grows (λ o j. writes_stay v v' t a _ u C.writes o j)
      (λ q j. let o = back q j in (
        o.0,
        o.1,
        ap (λ (z : Located). z.at) (sym o.2) ∙ one_at o.0,
        ap object_name (sym o.2) ∙ one_name o.0,
        λ b c r. subst (λ (z : Located). In z.refs (Some b) ⊎ In (kept v' u) b) o.2 (write_stays v v' l u i a (ref_of f w) V (L.waits u wait) K o.0 b o.1 r c),
      ))
      (λ k g. sym (C.writes.owner k) ∙ g) (ap (λ ks. length (objects_of_chunks ks)) (C.writes.chunks u) ∙ count_mapped one one_name one_at (v.belongings u).chunks) (ap (λ (ks : List Chunk). length ks) (C.writes.chunks u) ∙ length-map (v.belongings u).chunks (mapped_chunk one))
      (λ b j.
      let q = H'.each b (subst (λ ks. In ks b) (sym K.grows) (in_append_right (kept v u) K.more b j)) in
      let o = back q.0 q.1 in (
        o.0,
        o.1,
        sym (one_at o.0) ∙ (ap (λ (z : Located). z.at) o.2 ∙ q.2),
        subst (In (heap_of l u).snapshot) (ap object_name (sym o.2) ∙ one_name o.0) (subst (λ ns. In ns (object_name q.0)) same q.3),
      ))
      G)

  pub store_notes : (v'.noted u).keeps ≡ (v.noted u).keeps → (heap_of l' u).swept ≡ (heap_of l u).swept → KeepsOldValue v v' u a i → NotedAt v l u → NotedAt v' l' u
  store_notes keeps swept K H = record {
    keeps = keeps ∙ (H.keeps ∙ ap₂ (λ a b. a && not b) (sym (L.writes.tree.waits u)) (sym swept));
    since = λ e. since_write v v' l l' u t i n y _ a (ref_of f w) V (L.waits u wait) (C.writes.frames u apart) (H.since (sym keeps ∙ e)) L.writes C.writes K of_snapshot;
    marks = λ e.
        marks_carry v v' l l' u (v.noted u).marked (v'.noted u).marked K.marked (ap (λ (z : Heap). z.marked) (L.writes.heaps u))
        (λ q j m. let z = writes_stay v v' t a _ u C.writes q j in (z.0, z.1, z.2, subst (λ (g : Heap). In g.snapshot (object_name z.0)) (sym (L.writes.heaps u)) (subst (In (heap_of l u).snapshot) (sym z.3) m)))
        (store_goes (since_write v v' l l' u t i n y _ a (ref_of f w) V (L.waits u wait) (C.writes.frames u apart) (H.since (sym keeps ∙ e)) L.writes C.writes K of_snapshot) K) (H.marks (sym keeps ∙ e));
  }
