-- From the fork on, the snapshot can be found by addresses.
use Rattle.refinement.proofs.Common.{◌≡◌, ℕ, Bool, true, false, cond, Option, Some, List, [], slice_get, slice_set, ◌⊎◌, ◌↔◌, inl, inr, refl, ap, sym, subst, ◌∙◌, cases_eq, cond-true, cond-false, got_in, got_other, in_append_left, in_got, Addr, Located, Name, Object, Running, Task, is_waiting, runs_idle, Heap, Ledger, heap_of, within, SoundLedger, Rests, WritesOne, ForksTask, same_address, same_is, Belongings, Memory, In, object_name, objects, objects_of_chunks, put_at, MemoryStands, IsReachedAt, IsRememberedRoot, AreRoots, Since, kept, ForksBelongings, WritesAt, with_field, KeepsOldValue}
use Rattle.refinement.proofs.objects.Mapped.{from_mapped, to_mapped}
use Rattle.refinement.proofs.notes.Rooted.{in_advanced, noted_by, root_apart, root_by, root_same}
use Rattle.refinement.proofs.notes.Roots.{reached_both}
use Rattle.refinement.proofs.objects.Members.{lies_in}

-- AT THE FORK
pub since_fork : (v v' : Memory) (l l' : Ledger) (t a b g h : ℕ) (x : Task) (roots : List Addr) → SoundLedger l → MemoryStands v l → x.status ≡ Running → Rests l t → ((u : ℕ) → is_waiting (slice_get l.machine.tasks u) ≡ true → Rests l u)
    → (F : ForksTask l l' t a b g h x) → ForksBelongings v v' t a b g h → AreRoots v l t roots → ((n : Name) → In (within l t) n ↔ In F.names n) → kept v' t ≡ [] → Since v' l' t
since_fork v v' l l' t a b g h x roots S V runs rests at_rest F C R same none =
    let back : (q : Located) → In (objects v' t) q → In (objects v t) q = λ q i. subst (λ (y : Belongings). In (objects_of_chunks y.chunks) q) C.belongings i in
    let idle : is_waiting (slice_get l.machine.tasks t) ≡ false = runs_idle x F.task runs in
    record {
      belongings = v.belongings t;
      roots = roots;
      registers = λ f i. let g = in_advanced (v.belongings t).frames f i in (g.0, subst (λ (y : Belongings). In y.frames g.0) (sym C.belongings) g.1, g.2);
      rooted = λ c i.
          let r = (R c).0 i in
          let nt = root_apart v l V t idle t c r in
          let na = root_apart v l V a (ap is_waiting F.unmade_left) t c r in
          let nb = root_apart v l V b (ap is_waiting F.unmade_right) t c r in
          inl (root_same v v' l l' t (noted_by v v' t (C.sources t (λ e. F.left_apart (sym e)) (λ e. F.right_apart (sym e)))) (λ k o. C.owner k ∙ o) c r
          (ap (λ (y : Heap). y.worker) (F.heaps r.task nt na nb) ∙ r.rests) (ap (λ (y : Belongings). objects_of_chunks y.chunks) (C.others r.task nt na nb)));
      there = λ o i. (o, subst (λ (y : Belongings). In (objects_of_chunks y.chunks) o) (sym C.belongings) i, refl, refl);
      were = λ q i. (q, back q i, refl, refl);
      snapshot = λ q i.
          let r = reached_both v l t x roots S V F.task runs rests at_rest R q (back q i) in (
            (λ w. subst (λ (y : Heap). In y.snapshot (object_name q)) (sym F.heap) ((same (object_name q)).0 (r.0 w))),
            (λ k. r.1 ((same (object_name q)).1 (subst (λ (y : Heap). In y.snapshot (object_name q)) F.heap k))),
          );
      overwritten = λ o q c i j e k w. inl (subst (λ (z : Located). In z.refs (Some c)) ((V.belongings t rests).once o q i (back q j) (sym e)) k);
      each = λ c i. absurd (subst (λ cs. In cs c) none i);
    }

-- A WRITE, of any object, of t's heap or another
module _ (v v' : Memory) (l : Ledger) (t i : ℕ) (a : Addr) (value : Option Addr) (V : MemoryStands v l) (rests : Rests l t) (K : KeepsOldValue v v' t a i) where
  -- a reference stays in the object, or was in the field that is written
  pub write_stays : (q : Located) (b : Addr) → In (objects v t) q → In q.refs (Some b) → v.owner b.chunk ≡ Some t → In (put_at a (with_field i value) q).refs (Some b) ⊎ In (kept v' t) b
  write_stays q b j k o = write_stays_by_cases (same_address q.at a) refl
    where
      write_stays_at : (r : ℕ) → slice_get q.refs r ≡ Some (Some b) → same_address q.at a ≡ true → In (slice_set q.refs i value) (Some b) ⊎ In (kept v' t) b
      write_stays_at r e z = elim (cases_eq r i) [
        | inl f ↦ inr (K.old t q b (ap (λ (y : Addr). v.owner y.chunk) (sym (same_is q.at a z)) ∙ lies_in v l V t q rests j) j (same_is q.at a z) (ap (slice_get q.refs) (sym f) ∙ e) o)
        | inr ne ↦ inl (got_in (slice_set q.refs i value) r (Some b) (got_other q.refs i r value ne ∙ e))
      ]

      write_stays_by_cases : (z : Bool) → same_address q.at a ≡ z → In (put_at a (with_field i value) q).refs (Some b) ⊎ In (kept v' t) b
      write_stays_by_cases false e = inl (subst (λ (s : Located). In s.refs (Some b)) (sym (cond-false (same_address q.at a) (with_field i value q) q e)) k)
      write_stays_by_cases true e =
          let r = in_got q.refs (Some b) k in
          subst (λ (s : Located). In s.refs (Some b) ⊎ In (kept v' t) b) (sym (cond-true (same_address q.at a) (with_field i value q) q e)) (write_stays_at r.0 r.1 e)

module _ (v v' : Memory) (l l' : Ledger) (t w i : ℕ) (n : Name) (y y' : Object) (a : Addr) (value : Option Addr) (V : MemoryStands v l) (rests : Rests l t) (frames : (v'.belongings t).frames ≡ (v.belongings t).frames) (H : Since v l t) (L : WritesOne l l' w n y y') (C : WritesAt v v' w a (with_field i value)) (K : KeepsOldValue v v' t a i)
    (of_snapshot : (u : ℕ) (q : Located) (b : Addr) → v.owner a.chunk ≡ Some u → In (objects v u) q → q.at ≡ a → slice_get q.refs i ≡ Some (Some b) → v.owner b.chunk ≡ Some t → (o : Located) × In (objects v t) o × (o.at ≡ b) × In (heap_of l t).snapshot (object_name o)) where
  abbrev one : Located → Located
  one q = put_at a (with_field i value) q

  one_name : (q : Located) → object_name (one q) ≡ object_name q
  one_name q = one_name_by_cases (same_address q.at a)
    where
      one_name_by_cases : (b : Bool) → object_name (cond b (with_field i value q) q) ≡ object_name q
      one_name_by_cases true = refl
      one_name_by_cases false = refl

  one_at : (q : Located) → (one q).at ≡ q.at
  one_at q = one_at_by_cases (same_address q.at a)
    where
      one_at_by_cases : (b : Bool) → (cond b (with_field i value q) q).at ≡ q.at
      one_at_by_cases true = refl
      one_at_by_cases false = refl

  was : (q' : Located) → In (objects v' t) q' → (q : Located) × In (objects v t) q × (one q ≡ q')
  was q' j = from_mapped one one_name one_at (v.belongings t).chunks q' (subst (λ ks. In (objects_of_chunks ks) q') (C.chunks t) j)

  then_ : (u : ℕ) (q : Located) → In (objects v u) q → In (objects v' u) (one q)
  then_ u q j = subst (λ ks. In (objects_of_chunks ks) (one q)) (sym (C.chunks u)) (to_mapped one one_name one_at (v.belongings u).chunks q j)

  now : (q : Located) → In (objects v t) q → In (objects v' t) (one q)
  now = then_ t

  same_snapshot : (m : Name) → In (heap_of l t).snapshot m → In (heap_of l' t).snapshot m
  same_snapshot m k = subst (λ (z : Heap). In z.snapshot m) (sym (L.heaps t)) k

  stays : (q : Located) (b : Addr) → In (objects v t) q → In q.refs (Some b) → v.owner b.chunk ≡ Some t → In (one q).refs (Some b) ⊎ In (kept v' t) b
  stays = write_stays v v' l t i a value V rests K

  kept_on : (b : Addr) → In (kept v t) b → In (kept v' t) b
  kept_on b k = subst (λ ks. In ks b) (sym K.grows) (in_append_left (kept v t) K.more b k)

  -- a root stays one, or was in the field that is written
  root_then : (b : Addr) → IsRememberedRoot v l t b → IsRememberedRoot v' l' t b ⊎ In (kept v' t) b
  root_then b r = root_then_by_cases (same_address r.object.at a) refl
    where
      goes_on : slice_get (one r.object).refs r.source.field ≡ Some (Some b) → IsRememberedRoot v' l' t b ⊎ In (kept v' t) b
      goes_on e =
          inl (root_by v v' l l' t (C.noted t) (λ k o. C.owner k ∙ o) b r (ap (λ (y : Heap). y.worker) (L.heaps r.task) ∙ r.rests) (one r.object) (then_ r.task r.object r.there) (one_at r.object) e)

      root_then_by_cases : (z : Bool) → same_address r.object.at a ≡ z → IsRememberedRoot v' l' t b ⊎ In (kept v' t) b
      root_then_by_cases false e = goes_on (ap (λ (s : Located). slice_get s.refs r.source.field) (cond-false (same_address r.object.at a) (with_field i value r.object) r.object e) ∙ r.holds)
      root_then_by_cases true e = elim (cases_eq r.source.field i) [
        | inl f ↦
            let at : r.object.at ≡ a = same_is r.object.at a e in
            inr (K.old r.task r.object b (ap (λ (y : Addr). v.owner y.chunk) (sym at) ∙ lies_in v l V r.task r.object r.rests r.there) r.there at (ap (slice_get r.object.refs) (sym f) ∙ r.holds) r.into)
        | inr ne ↦ goes_on (ap (λ (s : Located). slice_get s.refs r.source.field) (cond-true (same_address r.object.at a) (with_field i value r.object) r.object e) ∙ (got_other r.object.refs i r.source.field value ne ∙ r.holds))
      ]

  pub since_write : Since v' l' t
  since_write = record {
    belongings = H.belongings;
    roots = H.roots;
    registers = λ f j. let g = H.registers f j in (g.0, subst (λ fs. In fs g.0) (sym frames) g.1, g.2);
    rooted = λ b j. elim (H.rooted b j) [ inl r ↦ root_then b r | inr k ↦ inr (kept_on b k) ];
    there = λ o j. (let r = H.there o j in (one r.0, now r.0 r.1, one_at r.0 ∙ r.2, one_name r.0 ∙ r.3));
    were = λ q' j. (let p = was q' j in let r = H.were p.0 p.1 in (r.0, r.1, sym (ap (λ (z : Located). z.at) p.2) ∙ (one_at p.0 ∙ r.2), sym (ap object_name p.2) ∙ (one_name p.0 ∙ r.3)));
    snapshot = λ q' j.
        let p = was q' j in
        let at : p.0.at ≡ q'.at = sym (one_at p.0) ∙ ap (λ (z : Located). z.at) p.2 in
        let name : object_name p.0 ≡ object_name q' = sym (one_name p.0) ∙ ap object_name p.2 in
        let r = H.snapshot p.0 p.1 in (
          (λ z. same_snapshot (object_name q') (subst (In (heap_of l t).snapshot) name (r.0 (subst (IsReachedAt H.belongings H.roots) (sym at) z)))),
          (λ z. subst (IsReachedAt H.belongings H.roots) at (r.1 (subst (λ (s : Heap). In s.snapshot (object_name p.0)) (L.heaps t) (subst (In (heap_of l' t).snapshot) (sym name) z)))),
        );
    overwritten = λ o q' b j k e z c.
        let p = was q' k in
        let mine : v.owner b.chunk ≡ Some t = sym (C.owner b.chunk) ∙ c in
        elim (H.overwritten o p.0 b j p.1 (sym (one_at p.0) ∙ (ap (λ (s : Located). s.at) p.2 ∙ e)) z mine) [
          | inl r ↦ subst (λ (s : Located). In s.refs (Some b) ⊎ In (kept v' t) b) p.2 (stays p.0 b p.1 r mine)
          | inr r ↦ inr (kept_on b r)
        ];
    each = λ b j. each b (elim (K.only b j) [ inl old ↦ H.each b old | inr new ↦ of_snapshot new.0 new.1 b new.6 new.2 new.3 new.4 new.5 ]);
  }
    where
      each : (b : Addr) → (q : Located) × In (objects v t) q × (q.at ≡ b) × In (heap_of l t).snapshot (object_name q) → (q : Located) × In (objects v' t) q × (q.at ≡ b) × In (heap_of l' t).snapshot (object_name q)
      each b r = (one r.0, now r.0 r.1, one_at r.0 ∙ r.2, same_snapshot (object_name (one r.0)) (subst (In (heap_of l t).snapshot) (sym (one_name r.0)) r.3))
