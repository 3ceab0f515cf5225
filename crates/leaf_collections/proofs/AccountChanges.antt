-- An entry changes the account of one heap, whose task's part a worker holds: what stays of the accounts, and that
-- nothing moves.
use Rattle.leaf_collections.proofs.Common.{◌≡◌, ◌⊎◌, ℕ, true, false, Option, Some, length, slice_get, is_some, inl, inr, refl, ap, sym, subst, ◌∙◌, both_ways, cases_eq, MachineState, row_of, is_joined, is_waiting, Kind, Heap, Ledger, heap_of, let_go, or_fresh, with_heap, heap_machine, PoolValue, owner_of, Rests, rested, heap_then, with_at, with_off, SameObjects, with_belongings, AreLaidOut, Chunk, Belongings, In, Memory, objects, objects_of_chunks, ChunksHaveNames, BelongingsStand, Located, belongings_kept, at_belongings, off_belongings, Begun, Private, SharedValue, value_by, with_marks, belongings_of_part, account_is, belongings_stand, fits_now, part_idle, stands_now}
use Rattle.leaf_collections.proofs.LeafEntry as leaf
use Rattle.leaf_collections.proofs.LeafEntry.{AsksLeaf}

module _ {kind : ℕ → Kind} {w : SharedValue} {k : ℕ} {p : Private} (asks : AsksLeaf kind w k p) (f : Heap → Heap) (holds : (h : Heap) → (f h).worker ≡ h.worker) where
  open asks use {I, F}
  open (leaf.names asks) use {P, t, l, v, on}

  abbrev L : Ledger
  L = with_heap l t f

  pub heap_is_in_ledger : (z : Heap) × (slice_get l.heaps t ≡ Some z)
  heap_is_in_ledger = account_is w k P I F on

  pub heap_then_is : slice_get L.heaps t ≡ Some (f heap_is_in_ledger.0)
  heap_then_is = with_at l t f ∙ ap (heap_then f) heap_is_in_ledger.1

  heap_off : (u : ℕ) → (u ≡ t → ⊥) → slice_get L.heaps u ≡ slice_get l.heaps u
  heap_off u ne = with_off l t u f ne

  held_then : (heap_of L t).worker ≡ Some k
  held_then = ap (λ o. (or_fresh o).worker) heap_then_is ∙ (holds heap_is_in_ledger.0 ∙ (ap (λ o. (or_fresh o).worker) (sym heap_is_in_ledger.1) ∙ F.out))

  not_t : (u : ℕ) → Rests L u → u ≡ t → ⊥
  not_t u r q = let a : (heap_of L u).worker ≡ Some k = ap (λ z. (heap_of L z).worker) q ∙ held_then in absurd cc

  rested_before : (u : ℕ) → Rests L u → Rests l u
  rested_before u r = ap (λ o. (or_fresh o).worker) (sym (heap_off u (not_t u r))) ∙ r

  same_machine : L.machine ≡ l.machine
  same_machine = heap_machine l t f

  pub rested_same : (rested l t).machine ≡ (rested L t).machine
  rested_same = heap_machine l t let_go ∙ (sym same_machine ∙ sym (heap_machine L t let_go))

  -- with another pool, in which each chunk has the same owner
  module _ (pool : PoolValue) (kept : (c u : ℕ) → v.owner c ≡ Some u → owner_of pool c ≡ Some u) where
    abbrev v' : Memory
    v' = with_marks w.marks (value_by w.rests w.sets pool)

    -- a chunk that is taken goes to a task that doesn't wait
    abbrev pub AreTaken : Type 0
    AreTaken = (c u : ℕ) → v'.owner c ≡ Some u → (v.owner c ≡ Some u) ⊎ ((is_waiting (slice_get l.machine.tasks u) ≡ false) × (is_some (slice_get l.machine.tasks u) ≡ true))

    pub same_objects : AreTaken → SameObjects v v' l L
    same_objects taken = record {
      belongings = λ u r. belongings_kept v v' l L u refl (λ c e. kept c u e) (ap or_fresh (heap_off u (not_t u r))) (ap (λ (m : MachineState). length (row_of (slice_get m.store u))) same_machine) (ap (λ (m : MachineState). is_joined (slice_get m.tasks u)) same_machine) ((stands_now w I on).belongings.belongings u (rested_before u r));
      objects = λ u. refl;
      chunks = λ u e. refl;
      frames = λ u. refl;
      result = λ u. refl;
      view = λ u. refl;
      owner = kept;
      taken = taken;
      begun = λ u e. refl;
      sources = λ u. refl;
    }

    -- and with other belongings of the part
    module _ (g : Belongings) where
      abbrev before : Memory
      before = with_belongings v t (belongings_of_part P)

      abbrev after_ : Memory
      after_ = with_belongings v' t g

      pub seen : {A : Type 0} (view : Belongings → A) → view g ≡ view (belongings_of_part P) → (u : ℕ) → view (after_.belongings u) ≡ view (before.belongings u)
      seen view e u = elim (cases_eq u t) [
        | inl q ↦ ap (λ z. view (after_.belongings z)) q ∙ (ap view (at_belongings v' t g) ∙ (e ∙ (ap view (sym (at_belongings v t (belongings_of_part P))) ∙ ap (λ z. view (before.belongings z)) (sym q))))
        | inr ne ↦ ap view (off_belongings v' t g u ne ∙ sym (off_belongings v t (belongings_of_part P) u ne))
      ]

      pub all_stand : BelongingsStand after_ (rested L t) t → (u : ℕ) → Rests (rested L t) u → BelongingsStand after_ (rested L t) u
      all_stand mine u r = elim (cases_eq u t) [
        | inl q ↦ subst (BelongingsStand after_ (rested L t)) (sym q) mine
        | inr ne ↦
            let same : heap_of (rested L t) u ≡ heap_of (rested l t) u = ap or_fresh (with_off L t u let_go ne ∙ (heap_off u ne ∙ sym (with_off l t u let_go ne))) in
            let rests : Rests (rested l t) u = ap (λ (z : Heap). z.worker) (sym same) ∙ r in
            belongings_kept before after_ (rested l t) (rested L t) u (off_belongings v' t g u ne ∙ sym (off_belongings v t (belongings_of_part P) u ne)) (λ c e. kept c u e) same
            (ap (λ (m : MachineState). length (row_of (slice_get m.store u))) (sym rested_same)) (ap (λ (m : MachineState). is_joined (slice_get m.tasks u)) (sym rested_same)) ((fits_now w k P F on).stands.belongings u rests)
      ]

      -- nothing moves if it has the same objects, frames and result, and the same view
      pub part_same : BelongingsStand after_ (rested L t) t → g ≡ record g { frames = (belongings_of_part P).frames; result = (belongings_of_part P).result; view = (belongings_of_part P).view } → objects_of_chunks g.chunks ≡ objects_of_chunks (belongings_of_part P).chunks
          → AreTaken → ((heap_of (rested L t) t).begun ≡ (heap_of (rested l t) t).begun → g.begun ≡ p.begun) → SameObjects before after_ (rested l t) (rested L t)
      part_same mine same_rest same taken begun = record {
        belongings = all_stand mine;
        objects = seen (λ (z : Belongings). objects_of_chunks z.chunks) same;
        chunks = λ u e. elim (cases_eq u t) [
          | inl q ↦ absurd (both_ways (is_waiting (slice_get l.machine.tasks t)) (part_idle w k P F on) (ap (λ z. is_waiting (slice_get l.machine.tasks z)) (sym q) ∙ (ap (λ (m : MachineState). is_waiting (slice_get m.tasks u)) (sym (heap_machine l t let_go)) ∙ e)))
          | inr ne ↦ ap (λ (z : Belongings). length z.chunks) (other u ne)
        ];
        frames = seen (λ (z : Belongings). z.frames) (ap (λ (z : Belongings). z.frames) same_rest);
        result = seen (λ (z : Belongings). z.result) (ap (λ (z : Belongings). z.result) same_rest);
        view = seen (λ (z : Belongings). z.view) (ap (λ (z : Belongings). z.view) same_rest);
        owner = kept;
        taken = λ c u q. elim (taken c u q) [
          | inl a ↦ inl a
          | inr a ↦ inr (ap (λ (m : MachineState). is_waiting (slice_get m.tasks u)) (heap_machine l t let_go) ∙ a.0, ap (λ (m : MachineState). is_some (slice_get m.tasks u)) (heap_machine l t let_go) ∙ a.1)
        ];
        begun = λ u q. elim (cases_eq u t) [
          | inl e ↦ subst (λ z. (after_.belongings z).begun ≡ (before.belongings z).begun) (sym e) (seen (λ (z : Belongings). z.begun) (begun (subst (λ z. (heap_of (rested L t) z).begun ≡ (heap_of (rested l t) z).begun) e q)) t)
          | inr ne ↦ ap (λ (z : Belongings). z.begun) (other u ne)
        ];
        sources = λ u. refl;
      }
        where
          other : (u : ℕ) → (u ≡ t → ⊥) → after_.belongings u ≡ before.belongings u
          other u ne = off_belongings v' t g u ne ∙ sym (off_belongings v t (belongings_of_part P) u ne)

    -- IF THE PART KEEPS ITS CHUNKS: its belongings count n words since its last collection and are in the collection b,
    -- and what the account says of its chunks is unchanged
    module _ (n : ℕ) (b : Option Begun) (lets_go : (h : Heap) → let_go (f h) ≡ f (let_go h)) (chunks : (h : Heap) → f h ≡ record (f h) { chunks = h.chunks; large = h.large; room = h.room; reserved = h.reserved }) (since : n ≡ (f (heap_of (rested l t) t)).since) where
      abbrev g : Belongings
      g = record (belongings_of_part P) { since = n; begun = b }

      abbrev X : Heap
      X = heap_of (rested l t) t

      abbrev was : Memory
      was = with_belongings v t (belongings_of_part P)

      abbrev memory_after : Memory
      memory_after = with_belongings v' t g

      pub account_same : heap_of (rested L t) t ≡ f X
      account_same = ap or_fresh (with_at L t let_go ∙ ap (heap_then let_go) heap_then_is) ∙ (lets_go heap_is_in_ledger.0 ∙ ap f (sym (ap or_fresh (with_at l t let_go ∙ ap (heap_then let_go) heap_is_in_ledger.1))))

      told : {A : Type 0} (view : Heap → A) → view (f X) ≡ view X → view (heap_of (rested L t) t) ≡ view X
      told view e = ap view account_same ∙ e

      H : BelongingsStand was (rested l t) t
      H = belongings_stand w k P I F on

      same_view : {A : Type 0} (view : Belongings → A) → view g ≡ view (belongings_of_part P) → view (memory_after.belongings t) ≡ view (was.belongings t)
      same_view view e = seen g view e t

      chunk_was : (c : Chunk) → In (memory_after.belongings t).chunks c → In (was.belongings t).chunks c
      chunk_was c i = subst (λ ks. In ks c) (same_view (λ (z : Belongings). z.chunks) refl) i

      object_was : (o : Located) → In (objects memory_after t) o → In (objects was t) o
      object_was o i = subst (λ ks. In (objects_of_chunks ks) o) (same_view (λ (z : Belongings). z.chunks) refl) i

      stands : BelongingsStand memory_after (rested L t) t
      stands = record {
        names = subst (λ ks. ChunksHaveNames ks (heap_of (rested L t) t)) (sym (same_view (λ (z : Belongings). z.chunks) refl))
            (record { small = H.names.small ∙ sym (told (λ (h : Heap). h.chunks) (ap (λ (h : Heap). h.chunks) (chunks X))); large = H.names.large ∙ sym (told (λ (h : Heap). h.large) (ap (λ (h : Heap). h.large) (chunks X))) });
        room = same_view (λ (z : Belongings). z.room) refl ∙ (H.room ∙ sym (told (λ (h : Heap). h.room) (ap (λ (h : Heap). h.room) (chunks X))));
        since = ap (λ (z : Belongings). z.since) (at_belongings v' t g) ∙ (since ∙ sym (ap (λ (h : Heap). h.since) account_same));
        count = λ live. same_view (λ (z : Belongings). z.count) refl ∙ (H.count (ap (λ (m : MachineState). is_joined (slice_get m.tasks t)) rested_same ∙ live) ∙ ap (λ (m : MachineState). length (row_of (slice_get m.store t))) rested_same);
        owned = λ c i. kept c.number t (H.owned c (chunk_was c i));
        inside = λ c o i q. H.inside c o (chunk_was c i) q;
        once = λ o q i j e. H.once o q (object_was o i) (object_was q j) e;
        named = λ o q i j e. H.named o q (object_was o i) (object_was q j) e;
        laid = subst (λ ks. AreLaidOut ks (heap_of (rested L t) t).reserved) (sym (same_view (λ (z : Belongings). z.chunks) refl))
            (subst (AreLaidOut (was.belongings t).chunks) (sym (told (λ (h : Heap). h.reserved) (ap (λ (h : Heap). h.reserved) (chunks X)))) H.laid);
      }

      pub kept_same : AreTaken → ((f X).begun ≡ X.begun → b ≡ p.begun) → SameObjects was memory_after (rested l t) (rested L t)
      kept_same taken begun = part_same g stands refl refl taken (λ q. begun (sym (ap (λ (h : Heap). h.begun) account_same) ∙ q))
