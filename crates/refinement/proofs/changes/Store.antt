-- A store of a reference, into an object of the task or of an ancestor: the write barrier's work.
use Rattle.refinement.proofs.Common.{◌≡◌, ℕ, ℤ, Bool, true, false, Option, Some, None, List, slice_get, slice_set, ◌⊎◌, inl, inr, refl, ap, sym, subst, ◌∙◌, both_ways, same_Some, got_cases, Addr, Name, Object, Task, ref_in, task_names, is_waiting, is_on_path, parents, on_one_path, path_itself, Ledger, heap_of, SoundLedger, InHeaps, CallFrame, RefField, own, Rests, StoresOne, ref_of, own_live, leaf_alone, Memory, In, sources, ReadsReference, TaskIsRead, LiesWithOwner, IsSource, MemoryStands, StoresAt, with_field}
use Rattle.refinement.proofs.objects.Carry.{all_set}
use Rattle.refinement.proofs.changes.Sweep.{snapshot_is}
use Rattle.refinement.proofs.changes.Target as target
use Rattle.refinement.proofs.changes.Write.{written}

-- of two names that a running task holds, if the owner of one isn't on the path of the other's, the other's owner is
-- its ancestor and waits, and its sweep keeps the other
module _ (l : Ledger) (S : SoundLedger l) (t : ℕ) (x : Task) (is : slice_get l.machine.tasks t ≡ Some x) (n r : Name) (holds_n : In (task_names x) n) (holds_r : In (task_names x) r) (off : is_on_path l.machine.tasks (own l r) (own l n) ≡ false) where
  pub above : is_on_path l.machine.tasks (own l n) (own l r) ≡ true
  above = elim (on_one_path (parents l.machine.tasks) S.fork_join.tree.low (own l n) (own l r) t (S.apart.of_task t x n is holds_n).1 (S.apart.of_task t x r is holds_r).1) [
    | inl h ↦ h
    | inr h ↦ absurd (both_ways (is_on_path l.machine.tasks (own l r) (own l n)) off h)
  ]

  pub apart : own l n ≡ own l r → ⊥
  apart e = both_ways (is_on_path l.machine.tasks (own l r) (own l n)) off (ap (is_on_path l.machine.tasks (own l r)) e ∙ path_itself (parents l.machine.tasks) S.fork_join.tree.low (own l r))

  pub waits : is_waiting (slice_get l.machine.tasks (own l n)) ≡ true
  waits = waits_by_cases (is_waiting (slice_get l.machine.tasks (own l n))) refl
    where
      waits_by_cases : (b : Bool) → is_waiting (slice_get l.machine.tasks (own l n)) ≡ b → b ≡ true
      waits_by_cases true e = refl
      waits_by_cases false e = absurd (apart (leaf_alone l S (own l n) (own l r) e (own_live l S r) above))

  pub snapshot : In (heap_of l (own l n)).snapshot n
  snapshot =
      let k = (S.waits (own l n) waits).of_task t x n is holds_n in
      let o : own l n ≡ k.0.0 = (S.owners k.0.0 n k.0.1).1 in
      subst (λ ns. In ns n) (snapshot_is (slice_get l.heaps (own l n))) (k.1 (subst (λ u. InHeaps l.heaps u n) (sym o) k.0.1))

module _ (v v' : Memory) (l l' : Ledger) (t : ℕ) (x : Task) (n : Name) (y : Object) (o w i : ℕ) (c : Option (ℕ × ℤ)) (f : CallFrame) (fs : List CallFrame) (a : Addr) (S : SoundLedger l) (V : MemoryStands v l) (rests : Rests l t)
    (L : StoresOne l l' t x n y o w i c) (C : StoresAt v v' l t f fs a w i c) (at_a : ref_of f o ≡ Some a) where
  pub holds : (j : ℕ) (m : Name) → ref_in x.top j ≡ Some m → In (task_names x) m
  holds = target.holds v l t x n o f fs a S V rests L.task L.runs L.object L.waits C.frames at_a

  reads : (j : ℕ) → ReadsReference (LiesWithOwner v l) (ref_of f j) (ref_in x.top j)
  reads = target.reads v l t x n o f fs a S V rests L.task L.runs L.object L.waits C.frames at_a

  pub place : LiesWithOwner v l n a
  place = target.place v l t x n o f fs a S V rests L.task L.runs L.object L.waits C.frames at_a

  -- what the register w holds
  value : (r : Name) → ref_in x.top w ≡ Some r → (b : Addr) × (ref_of f w ≡ Some b) × LiesWithOwner v l r b
  value r e = value_by_cases (ref_of f w) refl (subst (ReadsReference (LiesWithOwner v l) (ref_of f w)) e (reads w))
    where
      value_by_cases : (z : Option Addr) → ref_of f w ≡ z → ReadsReference (LiesWithOwner v l) z (Some r) → (b : Addr) × (ref_of f w ≡ Some b) × LiesWithOwner v l r b
      value_by_cases None h k = absurd k
      value_by_cases (Some b) h k = (b, h, k)

  -- and the name of the object at an address that it holds
  named : (b : Addr) → ref_of f w ≡ Some b → (r : Name) × (ref_in x.top w ≡ Some r) × LiesWithOwner v l r b
  named b e = named_by_cases (ref_in x.top w) refl (subst (λ z. ReadsReference (LiesWithOwner v l) z (ref_in x.top w)) e (reads w))
    where
      named_by_cases : (z : Option Name) → ref_in x.top w ≡ z → ReadsReference (LiesWithOwner v l) (Some b) z → (r : Name) × (ref_in x.top w ≡ Some r) × LiesWithOwner v l r b
      named_by_cases None h k = absurd k
      named_by_cases (Some r) h k = (r, h, k)

  abbrev y' : Object
  y' = record y { refs = slice_set y.refs i (ref_in x.top w) }

  pub rests_n : Rests l (own l n)
  rests_n = target.rests_n v l t x n o f fs a S V rests L.task L.runs L.object L.waits C.frames at_a

  minds : (j : ℕ) (r : Name) → slice_get y'.refs j ≡ Some (Some r) → (is_on_path l.machine.tasks (own l r) (own l n) ≡ true) ⊎ In (sources v' (own l r)) (record { object = a; field = j })
  minds j r e = elim (got_cases y.refs i j (ref_in x.top w) (Some r) e) [
    | inl h ↦ minds_by_cases (is_on_path l.machine.tasks (own l r) (own l n)) refl (value r (sym h.1)) h.0
    | inr old ↦ elim (target.minded v l t x n o f fs a S V rests L.task L.runs L.object L.waits C.frames at_a y j r L.writes.was old) [ inl p ↦ inl p | inr s ↦ inr (C.writes.noted (own l r) (record { object = a; field = j }) s) ]
  ]
    where
      minds_by_cases : (b : Bool) → is_on_path l.machine.tasks (own l r) (own l n) ≡ b → (c : Addr) × (ref_of f w ≡ Some c) × LiesWithOwner v l r c → j ≡ i → (is_on_path l.machine.tasks (own l r) (own l n) ≡ true) ⊎ In (sources v' (own l r)) (record { object = a; field = j })
      minds_by_cases true h q k = inl h
      minds_by_cases false h q k = inr (subst (λ z. In (sources v' (own l r)) (record { object = a; field = z })) (sym k) (C.down q.0 (own l n) (own l r) q.1 place.chunk q.2.chunk h))

  source : (u : ℕ) (s : RefField) → In (sources v' u) s → IsSource v l u s
  source u s k = elim (C.only u s k) [
    | inl old ↦ V.sources u s old
    | inr new ↦ noted u s new.0 new.1 new.2 new.3 new.4 new.5 new.6
  ]
    where
      noted : (u : ℕ) (s : RefField) (b : Addr) (c : ℕ) → ref_of f w ≡ Some b → v.owner b.chunk ≡ Some u → v.owner a.chunk ≡ Some c → is_on_path l.machine.tasks u c ≡ false → s ≡ record { object = a; field = i } → IsSource v l u s
      noted u s b c e eb ea off es =
          let m = named b e in
          let mine : own l m.0 ≡ u = same_Some (own l m.0) u (sym m.2.chunk ∙ eb) in
          let theirs : own l n ≡ c = same_Some (own l n) c (sym place.chunk ∙ ea) in
          let off' : is_on_path l.machine.tasks (own l m.0) (own l n) ≡ false = ap (λ z. is_on_path l.machine.tasks z (own l n)) mine ∙ (ap (is_on_path l.machine.tasks u) theirs ∙ off) in
          let hn = holds o n L.object in
          let hr = holds w m.0 m.1 in
          subst (λ z. IsSource v l z s) mine (subst (IsSource v l (own l m.0)) (sym es) (record {
            name = n;
            object = y;
            mutable = L.mutable;
            is = L.writes.was;
            place = place;
            field = L.field;
            waits = waits l S t x L.task n m.0 hn hr off';
            rests = rests_n;
            above = above l S t x L.task n m.0 hn hr off';
            below = apart l S t x L.task n m.0 hn hr off';
            live = own_live l S m.0;
            snapshot = snapshot l S t x L.task n m.0 hn hr off';
          }))

  task : (z : Task) → Rests l t → slice_get l'.machine.tasks t ≡ Some z → TaskIsRead (LiesWithOwner v l) (v'.belongings t) z
  task z r e = target.task_on v l t x n o f fs a S V rests L.task L.runs L.object L.waits C.frames at_a v' l' c L.goes C.goes z e

  pub stored : MemoryStands v' l'
  stored = written v v' l l' t n a y y' (with_field i (ref_of f w)) S V L.writes C.writes (record {
    place = place;
    rests = rests_n;
    mutable = L.mutable;
    still = L.mutable;
    reads = λ q k. record { mutable = k.mutable; ints = k.ints; refs = all_set (LiesWithOwner v l) q.refs y.refs i (ref_of f w) (ref_in x.top w) k.refs (reads w) };
    minds = minds;
    sources = source;
    task = task;
  })
