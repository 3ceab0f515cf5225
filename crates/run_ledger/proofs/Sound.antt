-- The invariant of heaps for legal journals, and what a change of one heap's account keeps of it.
use Rattle.run_ledger.proofs.Common.{◌≡◌, ℕ, ◌==◌, true, not, Option, Some, None, List, slice_get, slice_set, inl, inr, refl, ap, sym, subst, ◌∙◌, length-set, is_some, ne_eqb, cases_eq, and_from, In, got_same, got_other, got_in, in_flat, flat_in, in_kept, in_append_left, in_append_right, Name, Object, Edge, Task, refs_at, registers, task_names, is_running, owner_of, is_on_path, waiting, Closed, Disentangled, Heap, Ledger, held, held_in, heap_at, frames_of, roots_of, within, is_proper_ancestor}
use Rattle.run_ledger.proofs.Reached.{reached_root, reached_more}
pub use Rattle.run_ledger.specs.Sound.{heap_names, InHeaps, SomeHeapHas, Owners, Spares, collecting, snapshot_at, survivors_at, Sound, SoundLedger}

pub in_held : (l : Ledger) (n : Name) → SomeHeapHas l.heaps n → In (held l) n
in_held l n k = in_held_by_cases (slice_get l.heaps k.0) refl k.1
  where
    in_held_by_cases : (o : Option Heap) → slice_get l.heaps k.0 ≡ o → In (heap_names o) n → In (held l) n
    in_held_by_cases None e i = absurd i
    in_held_by_cases (Some h) e i = in_flat held_in l.heaps h n (got_in l.heaps k.0 h e) i

pub held_keeps : (l : Ledger) (n : Name) → In (held l) n → SomeHeapHas l.heaps n
held_keeps l n i = let r = flat_in held_in l.heaps n i in (r.0, subst (λ o. In (heap_names o) n) (sym r.2) r.3)

pub closed_same : (tasks : List Task) (store : List (List Object)) (P P' : Name → Type 0) → ((n : Name) → P n → P' n) → ((n : Name) → P' n → P n) → Closed tasks store P → Closed tasks store P'
closed_same tasks store P P' up down I = record {
  of_task = λ u x r e i. up r (I.of_task u x r e i);
  of_object = λ n r p i. up r (I.of_object n r (down n p) i);
}

-- if no task is below, the heap is used only through the task's own registers and the objects above it
module _ (l : Ledger) (t : ℕ) (apart : Disentangled l.machine.tasks l.machine.store) (owners : Owners l.machine.tasks l.heaps) (all : Closed l.machine.tasks l.machine.store (SomeHeapHas l.heaps))
    (regs : (u : ℕ) (x : Task) (r : Name) → slice_get l.machine.tasks u ≡ Some x → is_on_path l.machine.tasks t u ≡ true → In (task_names x) r → In (registers (frames_of (slice_get l.machine.tasks t))) r)
    (alone : (n : Name) → SomeHeapHas l.heaps n → is_on_path l.machine.tasks t (owner_of l.machine.tasks n.task) ≡ true → owner_of l.machine.tasks n.task ≡ t) where
  abbrev own : Name → ℕ
  own n = owner_of l.machine.tasks n.task

  abbrev names : List Name
  names = heap_names (heap_at l t)

  in_own : (n : Name) → SomeHeapHas l.heaps n → own n ≡ t → In names n
  in_own n k e = let o : own n ≡ k.0 = (owners k.0 n k.1).1 in subst (λ u. InHeaps l.heaps u n) (sym o ∙ e) k.1

  root : (r : Name) → In names r → In (roots_of l t) r → In (within l t) r
  root r i j = reached_root l.machine.store names (roots_of l t) r i j

  in_own_field : (n r : Name) → SomeHeapHas l.heaps n → (In names n → In (within l t) n) → In (refs_at l.machine.store n) r → In names r → own n ≡ t → In (within l t) r
  in_own_field n r k f i j e = reached_more l.machine.store names (roots_of l t) n r (f (in_own n k e)) i j

  above_field : (n r : Name) → SomeHeapHas l.heaps n → In (refs_at l.machine.store n) r → In names r → (own n ≡ t → ⊥) → is_on_path l.machine.tasks (own n) t ≡ true → In (within l t) r
  above_field n r k i j ne h =
      let above : is_proper_ancestor l.machine.tasks (own n) t ≡ true =
      and_from (is_on_path l.machine.tasks (own n) t) (not (own n == t)) h (ap not (ne_eqb (own n) t ne)) in
      root r j (in_append_right (registers (frames_of (slice_get l.machine.tasks t))) _ r
      (in_flat (refs_at l.machine.store) _ n r (in_kept (λ w. is_proper_ancestor l.machine.tasks (own w) t) (held l) n (in_held l n k) above) i))

  field : (n r : Name) → SomeHeapHas l.heaps n → (In names n → In (within l t) n) → In (refs_at l.machine.store n) r → In names r → In (within l t) r
  field n r k f i j =
      let e : own r ≡ t = (owners t r j).1 in
      elim (cases_eq (own n) t) [
        | inl same ↦ in_own_field n r k f i j same
        | inr ne ↦ elim ((apart.of_object n r i).2) [
          | inl h ↦ above_field n r k i j ne (ap (λ x. is_on_path l.machine.tasks (own n) x) (sym e) ∙ h)
          | inr h ↦ in_own_field n r k f i j (alone n k (ap (λ x. is_on_path l.machine.tasks x (own n)) (sym e) ∙ h))
        ]
      ]

  pub frozen : Spares l.machine.tasks l.machine.store l.heaps t (within l t)
  frozen = record {
    of_task = λ u x r e i. (
      all.of_task u x r e i,
      λ j. let o : own r ≡ t = (owners t r j).1 in
          root r j (in_append_left (registers (frames_of (slice_get l.machine.tasks t))) _ r
          (regs u x r e (ap (λ y. is_on_path l.machine.tasks y u) (sym o) ∙ (apart.of_task u x r e i).1) i)),
    );
    of_object = λ n r kf i. (all.of_object n r kf.0 i, λ j. field n r kf.0 kf.1 i j);
  }

-- a heap's account is changed, and holds no new name
module _ (tasks : List Task) (edges : List Edge) (store : List (List Object)) (heaps : List Heap) (S : Sound tasks edges store heaps)
    (t : ℕ) (h h' : Heap) (is : slice_get heaps t ≡ Some h) (sub : (n : Name) → In (held_in h') n → In (held_in h) n) where
  abbrev heaps' : List Heap
  heaps' = slice_set heaps t h'

  at_t : slice_get heaps' t ≡ Some h'
  at_t = got_same heaps t h h' is

  pub down : (u : ℕ) (n : Name) → InHeaps heaps' u n → InHeaps heaps u n
  down u n i = elim (cases_eq u t) [
    | inl e ↦
        let i' : InHeaps heaps' t n = subst (λ w. InHeaps heaps' w n) e i in
        subst (λ w. InHeaps heaps w n) (sym e) (subst (λ o. In (heap_names o) n) (sym is) (sub n (subst (λ o. In (heap_names o) n) at_t i')))
    | inr ne ↦ subst (λ o. In (heap_names o) n) (got_other heaps t u h' ne) i
  ]

  pub up_with : (all_of : (n : Name) → In (held_in h) n → In (held_in h') n) (u : ℕ) (n : Name) → InHeaps heaps u n → InHeaps heaps' u n
  up_with all_of u n i = elim (cases_eq u t) [
    | inl e ↦
        let i' : InHeaps heaps t n = subst (λ w. InHeaps heaps w n) e i in
        subst (λ w. InHeaps heaps' w n) (sym e) (subst (λ o. In (heap_names o) n) (sym at_t) (all_of n (subst (λ o. In (heap_names o) n) is i')))
    | inr ne ↦ subst (λ o. In (heap_names o) n) (sym (got_other heaps t u h' ne)) i
  ]

  module _ (all' : Closed tasks store (SomeHeapHas heaps')) where
    same_heap : (u : ℕ) (n : Name) → InHeaps heaps u n → SomeHeapHas heaps' n → InHeaps heaps' u n
    same_heap u n i k =
        let a = (S.owners u n i).1 in
        let b = (S.owners k.0 n (down k.0 n k.1)).1 in
        subst (λ w. InHeaps heaps' w n) (sym b ∙ a) k.1

    pub spares_kept : (u : ℕ) (ns : List Name) → Spares tasks store heaps u ns → Spares tasks store heaps' u ns
    spares_kept u ns sp = record {
      of_task = λ v x r e i. (all'.of_task v x r e i, λ j. (sp.of_task v x r e i).1 (down u r j));
      of_object = λ n r kf i. (all'.of_object n r kf.0 i, λ j. (sp.of_object n r ((kf.0.0, down kf.0.0 n kf.0.1), (λ k. kf.1 (same_heap u n k kf.0))) i).1 (down u r j));
    }

    pub changed : (collecting (Some h') ≡ true → (is_running (slice_get tasks t) ≡ true) × Spares tasks store heaps' t h'.survivors) → (waiting tasks t ≡ true → Spares tasks store heaps' t h'.snapshot) → Sound tasks edges store heaps'
    changed col wai = record {
      fork_join = S.fork_join;
      apart = S.apart;
      lengths = length-set heaps t h' ∙ S.lengths;
      owners = λ u n i. S.owners u n (down u n i);
      running = λ u c. elim (cases_eq u t) [
        | inl e ↦ ap (λ w. is_running (slice_get tasks w)) e ∙ (col (ap collecting (sym at_t) ∙ (ap (λ w. collecting (slice_get heaps' w)) (sym e) ∙ c))).0
        | inr ne ↦ S.running u (ap collecting (sym (got_other heaps t u h' ne)) ∙ c)
      ];
      all = all';
      waits = λ u w. elim (cases_eq u t) [
        | inl e ↦ subst (λ v. Spares tasks store heaps' v (snapshot_at (slice_get heaps' v))) (sym e) (subst (λ o. Spares tasks store heaps' t (snapshot_at o)) (sym at_t) (wai (ap (waiting tasks) (sym e) ∙ w)))
        | inr ne ↦ subst (λ o. Spares tasks store heaps' u (snapshot_at o)) (sym (got_other heaps t u h' ne)) (spares_kept u _ (S.waits u w))
      ];
      collects = λ u c. elim (cases_eq u t) [
        | inl e ↦ subst (λ v. Spares tasks store heaps' v (survivors_at (slice_get heaps' v))) (sym e) (subst (λ o. Spares tasks store heaps' t (survivors_at o)) (sym at_t) (col (ap collecting (sym at_t) ∙ (ap (λ w. collecting (slice_get heaps' w)) (sym e) ∙ c))).1)
        | inr ne ↦ subst (λ o. Spares tasks store heaps' u (survivors_at o)) (sym (got_other heaps t u h' ne)) (spares_kept u _ (S.collects u (ap collecting (sym (got_other heaps t u h' ne)) ∙ c)))
      ];
    }

  -- the same names, and the same of a collection and of the fork
  pub renewed : ((n : Name) → In (held_in h) n → In (held_in h') n) → h'.begun ≡ h.begun → h'.survivors ≡ h.survivors → h'.snapshot ≡ h.snapshot → Sound tasks edges store heaps'
  renewed all_of eb es en =
      let all' : Closed tasks store (SomeHeapHas heaps') = closed_same tasks store (SomeHeapHas heaps) (SomeHeapHas heaps') (λ n k. (k.0, up_with all_of k.0 n k.1)) (λ n k. (k.0, down k.0 n k.1)) S.all in
      changed all'
      (λ c.
      let c' : collecting (slice_get heaps t) ≡ true = ap collecting is ∙ (ap is_some (sym eb) ∙ c) in
      (S.running t c', subst (λ ns. Spares tasks store heaps' t ns) (ap survivors_at is ∙ sym es) (spares_kept all' t (survivors_at (slice_get heaps t)) (S.collects t c'))))
      (λ w. subst (λ ns. Spares tasks store heaps' t ns) (ap snapshot_at is ∙ sym en) (spares_kept all' t (snapshot_at (slice_get heaps t)) (S.waits t w)))

  -- the heap keeps exactly those names without which it could not do
  pub cut : (ns : List Name) → ((n : Name) → In (held_in h') n → In ns n) → ((n : Name) → In (held_in h) n → In ns n → In (held_in h') n) → Spares tasks store heaps t ns
      → (collecting (Some h') ≡ true → ⊥) → (waiting tasks t ≡ true → ns ≡ h'.snapshot) → Sound tasks edges store heaps'
  cut ns only enough sp idle wai =
      let into : (n : Name) → SomeHeapHas heaps' n → SomeHeapHas heaps n × (InHeaps heaps t n → In ns n) = λ n k. ((k.0, down k.0 n k.1), λ i. only_here n k i) in
      let all' : Closed tasks store (SomeHeapHas heaps') = closed_same tasks store (λ n. SomeHeapHas heaps n × (InHeaps heaps t n → In ns n)) (SomeHeapHas heaps') out into sp in
      changed all' (λ c. absurd (idle c)) (λ w. subst (λ ms. Spares tasks store heaps' t ms) (wai w) (spares_kept all' t ns sp))
    where
      only_here : (n : Name) → SomeHeapHas heaps' n → InHeaps heaps t n → In ns n
      only_here n k i =
          let a = (S.owners t n i).1 in
          let b = (S.owners k.0 n (down k.0 n k.1)).1 in
          let i' : InHeaps heaps' t n = subst (λ w. InHeaps heaps' w n) (sym b ∙ a) k.1 in
          only n (subst (λ o. In (heap_names o) n) at_t i')

      out : (n : Name) → SomeHeapHas heaps n × (InHeaps heaps t n → In ns n) → SomeHeapHas heaps' n
      out n kf = elim (cases_eq kf.0.0 t) [
        | inl e ↦
            let i : InHeaps heaps t n = subst (λ w. InHeaps heaps w n) e kf.0.1 in
            (t, subst (λ o. In (heap_names o) n) (sym at_t) (enough n (subst (λ o. In (heap_names o) n) is i) (kf.1 i)))
        | inr ne ↦ (kf.0.0, subst (λ o. In (heap_names o) n) (sym (got_other heaps t kf.0.0 h' ne)) kf.0.1)
      ]
