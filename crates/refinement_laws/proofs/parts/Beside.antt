-- The frame law for the last step of an entry: a fork, a join and a store of one task keep the part of another fitting.
use Rattle.refinement_laws.proofs.Common.{◌≡◌, ℕ, ℤ, true, Option, slice_get, inl, inr, refl, ap, sym, ◌∙◌, both_ways, same_Some, Addr, Name, Object, Running, Task, object_at, is_on_path, Heap, Ledger, Belongings, Memory, ReadsReference, own, Rests, StepsAlone, WritesOne, AlikeFor, ForksTask, JoinsTasks, TasksCanJoin, LiesWithOwner, MemoryStands, with_belongings, ForksBelongings, JoinsBelongings, Beside, forked_stands, joined_stands, off_belongings, with_both, forks_too, forks_with, joins_too, joins_with}
use Rattle.refinement_laws.proofs.parts.Assemble.{assembled}

-- both fit together
pub together : (v : Memory) (lt k K : Ledger) (t u : ℕ) (g h : Belongings) → Beside lt k K t u → MemoryStands (with_belongings v t g) lt → MemoryStands (with_belongings v u h) k → MemoryStands (with_belongings (with_belongings v t g) u h) K
together v lt k K t u g h B Vt Vu =
    assembled (with_belongings (with_belongings v t g) u h) (with_belongings v t g) (with_belongings v u h) K lt k t u B.apart B.sound_t B.sound_u Vt Vu B.steps_t B.steps_u
    (record { belongings = λ z ne. off_belongings (with_belongings v t g) u h z ne; owner = λ i. refl; sources = λ z. refl })
    (record { belongings = λ z ne. with_both v t u g h B.apart z ∙ off_belongings (with_belongings v u h) t g z ne; owner = λ i. refl; sources = λ z. refl })
    B.idle_t B.idle_u B.live_t B.live_u

-- t forks: from lt to l', and with u's steps from K to k'
pub fork_frame : (v v' : Memory) (lt l' k k' K : Ledger) (t u a b f i : ℕ) (g h : Belongings) (x : Task) → Beside lt k K t u → (a ≡ u → ⊥) → (b ≡ u → ⊥) → StepsAlone l' k' u → AlikeFor u K k'
    → x.status ≡ Running → Rests lt t → ForksTask lt l' t a b f i x → ForksBelongings (with_belongings v t g) v' t a b f i
    → MemoryStands (with_belongings v t g) lt → MemoryStands (with_belongings v u h) k → MemoryStands (with_belongings v' u h) k'
fork_frame v v' lt l' k k' K t u a b f i g h x B na nb A' E runs rests F C Vt Vu =
    forked_stands (with_belongings (with_belongings v t g) u h) (with_belongings v' u h) K k' t a b f i x B.sound (together v lt k K t u g h B Vt Vu) runs
    (ap (λ (z : Heap). z.worker) (B.steps_t.heaps t B.apart) ∙ rests)
    (forks_too lt l' K k' u B.steps_t A' E t a b f i x B.apart na nb F) (forks_with (with_belongings v t g) v' u h t a b f i B.apart na nb C)

-- t ends, with its sibling's end before, and both join p: from lt to l', and with u's steps from K to k'
pub join_frame : (v v' : Memory) (lt l' k k' K : Ledger) (t u p c d : ℕ) (g h : Belongings) (x : Task) (rl rr : ℤ × Option Name) (al ar : ℤ × Option Addr) → Beside lt k K t u → (p ≡ u → ⊥) → (c ≡ u → ⊥) → (d ≡ u → ⊥)
    → StepsAlone l' k' u → AlikeFor u K k' → JoinsTasks lt l' p c d x rl rr → TasksCanJoin K p c d x → JoinsBelongings (with_belongings v t g) v' p c d al ar
    → (al.0 ≡ rl.0) × ReadsReference (LiesWithOwner (with_belongings (with_belongings v t g) u h) K) al.1 rl.1 → (ar.0 ≡ rr.0) × ReadsReference (LiesWithOwner (with_belongings (with_belongings v t g) u h) K) ar.1 rr.1
    → MemoryStands (with_belongings v t g) lt → MemoryStands (with_belongings v u h) k → MemoryStands (with_belongings v' u h) k'
join_frame v v' lt l' k k' K t u p c d g h x rl rr al ar B np nc nd A' E J T C gl gr Vt Vu =
    joined_stands (with_belongings (with_belongings v t g) u h) (with_belongings v' u h) K k' p c d x rl rr al ar B.sound (together v lt k K t u g h B Vt Vu)
    (joins_too lt l' K k' u B.steps_t A' E p c d x rl rr np nc nd J) T (joins_with (with_belongings v t g) v' u h p c d al ar np nc nd C) gl gr

-- THE ACCOUNTS AGREE FOR u AFTER WHAT OTHERS DO

pub alike_forks : (l l' : Ledger) (u t a b g h : ℕ) (x : Task) → (u ≡ t → ⊥) → (u ≡ a → ⊥) → (u ≡ b → ⊥) → l'.machine.field_limit ≡ l.machine.field_limit → l'.machine.end ≡ l.machine.end → slice_get l'.heaps u ≡ slice_get l.heaps u
    → ForksTask l l' t a b g h x → AlikeFor u l l'
alike_forks l l' u t a b g h x nt na nb limit end heap F = record {
  limit = limit;
  end = end;
  task = F.tasks u nt na nb;
  heap = heap;
  count = F.rows u;
  owned = λ n e. F.owners n.task ∙ e;
  owned' = λ n e. sym (F.owners n.task) ∙ e;
  store = λ n e. F.store n;
  above = λ n h. F.paths (own l' n) u na nb ∙ (ap (λ z. is_on_path l.machine.tasks z u) (F.owners n.task) ∙ h);
  frozen = λ n y h e f. F.store n ∙ e;
}

-- neither child is an ancestor of u
pub alike_joins : (l l' : Ledger) (u p c d : ℕ) (x : Task) (rl rr : ℤ × Option Name) → (u ≡ p → ⊥) → (u ≡ c → ⊥) → (u ≡ d → ⊥) → (is_on_path l.machine.tasks c u ≡ true → ⊥) → (is_on_path l.machine.tasks d u ≡ true → ⊥) → l'.machine.field_limit ≡ l.machine.field_limit → l'.machine.end ≡ l.machine.end → slice_get l'.heaps u ≡ slice_get l.heaps u
    → JoinsTasks l l' p c d x rl rr → AlikeFor u l l'
alike_joins l l' u p c d x rl rr np nc nd oc od limit end heap J = record {
  limit = limit;
  end = end;
  task = J.tasks u np nc nd;
  heap = heap;
  count = J.rows u;
  owned = λ n e. elim (J.owners n.task) [
    | inl m ↦ absurd (elim m.1 [ inl f ↦ nc (sym e ∙ f) | inr f ↦ nd (sym e ∙ f) ])
    | inr m ↦ m.0 ∙ e
  ];
  owned' = λ n e. elim (J.owners n.task) [
    | inl m ↦ absurd (np (sym e ∙ m.0))
    | inr m ↦ sym m.0 ∙ e
  ];
  store = λ n e. J.store n;
  above = λ n h. J.paths (own l' n) u ∙ elim (J.owners n.task) [
    | inl m ↦ absurd (elim m.1 [ inl e ↦ oc (ap (λ z. is_on_path l.machine.tasks z u) (sym e) ∙ h) | inr e ↦ od (ap (λ z. is_on_path l.machine.tasks z u) (sym e) ∙ h) ])
    | inr m ↦ ap (λ z. is_on_path l.machine.tasks z u) m.0 ∙ h
  ];
  frozen = λ n y h e f. J.store n ∙ e;
}

pub alike_writes : (l l' : Ledger) (u t : ℕ) (n : Name) (x x' : Object) → (u ≡ t → ⊥) → (own l n ≡ u → ⊥) → x.mutable ≡ true → l'.machine.field_limit ≡ l.machine.field_limit → l'.machine.end ≡ l.machine.end → slice_get l'.heaps u ≡ slice_get l.heaps u
    → WritesOne l l' t n x x' → AlikeFor u l l'
alike_writes l l' u t n x x' nt off mutable limit end heap W = record {
  limit = limit;
  end = end;
  task = W.tasks u nt;
  heap = heap;
  count = W.rows u;
  owned = λ m e. W.tree.owners m.task ∙ e;
  owned' = λ m e. sym (W.tree.owners m.task) ∙ e;
  store = λ m e. W.others m (λ f. off (sym (ap (own l) f) ∙ e));
  above = λ m h. W.tree.paths (own l' m) u ∙ (ap (λ z. is_on_path l.machine.tasks z u) (W.tree.owners m.task) ∙ h);
  frozen = λ m y h e f. W.others m (λ z.
      let same : x ≡ y = same_Some x y (sym W.was ∙ (ap (object_at l.machine.store) (sym z) ∙ e)) in
      both_ways y.mutable f (ap (λ (w : Object). w.mutable) (sym same) ∙ mutable)) ∙ e;
}
