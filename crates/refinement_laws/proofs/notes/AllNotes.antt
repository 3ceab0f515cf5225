-- The invariant of what is noted of all heaps holds after each entry.
use Rattle.refinement_laws.proofs.Common.{◌≡◌, ◌⊎◌, ℕ, ℤ, Bool, true, false, ◌++◌, Option, Some, None, List, length, slice_get, inl, inr, refl, ap, ap₂, sym, subst, ◌∙◌, ◌&&◌, not, both_ways, cases_eq, false≢true, Addr, Located, Name, Object, MachineState, TaskStatus, Running, Waiting, Ended, Joined, Task, is_waiting, is_joined, is_over, waits, runs_idle, Heap, Ledger, heap_of, within, SoundLedger, Belongings, In, Memory, object_name, objects, objects_of_chunks, put_at, rewritten, sources, in_append_right, CallFrame, ref_of, Rests, StepsAlone, ChangesHeap, TasksCanJoin, ForksTask, JoinsTasks, StoresOne, StoresNumber, MemoryStands, AreRoots, IsRememberedRoot, NotedAt, SameNotes, AllNoted, NotesStay, Noting, ForksNotes, JoinsNotes, OthersNotes, StoresNotes, KeepsJust, Moves, ForksBelongings, JoinsBelongings, StoresAt, StoresNumberAt, WritesAt, with_int_field, to_mapped, in_chunk, in_objects, noted_by, rewritten_at, root_apart, root_by, root_kept, root_same, notes_stay, notes_with, same_whole, moves_whole, numbers_whole, no_notes, fork_notes, store_notes, number_name, number_at, number_refs}

-- the accounts of u's heap are unchanged
same_notes : (v v' : Memory) (l l' : Ledger) (u : ℕ) → NotesStay v v' u → ((k : ℕ) → v'.owner k ≡ Some u → v.owner k ≡ Some u) → is_waiting (slice_get l'.machine.tasks u) ≡ is_waiting (slice_get l.machine.tasks u) → (heap_of l' u).swept ≡ (heap_of l u).swept → (heap_of l' u).snapshot ≡ (heap_of l u).snapshot
    → (v'.belongings u).frames ≡ (v.belongings u).frames → ((b : Addr) → IsRememberedRoot v l u b → IsRememberedRoot v' l' u b) → SameNotes v v' l l' u
same_notes v v' l l' u N none_new w s n f r = record { keeps = N.keeps; kept = N.kept; waits = w; swept = s; snapshot = n; none_new = none_new; frames = f; rooted = r }

-- a task that doesn't wait needs none
needless : (l' : Ledger) (u : ℕ) → is_waiting (slice_get l'.machine.tasks u) ≡ false → (is_waiting (slice_get l'.machine.tasks u) && not (heap_of l' u).swept) ≡ false
needless l' u e = ap (λ b. b && not (heap_of l' u).swept) e

not_waiting : (v' : Memory) (l' : Ledger) (u : ℕ) → (v'.noted u).keeps ≡ false → is_waiting (slice_get l'.machine.tasks u) ≡ false → NotedAt v' l' u
not_waiting v' l' u k e = no_notes v' l' u (record { keeps = k; needless = needless l' u e })

joined_rests : (o : Option Task) → is_joined o ≡ true → is_waiting o ≡ false
joined_rests None h = absurd (false≢true h)
joined_rests (Some x) h = joined_rests_by_cases x.status h
  where
    joined_rests_by_cases : (s : TaskStatus) → is_over s ≡ true → waits s ≡ false
    joined_rests_by_cases Running h = refl
    joined_rests_by_cases Waiting h = absurd (false≢true h)
    joined_rests_by_cases (Ended k n) h = refl
    joined_rests_by_cases Joined h = refl

forks_root : (v v' : Memory) (l l' : Ledger) (t a b g h : ℕ) (x : Task) → MemoryStands v l → x.status ≡ Running → ForksTask l l' t a b g h x → ForksBelongings v v' t a b g h → (u : ℕ) → (u ≡ a → ⊥) → (u ≡ b → ⊥) → (c : Addr) → IsRememberedRoot v l u c → IsRememberedRoot v' l' u c
forks_root v v' l l' t a b g h x V runs F C u oa ob c r =
    let nt = root_apart v l V t (runs_idle x F.task runs) u c r in
    let na = root_apart v l V a (ap is_waiting F.unmade_left) u c r in
    let nb = root_apart v l V b (ap is_waiting F.unmade_right) u c r in
    root_same v v' l l' u (noted_by v v' u (C.sources u oa ob)) (λ k o. C.owner k ∙ o) c r (ap (λ (z : Heap). z.worker) (F.heaps r.task nt na nb) ∙ r.rests) (ap (λ (z : Belongings). objects_of_chunks z.chunks) (C.others r.task nt na nb))

pub forks_note : (v v' : Memory) (l l' : Ledger) (t a b g h : ℕ) (x : Task) (roots : List Addr) → SoundLedger l → MemoryStands v l → x.status ≡ Running → Rests l t → ((u : ℕ) → is_waiting (slice_get l.machine.tasks u) ≡ true → Rests l u)
    → (F : ForksTask l l' t a b g h x) → ForksBelongings v v' t a b g h → AreRoots v l t roots → F.names ≡ within l t → ForksNotes v v' t a b → AllNoted v l → AllNoted v' l'
forks_note v v' l l' t a b g h x roots S V runs rests at_rest F C R names N H u = elim (cases_eq u t) [
  | inl e ↦ subst (NotedAt v' l') (sym e) (fork_notes v v' l l' t a b g h x roots S V runs rests at_rest F C R names N.kept N.marked N.keeps)
  | inr nt ↦ elim (cases_eq u a) [
    | inl e ↦ subst (NotedAt v' l') (sym e) (not_waiting v' l' a N.left (ap is_waiting F.left))
    | inr na ↦ elim (cases_eq u b) [
      | inl e ↦ subst (NotedAt v' l') (sym e) (not_waiting v' l' b N.right (ap is_waiting F.right))
      | inr nb ↦
          let heap = F.heaps u nt na nb in
          notes_stay v v' l l' u (same_notes v v' l l' u (N.others u nt na nb) (λ k g. sym (C.owner k) ∙ g) (ap is_waiting (F.tasks u nt na nb)) (ap (λ (z : Heap). z.swept) heap) (ap (λ (z : Heap). z.snapshot) heap)
          (ap (λ (z : Belongings). z.frames) (C.others u nt na nb)) (forks_root v v' l l' t a b g h x V runs F C u na nb)) (N.others u nt na nb).marked (ap (λ (z : Heap). z.marked) heap)
          (same_whole v v' u (ap (λ (z : Belongings). objects_of_chunks z.chunks) (C.others u nt na nb)) (ap (λ (z : Belongings). length z.chunks) (C.others u nt na nb))) (H u)
    ]
  ]
]

joins_root : (v v' : Memory) (l l' : Ledger) (p c d : ℕ) (x : Task) (rl rr : ℤ × Option Name) (al ar : ℤ × Option Addr) → MemoryStands v l → JoinsTasks l l' p c d x rl rr → TasksCanJoin l p c d x → JoinsBelongings v v' p c d al ar
    → (u : ℕ) → (u ≡ p → ⊥) → (u ≡ c → ⊥) → (u ≡ d → ⊥) → (b : Addr) → IsRememberedRoot v l u b → IsRememberedRoot v' l' u b
joins_root v v' l l' p c d x rl rr al ar V J K C u np nc nd b r =
    let rc = root_apart v l V c K.left_idle u b r in
    let rd = root_apart v l V d K.right_idle u b r in
    elim (cases_eq r.task p) [
      | inl e ↦
          let i : In (objects v p) r.object = subst (λ z. In (objects v z) r.object) e r.there in
          let k = in_chunk (v.belongings p).chunks r.object i in
          let k' : In (v'.belongings p).chunks k.0 = subst (λ ks. In ks k.0) (sym C.chunks) (in_append_right ((v.belongings c).chunks ++ (v.belongings d).chunks) (v.belongings p).chunks k.0 k.1) in
          root_by v v' l l' u (noted_by v v' u (C.sources u np nc nd)) (λ k o. C.owners k u nc nd o) b r
          (subst (Rests l') (sym e) (ap (λ (z : Heap). z.worker) J.heap ∙ subst (Rests l) e r.rests))
          r.object (subst (λ z. In (objects v' z) r.object) (sym e) (in_objects (v'.belongings p).chunks k.0 r.object k' k.2)) refl r.holds
      | inr rp ↦
          root_same v v' l l' u (noted_by v v' u (C.sources u np nc nd)) (λ k o. C.owners k u nc nd o) b r (ap (λ (z : Heap). z.worker) (J.heaps r.task rp rc rd) ∙ r.rests)
          (ap (λ (z : Belongings). objects_of_chunks z.chunks) (C.others r.task rp rc rd))
    ]

pub joins_note : (v v' : Memory) (l l' : Ledger) (p c d : ℕ) (x : Task) (rl rr : ℤ × Option Name) (al ar : ℤ × Option Addr) → MemoryStands v l → JoinsTasks l l' p c d x rl rr → TasksCanJoin l p c d x → JoinsBelongings v v' p c d al ar → JoinsNotes v v' p c d → AllNoted v l → AllNoted v' l'
joins_note v v' l l' p c d x rl rr al ar V J K C N H u = elim (cases_eq u p) [
  | inl e ↦ subst (NotedAt v' l') (sym e) (not_waiting v' l' p N.parent (ap is_waiting J.resumed))
  | inr np ↦ elim (cases_eq u c) [
    | inl e ↦ subst (NotedAt v' l') (sym e) (not_waiting v' l' c N.left (joined_rests (slice_get l'.machine.tasks c) J.left))
    | inr nc ↦ elim (cases_eq u d) [
      | inl e ↦ subst (NotedAt v' l') (sym e) (not_waiting v' l' d N.right (joined_rests (slice_get l'.machine.tasks d) J.right))
      | inr nd ↦
          let heap = J.heaps u np nc nd in
          notes_stay v v' l l' u (same_notes v v' l l' u (N.others u np nc nd) (λ k g. elim (C.owned k u g) [ inl old ↦ old | inr new ↦ absurd (np new.0) ]) (ap is_waiting (J.tasks u np nc nd)) (ap (λ (z : Heap). z.swept) heap) (ap (λ (z : Heap). z.snapshot) heap)
          (ap (λ (z : Belongings). z.frames) (C.others u np nc nd)) (joins_root v v' l l' p c d x rl rr al ar V J K C u np nc nd)) (N.others u np nc nd).marked (ap (λ (z : Heap). z.marked) heap)
          (same_whole v v' u (ap (λ (z : Belongings). objects_of_chunks z.chunks) (C.others u np nc nd)) (ap (λ (z : Belongings). length z.chunks) (C.others u np nc nd))) (H u)
    ]
  ]
]

sweeps_root : (v v' : Memory) (l l' : Ledger) (t : ℕ) → MemoryStands v l → ChangesHeap l l' t → KeepsJust v v' l l' t (heap_of l t).snapshot → (u : ℕ) → (u ≡ t → ⊥) → (b : Addr) → IsRememberedRoot v l u b → IsRememberedRoot v' l' u b
sweeps_root v v' l l' t V L C u nt b r = elim (cases_eq r.task t) [
  | inl e ↦
      let i = C.stays r.object (subst (λ z. In (objects v z) r.object) e r.there) (subst (λ z. In (heap_of l z).snapshot (object_name r.object)) e (root_kept v l V u b r)) in
      root_by v v' l l' u (noted_by v v' u (C.sources u)) (λ k o. C.owners k u nt o) b r (subst (Rests l') (sym e) (L.worker ∙ subst (Rests l) e r.rests)) r.object (subst (λ z. In (objects v' z) r.object) (sym e) i) refl r.holds
  | inr ne ↦
      root_same v v' l l' u (noted_by v v' u (C.sources u)) (λ k o. C.owners k u nt o) b r (ap (λ (z : Heap). z.worker) (L.others r.task ne) ∙ r.rests) (ap (λ (z : Belongings). objects_of_chunks z.chunks) (C.others r.task ne))
]

pub sweeps_note : (v v' : Memory) (l l' : Ledger) (t : ℕ) → MemoryStands v l → ChangesHeap l l' t → (heap_of l' t).swept ≡ true → KeepsJust v v' l l' t (heap_of l t).snapshot → OthersNotes v v' t → AllNoted v l → AllNoted v' l'
sweeps_note v v' l l' t V L swept C N H u = elim (cases_eq u t) [
  | inl e ↦ subst (NotedAt v' l') (sym e) (no_notes v' l' t (record { keeps = N.none; needless = sweeps_note_by_cases (is_waiting (slice_get l'.machine.tasks t)) (heap_of l' t).swept swept }))
  | inr nt ↦
      let heap = L.others u nt in
      notes_stay v v' l l' u (same_notes v v' l l' u (N.others u nt) (λ k g. C.owned k u g) (ap (λ (m : MachineState). is_waiting (slice_get m.tasks u)) L.machine) (ap (λ (z : Heap). z.swept) heap) (ap (λ (z : Heap). z.snapshot) heap)
      (ap (λ (z : Belongings). z.frames) (C.others u nt)) (sweeps_root v v' l l' t V L C u nt)) (N.others u nt).marked (ap (λ (z : Heap). z.marked) heap)
      (same_whole v v' u (ap (λ (z : Belongings). objects_of_chunks z.chunks) (C.others u nt)) (ap (λ (z : Belongings). length z.chunks) (C.others u nt))) (H u)
]
  where
    sweeps_note_by_cases : (a b : Bool) → b ≡ true → (a && not b) ≡ false
    sweeps_note_by_cases true true e = refl
    sweeps_note_by_cases false true e = refl
    sweeps_note_by_cases true false e = absurd (false≢true e)
    sweeps_note_by_cases false false e = refl

ends_root : (v v' : Memory) (l l' : Ledger) (t : ℕ) (names : List Name) (f : Addr → Addr) → MemoryStands v l → is_waiting (slice_get l.machine.tasks t) ≡ false → ChangesHeap l l' t → Moves v v' l l' t names f → (u : ℕ) → (u ≡ t → ⊥) → (b : Addr) → IsRememberedRoot v l u b → IsRememberedRoot v' l' u b
ends_root v v' l l' t names f V idle L C u nt b r =
    let ne = root_apart v l V t idle u b r in
    root_by v v' l l' u (noted_by v v' u (C.sources u)) (λ k o. C.owners k u nt o) b r (ap (λ (z : Heap). z.worker) (L.others r.task ne) ∙ r.rests) (rewritten f (sources v t) r.object)
    (subst (λ (h : Belongings). In (objects_of_chunks h.chunks) (rewritten f (sources v t) r.object)) (sym (C.others r.task ne)) (to_mapped (rewritten f (sources v t)) (λ o. refl) (λ o. refl) (v.belongings r.task).chunks r.object r.there)) refl
    (rewritten_at f (sources v t) r.object.at 0 r.object.refs r.source.field b (C.same b u nt r.into) r.holds)

pub ends_note : (v v' : Memory) (l l' : Ledger) (t : ℕ) (names : List Name) (f : Addr → Addr) → MemoryStands v l → is_waiting (slice_get l.machine.tasks t) ≡ false → ChangesHeap l l' t → Moves v v' l l' t names f → OthersNotes v v' t → AllNoted v l → AllNoted v' l'
ends_note v v' l l' t names f V idle L C N H u = elim (cases_eq u t) [
  | inl e ↦ subst (NotedAt v' l') (sym e) (not_waiting v' l' t N.none (ap (λ (m : MachineState). is_waiting (slice_get m.tasks t)) L.machine ∙ idle))
  | inr nt ↦
      let heap = L.others u nt in
      notes_stay v v' l l' u (same_notes v v' l l' u (N.others u nt) (λ k g. C.owned k u g) (ap (λ (m : MachineState). is_waiting (slice_get m.tasks u)) L.machine) (ap (λ (z : Heap). z.swept) heap) (ap (λ (z : Heap). z.snapshot) heap)
      (ap (λ (z : Belongings). z.frames) (C.others u nt)) (ends_root v v' l l' t names f V idle L C u nt)) (N.others u nt).marked (ap (λ (z : Heap). z.marked) heap)
      (moves_whole v v' l l' t u names f nt C) (H u)
]

-- a step of t alone, also its end
pub steps_note : (v v' : Memory) (l l' : Ledger) (t : ℕ) → is_waiting (slice_get l.machine.tasks t) ≡ false → StepsAlone l l' t → ((u : ℕ) → (u ≡ t → ⊥) → v'.belongings u ≡ v.belongings u) → ((k : ℕ) → v'.owner k ≡ v.owner k) → ((u : ℕ) → sources v' u ≡ sources v u)
    → ((u : ℕ) (b : Addr) (r : IsRememberedRoot v l u b) → r.task ≡ t → ⊥) → OthersNotes v v' t → AllNoted v l → AllNoted v' l'
steps_note v v' l l' t idle A C owner same apart N H u = elim (cases_eq u t) [
  | inl e ↦ subst (NotedAt v' l') (sym e) (not_waiting v' l' t N.none (A.tree.waits t ∙ idle))
  | inr nt ↦
      let heap = A.heaps u nt in
      notes_stay v v' l l' u (same_notes v v' l l' u (N.others u nt) (λ k g. sym (owner k) ∙ g) (A.tree.waits u) (ap (λ (z : Heap). z.swept) heap) (ap (λ (z : Heap). z.snapshot) heap)
      (ap (λ (z : Belongings). z.frames) (C u nt))
      (λ b r. let ne = apart u b r in root_same v v' l l' u (noted_by v v' u (same u)) (λ k o. owner k ∙ o) b r (ap (λ (z : Heap). z.worker) (A.heaps r.task ne) ∙ r.rests) (ap (λ (z : Belongings). objects_of_chunks z.chunks) (C r.task ne)))) (N.others u nt).marked (ap (λ (z : Heap). z.marked) heap)
      (same_whole v v' u (ap (λ (z : Belongings). objects_of_chunks z.chunks) (C u nt)) (ap (λ (z : Belongings). length z.chunks) (C u nt))) (H u)
]

-- an entry that moves nothing
pub quiet_notes : (v v' : Memory) (l l' : Ledger) → l'.machine ≡ l.machine → ((u : ℕ) → Rests l u → Rests l' u) → ((u : ℕ) → (v'.belongings u).frames ≡ (v.belongings u).frames) → ((k u : ℕ) → v.owner k ≡ Some u → v'.owner k ≡ Some u) → ((u : ℕ) → sources v' u ≡ sources v u) → ((u : ℕ) → (heap_of l' u).swept ≡ (heap_of l u).swept) → ((u : ℕ) → (heap_of l' u).snapshot ≡ (heap_of l u).snapshot) → ((u : ℕ) → objects v' u ≡ objects v u) → ((u : ℕ) → is_waiting (slice_get l.machine.tasks u) ≡ true → length (v'.belongings u).chunks ≡ length (v.belongings u).chunks)
    → ((k u : ℕ) → v'.owner k ≡ Some u → (v.owner k ≡ Some u) ⊎ (is_waiting (slice_get l.machine.tasks u) ≡ false)) → ((u : ℕ) → Noting v v' l l' u) → AllNoted v l → AllNoted v' l'
quiet_notes v v' l l' m rest frames owner noted swept snapshot same chunks taken N H u = quiet_notes_by_cases (is_waiting (slice_get l.machine.tasks u)) refl (N u)
  where
    waits : is_waiting (slice_get l'.machine.tasks u) ≡ is_waiting (slice_get l.machine.tasks u)
    waits = ap (λ (z : MachineState). is_waiting (slice_get z.tasks u)) m

    -- a waiting task gets no chunk
    none_new : is_waiting (slice_get l.machine.tasks u) ≡ true → (k : ℕ) → v'.owner k ≡ Some u → v.owner k ≡ Some u
    none_new e k g = elim (taken k u g) [ inl old ↦ old | inr new ↦ absurd (both_ways (is_waiting (slice_get l.machine.tasks u)) new e) ]

    rooted : (b : Addr) → IsRememberedRoot v l u b → IsRememberedRoot v' l' u b
    rooted b r = root_same v v' l l' u (noted_by v v' u (noted u)) (λ k. owner k u) b r (rest r.task r.rests) (same r.task)

    quiet_notes_by_cases : (b : Bool) → is_waiting (slice_get l.machine.tasks u) ≡ b → Noting v v' l l' u → NotedAt v' l' u
    quiet_notes_by_cases b e (inr (inl n)) = not_waiting v' l' u n.0 (waits ∙ n.1)
    quiet_notes_by_cases false e (inl n) = not_waiting v' l' u (n.0.keeps ∙ ((H u).keeps ∙ needless l u e)) (waits ∙ e)
    quiet_notes_by_cases false e (inr (inr n)) = not_waiting v' l' u (n.keeps ∙ ((H u).keeps ∙ needless l u e)) (waits ∙ e)
    quiet_notes_by_cases true e (inl n) = notes_stay v v' l l' u (same_notes v v' l l' u n.0 (none_new e) waits (swept u) (snapshot u) (frames u) rooted) n.0.marked n.1 (same_whole v v' u (same u) (chunks u e)) (H u)
    quiet_notes_by_cases true e (inr (inr n)) = notes_with v v' l l' u (record { keeps = n.keeps; kept = n.kept; waits = waits; swept = swept u; snapshot = snapshot u; none_new = none_new e; frames = frames u; rooted = rooted }) (same_whole v v' u (same u) (chunks u e)) (λ g. n.marks) (H u)

numbers_root : (v v' : Memory) (l l' : Ledger) (w : ℕ) (a : Addr) (i : ℕ) (k : ℤ) → WritesAt v v' w a (with_int_field i k) → ((z : ℕ) → (heap_of l' z).worker ≡ (heap_of l z).worker) → (u : ℕ) (b : Addr) → IsRememberedRoot v l u b → IsRememberedRoot v' l' u b
numbers_root v v' l l' w a i k C rest u b r =
    root_by v v' l l' u (C.noted u) (λ c o. C.owner c ∙ o) b r (rest r.task ∙ r.rests) (one r.object)
    (subst (λ ks. In (objects_of_chunks ks) (one r.object)) (sym (C.chunks r.task)) (to_mapped one (number_name a i k) (number_at a i k) (v.belongings r.task).chunks r.object r.there)) (number_at a i k r.object) (ap (λ rs. slice_get rs r.source.field) (number_refs a i k r.object) ∙ r.holds)
  where
    one : Located → Located
    one q = put_at a (with_int_field i k) q

pub numbers_note : (v v' : Memory) (l l' : Ledger) (t : ℕ) (x : Task) (n : Name) (y : Object) (o w i : ℕ) (f : CallFrame) (fs : List CallFrame) (a : Addr) → StoresNumber l l' t x n y o w i → StoresNumberAt v v' t f fs a w i → OthersNotes v v' t → AllNoted v l → AllNoted v' l'
numbers_note v v' l l' t x n y o w i f fs a L C N H u = elim (cases_eq u t) [
  | inl e ↦ subst (NotedAt v' l') (sym e) (not_waiting v' l' t N.none (L.writes.tree.waits t ∙ runs_idle x L.task L.runs))
  | inr nt ↦
      let heap = L.writes.heaps u in
      notes_stay v v' l l' u (same_notes v v' l l' u (N.others u nt) (λ k g. sym (C.writes.owner k) ∙ g) (L.writes.tree.waits u) (ap (λ (z : Heap). z.swept) heap) (ap (λ (z : Heap). z.snapshot) heap)
      (C.writes.frames u nt) (numbers_root v v' l l' t a i _ C.writes (λ z. ap (λ (k : Heap). k.worker) (L.writes.heaps z)) u)) (N.others u nt).marked (ap (λ (z : Heap). z.marked) heap)
      (numbers_whole v v' t a i _ u C.writes) (H u)
]

pub stores_note : (v v' : Memory) (l l' : Ledger) (t : ℕ) (x : Task) (n : Name) (y : Object) (o w i : ℕ) (c : Option (ℕ × ℤ)) (f : CallFrame) (fs : List CallFrame) (a : Addr) → SoundLedger l → MemoryStands v l → Rests l t
    → StoresOne l l' t x n y o w i c → StoresAt v v' l t f fs a w i c → ref_of f o ≡ Some a → StoresNotes v v' t a i → AllNoted v l → AllNoted v' l'
stores_note v v' l l' t x n y o w i c f fs a S V rests L C at_a N H u = elim (cases_eq u t) [
  | inl e ↦ subst (NotedAt v' l') (sym e) (not_waiting v' l' t N.none (L.writes.tree.waits t ∙ runs_idle x L.task L.runs))
  | inr nt ↦ stores_note_by_cases nt (is_waiting (slice_get l.machine.tasks u)) refl ((v.noted u).keeps) refl
]
  where
    stores_note_by_cases : (u ≡ t → ⊥) → (b : Bool) → is_waiting (slice_get l.machine.tasks u) ≡ b → (k : Bool) → (v.noted u).keeps ≡ k → NotedAt v' l' u
    stores_note_by_cases nt true e true k =
        store_notes v v' l l' t x n y o w i c f fs a S V rests L C at_a u e (N.keeps u nt) (ap (λ (z : Heap). z.swept) (L.writes.heaps u)) (N.each u nt k) (H u)
    stores_note_by_cases nt true e false k = no_notes v' l' u (record {
      keeps = N.keeps u nt ∙ k;
      needless = ap₂ (λ a b. a && not b) (L.writes.tree.waits u) (ap (λ (z : Heap). z.swept) (L.writes.heaps u)) ∙ (sym (H u).keeps ∙ k);
    })
    stores_note_by_cases nt false e k k' = not_waiting v' l' u (N.keeps u nt ∙ ((H u).keeps ∙ needless l u e)) (L.writes.tree.waits u ∙ e)
