-- One step of a task, put together from its parts.
use Rattle.run_accounts.proofs.Common.{◌≡◌, ℕ, ◌+◌, ◌<◌, ◌≤◌, ◌^◌, ◌==◌, not, Bool, true, false, cond, List, [], ◌∷◌, ◌++◌, Option, Some, None, slice_get, slice_set, inl, inr, refl, ap, ap₂, sym, subst, ◌∙◌, arith, nat_lt, false≢true, cases_eq, eqb-true, leb-true, cond-true, not-false, same_Some, In, got_same, got_other, got_front, got_within, contains_from_in, in_from_contains, ProgramText, Name, Task, MachineState, End, TaskStatus, Running, Waiting, Ended, Joined, step, can_step, asked, is_joined, is_waiting, Heap, Ledger, heap_of, or_fresh, heap_at, fresh, with_heap, with_heap_at, held_in, in_use, with_allocation, is_small_size, lacks_room, units, units_in, within, forked_heap, allocated_in, allocated_by, task_step, settled, moved_to, moved_on, at_fork, is_in_need, on_asked, heap_machine, placed_since, AreOwned, AccountsValue, Steady, ChildrenArePaired, Forks, large_by, next_large, used_by, used_after, went_on}
use Rattle.run_accounts.proofs.Snaps.{settled_paired}

pub allocated_machine : (l : Ledger) (t : ℕ) (o : Option ℕ) → (allocated_by l t o).machine ≡ l.machine
allocated_machine l t None = refl
allocated_machine l t (Some w) = heap_machine l t _

-- the machine's step after an allocation
abbrev pub advanced : ProgramText → Ledger → ℕ → Ledger
advanced p b t = record b { machine = step p b.machine t; steps = b.steps + 1 }

pub step_is : (p : ProgramText) (l : Ledger) (t : ℕ) → can_step l.machine t ≡ true
    → let k = advanced p (allocated_in p l t) t in settled k t k.machine.end ≡ task_step p l t
step_is p l t can =
    let m = allocated_machine l t (asked p l.machine t) in
    ap (λ (s : MachineState). settled (record (allocated_in p l t) { machine = step p s t; steps = (allocated_in p l t).steps + 1 }) t (step p s t).end) m
    ∙ sym (cond-true (can_step l.machine t) _ _ can)

-- the parts of a step, one after the other
pub steps_by : (s s1 s2 s3 s4 : AccountsValue) (t : ℕ) → can_step s.ledger.machine t ≡ true → s.used ≡ in_use s.ledger → used_after s.program s.ledger t ≡ in_use (task_step s.program s.ledger t)
    → s1 ≡ record s { ledger = allocated_in s.program s.ledger t }
    → s2 ≡ record s1 { ledger = advanced s1.program s1.ledger t }
    → s3 ≡ record s2 { used = used_by s2.used (heap_of s.ledger t).reserved s2.ledger.machine (next_large s.program s.ledger t) }
    → s4 ≡ record s3 { ledger = settled s3.ledger t s3.ledger.machine.end }
    → s4 ≡ went_on s (task_step s.program s.ledger t)
steps_by s s1 s2 s3 s4 t can used next e1 e2 e3 e4 =
    let r : ℕ = (heap_of s.ledger t).reserved in
    let n : Option Name = next_large s.program s.ledger t in
    e4 ∙ (ap (λ (k : AccountsValue). record k { ledger = settled k.ledger t k.ledger.machine.end })
    (e3 ∙ ap (λ (k : AccountsValue). record k { used = used_by k.used r k.ledger.machine n }) (e2 ∙ ap (λ (k : AccountsValue). record k { ledger = advanced k.program k.ledger t }) e1))
    ∙ (ap (λ (l : Ledger). record s { ledger = l; used = used_by s.used r (step s.program (allocated_in s.program s.ledger t).machine t) n }) (step_is s.program s.ledger t can)
    ∙ ap (λ (u : ℕ). record s { ledger = task_step s.program s.ledger t; used = u })
    (ap₂ (λ u m. used_by u r (step s.program m t) n) used (allocated_machine s.ledger t (asked s.program s.ledger.machine t)) ∙ (sym (cond-true (can_step s.ledger.machine t) _ _ can) ∙ next))))

-- a step that doesn't allocate keeps the count of the chunks
pub allocates_nothing : (s : AccountsValue) (t : ℕ) → asked s.program s.ledger.machine t ≡ None → s ≡ record s { ledger = allocated_in s.program s.ledger t }
allocates_nothing s t e = ap (λ (o : Option ℕ). record s { ledger = allocated_by s.ledger t o }) (sym e)

pub counts_nothing : (s k : AccountsValue) (t r : ℕ) → asked s.program s.ledger.machine t ≡ None → k ≡ record k { used = used_by k.used r k.ledger.machine (next_large s.program s.ledger t) }
counts_nothing s k t r e = ap (λ (o : Option ℕ). record k { used = used_by k.used r k.ledger.machine (large_by s.ledger t o) }) (sym e)

-- WORDS SINCE THE LAST COLLECTION

-- what has room is no larger than a chunk, or than the chunk reserved for it
pub small_enough : (h : Heap) (w : ℕ) (b : Bool) → is_small_size w ≡ b → cond b (nat_lt h.room w) (not (h.reserved == units w)) ≡ false → h.reserved < 2 ^ 20 → w < 2 ^ 31
small_enough h w true is e few = let le : w ≤ 1024 = leb-true w 1024 is in omega arith
small_enough h w false is e few =
    let r : h.reserved ≡ units w = eqb-true h.reserved (units w) (not-false (h.reserved == units w) e) in
    omega arith

module _ (l : Ledger) (t : ℕ) (S : Steady l) where
  at_heap : (w : ℕ) (o : Option Heap) → heap_at l t ≡ o → lacks_room (or_fresh o) w ≡ false → (f : Heap → Heap) → ((h : Heap) → (f h).since ≡ h.since + w)
      → (u : ℕ) → (heap_of (with_heap_at l t f o) u).since < 2 ^ 62
  at_heap w None e lacks f is u = let a = S.since u in omega arith
  at_heap w (Some h) e lacks f is u = elim (cases_eq u t) [
    | inl same ↦
        let a : heap_of (with_heap_at l t f (Some h)) u ≡ f h = ap or_fresh (ap (slice_get (slice_set l.heaps t (f h))) same ∙ got_same l.heaps t h (f h) e) in
        let b : (heap_of l t).since < 2 ^ 61 = S.since t in
        let b' : units_in l.machine (heap_of l t) < 2 ^ 20 = S.units t in
        let c : (heap_of l t).since ≡ h.since = ap (λ o. (or_fresh o).since) e in
        let c' : (heap_of l t).reserved ≡ h.reserved = ap (λ o. (or_fresh o).reserved) e in
        let r : h.reserved < 2 ^ 20 = omega arith in
        let d = small_enough h w (is_small_size w) refl lacks r in
        let f' = is h in
        let g : (heap_of (with_heap_at l t f (Some h)) u).since ≡ (f h).since = ap (λ (q : Heap). q.since) a in
        omega arith
    | inr ne ↦
        let a : heap_of (with_heap_at l t f (Some h)) u ≡ heap_of l u = ap or_fresh (got_other l.heaps t u (f h) ne) in
        let b = S.since u in
        let c : (heap_of (with_heap_at l t f (Some h)) u).since ≡ (heap_of l u).since = ap (λ (q : Heap). q.since) a in
        omega arith
  ]

  since_by : (o : Option ℕ) → on_asked o (lacks_room (heap_of l t)) ≡ false → (u : ℕ) → (heap_of (allocated_by l t o) u).since < 2 ^ 62
  since_by None e u = let a = S.since u in omega arith
  since_by (Some w) e u = at_heap w (heap_at l t) refl e (λ h. with_allocation h _ w) (λ h. placed_since h _ w) u

pub since_few : (p : ProgramText) (l : Ledger) (t : ℕ) → Steady l → is_in_need p l t ≡ false → (s s1 s2 s3 : AccountsValue) (used : ℕ) → s.program ≡ p → s.ledger ≡ l
    → s1 ≡ record s { ledger = allocated_in s.program s.ledger t } → s2 ≡ record s1 { ledger = advanced s1.program s1.ledger t } → s3 ≡ record s2 { used = used }
    → (u : ℕ) → (heap_of s3.ledger u).since < 2 ^ 62
since_few p l t S need s s1 s2 s3 used ep el e1 e2 e3 u =
    let same : s3.ledger.heaps ≡ (allocated_in p l t).heaps =
    ap (λ (k : AccountsValue). k.ledger.heaps) (e3 ∙ ap (λ (k : AccountsValue). record k { used = used }) e2) ∙ (ap (λ (k : AccountsValue). k.ledger.heaps) e1 ∙ ap₂ (λ q k. (allocated_in q k t).heaps) ep el) in
    let h = since_by l t S (asked p l.machine t) need u in
    let e : (heap_of s3.ledger u).since ≡ (heap_of (allocated_in p l t) u).since = ap (λ hs. (or_fresh (slice_get hs u)).since) same in
    omega arith

-- OWNERS

module _ (k : Ledger) (t : ℕ) where
  in_fork : (h : Heap) (names : List Name) (u : ℕ) (n : Name) (g : Option Heap) → slice_get k.heaps u ≡ g → In (held_in (or_fresh g)) n
      → slice_get (k.heaps ++ fresh ∷ fresh ∷ []) t ≡ Some h → In (held_in (or_fresh (slice_get (slice_set (k.heaps ++ fresh ∷ fresh ∷ []) t (forked_heap names h)) u))) n
  in_fork h names u n None e i at = absurd i
  in_fork h names u n (Some g) e i at = elim (cases_eq u t) [
    | inl same ↦
        let there : slice_get (k.heaps ++ fresh ∷ fresh ∷ []) u ≡ Some g = got_front k.heaps (fresh ∷ fresh ∷ []) u (got_within k.heaps u g e) ∙ e in
        let gh : g ≡ h = same_Some g h (sym there ∙ (ap (slice_get (k.heaps ++ fresh ∷ fresh ∷ [])) same ∙ at)) in
        subst (λ o. In (held_in (or_fresh o)) n)
        (sym (ap (slice_get (slice_set (k.heaps ++ fresh ∷ fresh ∷ []) t (forked_heap names h))) same ∙ got_same (k.heaps ++ fresh ∷ fresh ∷ []) t h (forked_heap names h) at))
        (subst (λ q. In (held_in q) n) gh i)
    | inr ne ↦
        subst (λ o. In (held_in (or_fresh o)) n)
        (sym (got_other (k.heaps ++ fresh ∷ fresh ∷ []) t u (forked_heap names h) ne ∙ (got_front k.heaps (fresh ∷ fresh ∷ []) u (got_within k.heaps u g e) ∙ e))) i
  ]

  fork_by : (names : List Name) (o : Option Heap) → slice_get (k.heaps ++ fresh ∷ fresh ∷ []) t ≡ o
      → let after = with_heap_at (record k { heaps = k.heaps ++ fresh ∷ fresh ∷ [] }) t (forked_heap names) o in
      AreOwned after.machine.tasks after.heaps → AreOwned k.machine.tasks k.heaps
  fork_by names None e owned u n i =
      owned u n (contains_from_in _ n (fork_by_cases (slice_get k.heaps u) refl (in_from_contains _ n i)))
    where
      fork_by_cases : (g : Option Heap) → slice_get k.heaps u ≡ g → In (held_in (or_fresh g)) n → In (held_in (or_fresh (slice_get (k.heaps ++ fresh ∷ fresh ∷ []) u))) n
      fork_by_cases None q i = absurd i
      fork_by_cases (Some g) q i = subst (λ o. In (held_in (or_fresh o)) n) (sym (got_front k.heaps (fresh ∷ fresh ∷ []) u (got_within k.heaps u g q) ∙ q)) i
  fork_by names (Some h) e owned u n i =
      owned u n (contains_from_in _ n (in_fork h names u n (slice_get k.heaps u) refl (in_from_contains _ n i) e))

  moved_owned : (o : Option Task) → is_waiting o ≡ true → AreOwned (moved_to k t o).machine.tasks (moved_to k t o).heaps → AreOwned k.machine.tasks k.heaps
  moved_owned None w owned = absurd (false≢true w)
  moved_owned (Some x) w owned = moved_owned_by_cases x.status w owned
    where
      moved_owned_by_cases : (s : TaskStatus) → is_waiting (Some (record x { status = s })) ≡ true → AreOwned (moved_on k t x.parent s).machine.tasks (moved_on k t x.parent s).heaps → AreOwned k.machine.tasks k.heaps
      moved_owned_by_cases Running w q = q
      moved_owned_by_cases Waiting w q = fork_by (within k t) (slice_get (k.heaps ++ fresh ∷ fresh ∷ []) t) refl q
      moved_owned_by_cases (Ended i r) w q = absurd (false≢true w)
      moved_owned_by_cases Joined w q = absurd (false≢true w)

  pub settled_owned : (e : Option End) → is_waiting (slice_get k.machine.tasks t) ≡ true → AreOwned (settled k t e).machine.tasks (settled k t e).heaps → AreOwned k.machine.tasks k.heaps
  settled_owned None w owned = moved_owned (slice_get k.machine.tasks t) w owned
  settled_owned (Some e) w owned = owned

-- a task that waits has just forked
pub settled_fork : (l : Ledger) (t : ℕ) → l.machine.end ≡ None → is_waiting (slice_get l.machine.tasks t) ≡ true → at_fork l t ≡ settled l t l.machine.end
settled_fork l t e w = settled_fork_by_cases (slice_get l.machine.tasks t) w ∙ sym (ap (settled l t) e)
  where
    settled_fork_at : (x : Task) (s : TaskStatus) → is_waiting (Some (record x { status = s })) ≡ true → at_fork l t ≡ moved_on l t x.parent s
    settled_fork_at x Running w = absurd (false≢true w)
    settled_fork_at x Waiting w = refl
    settled_fork_at x (Ended k n) w = absurd (false≢true w)
    settled_fork_at x Joined w = absurd (false≢true w)

    settled_fork_by_cases : (o : Option Task) → is_waiting o ≡ true → at_fork l t ≡ moved_to l t o
    settled_fork_by_cases None w = absurd (false≢true w)
    settled_fork_by_cases (Some x) w = settled_fork_at x x.status w

pub stepped_owned : (s s1 s2 s3 : AccountsValue) (t used : ℕ) → can_step s.ledger.machine t ≡ true
    → s1 ≡ record s { ledger = allocated_in s.program s.ledger t } → s2 ≡ record s1 { ledger = advanced s1.program s1.ledger t } → s3 ≡ record s2 { used = used }
    → Steady (task_step s.program s.ledger t) → is_waiting (slice_get s3.ledger.machine.tasks t) ≡ true → AreOwned s3.ledger.machine.tasks s3.ledger.heaps
stepped_owned s s1 s2 s3 t used can e1 e2 e3 S w =
    let k = advanced s.program (allocated_in s.program s.ledger t) t in
    let same : s3.ledger ≡ k = ap (λ (q : AccountsValue). q.ledger) (e3 ∙ ap (λ (q : AccountsValue). record q { used = used }) (e2 ∙ ap (λ (q : AccountsValue). record q { ledger = advanced q.program q.ledger t }) e1)) in
    subst (λ (q : Ledger). AreOwned q.machine.tasks q.heaps) (sym same)
    (settled_owned k t k.machine.end (ap (λ (q : Ledger). is_waiting (slice_get q.machine.tasks t)) (sym same) ∙ w)
    (subst (λ (q : Ledger). AreOwned q.machine.tasks q.heaps) (sym (step_is s.program s.ledger t can)) S.owned))

pub stepped_paired : (s s1 s2 s3 : AccountsValue) (t used : ℕ) → can_step s.ledger.machine t ≡ true
    → s1 ≡ record s { ledger = allocated_in s.program s.ledger t } → s2 ≡ record s1 { ledger = advanced s1.program s1.ledger t } → s3 ≡ record s2 { used = used }
    → Steady (task_step s.program s.ledger t) → is_joined (slice_get s3.ledger.machine.tasks t) ≡ true → ChildrenArePaired s3.ledger
stepped_paired s s1 s2 s3 t used can e1 e2 e3 S j =
    let k = advanced s.program (allocated_in s.program s.ledger t) t in
    let same : s3.ledger ≡ k = ap (λ (q : AccountsValue). q.ledger) (e3 ∙ ap (λ (q : AccountsValue). record q { used = used }) (e2 ∙ ap (λ (q : AccountsValue). record q { ledger = advanced q.program q.ledger t }) e1)) in
    subst ChildrenArePaired (sym same)
    (settled_paired k t k.machine.end (ap (λ (q : Ledger). is_joined (slice_get q.machine.tasks t)) (sym same) ∙ j)
    (subst ChildrenArePaired (sym (step_is s.program s.ledger t can)) S.paired))

-- a fork, by what is computed for it
pub fork_is : (v s : AccountsValue) → v ≡ s → (t : ℕ) (m : MachineState) → m ≡ v.ledger.machine → (names : List Name)
    → names ≡ within (record { machine = m; heaps = v.ledger.heaps; steps = 0; end = None }) t → (heaps : List Heap) → Forks v.ledger.heaps heaps t names
    → record v { ledger = record v.ledger { heaps = heaps } } ≡ record s { ledger = at_fork s.ledger t }
fork_is v s e t m em names en heaps f =
    let same : names ≡ within v.ledger t = en ∙ ap (λ (q : MachineState). within (record { machine = q; heaps = v.ledger.heaps; steps = 0; end = None }) t) em in
    ap (λ (l : Ledger). record v { ledger = l })
    (sym (f v.ledger refl) ∙ ap (λ ns. with_heap (record v.ledger { heaps = v.ledger.heaps ++ fresh ∷ fresh ∷ [] }) t (forked_heap ns)) same)
    ∙ ap (λ (q : AccountsValue). record q { ledger = at_fork q.ledger t }) e
