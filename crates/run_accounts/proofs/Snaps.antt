-- How long snapshots are, and the positions of the children of a task.
use Rattle.run_accounts.proofs.Common.{◌≡◌, ℕ, zero, suc, ◌+◌, ◌-◌, ◌<◌, ◌≤◌, ◌||◌, Bool, true, false, cond, Option, Some, None, List, [], ◌∷◌, ◌++◌, length, slice_get, slice_set, filter, sum_by, inl, inr, refl, ap, ◌∙◌, arith, length-set, false≢true, cases_eq, sum_by-cons, list_any, got_same, got_other, Name, Object, Task, End, TaskStatus, Running, Waiting, Ended, Joined, refs_at, is_left, is_joined, sibling, Heap, Ledger, holds_name, reached_by, fresh, heap_at, heap_of, or_fresh, with_heap, with_heap_at, held_in, roots_of, within, put_last, is_small_size, forked_heap, emptied, let_go, allocated_by, at_fork, at_join, join_heaps, moved_on, moved_to, settled, SoundLedger, weight, total, kept_weight, with_heap_any, ChildrenArePaired}
use Rattle.run_accounts.proofs.Uses.{one_of}

-- SNAPSHOTS

abbrev pub one_each : Name → ℕ
one_each n = 1

count_is : (ns : List Name) → sum_by one_each ns ≡ length ns
count_is [] = refl
count_is (n ∷ ns) = let a = sum_by-cons one_each n ns in let b = count_is ns in omega arith

kept_few : (test : Name → Bool) (ns : List Name) → length (filter test ns) ≤ length ns
kept_few test ns = let a = kept_weight one_each test ns in let b = count_is (filter test ns) in let c = count_is ns in omega arith

reached_few : (store : List (List Object)) (names roots : List Name) (more : ℕ) → length (reached_by store names roots more) ≤ length names
reached_few store names roots zero = kept_few (holds_name roots) names
reached_few store names roots (suc more) =
    kept_few (λ n. holds_name (reached_by store names roots more) n || list_any (λ m. holds_name (refs_at store m) n) (reached_by store names roots more)) names

-- what is reachable within a heap is no more than all heaps hold
within_few : (l : Ledger) (t : ℕ) → length (within l t) ≤ total (weight one_each) l.heaps
within_few l t =
    let a = reached_few l.machine.store (held_in (heap_of l t)) (roots_of l t) (length (held_in (heap_of l t))) in
    let b = one_of (weight one_each) l.heaps t refl in
    let c = count_is (held_in (heap_of l t)) in
    omega arith

-- no snapshot has more than n names
abbrev pub Snaps : ℕ → Ledger → Type 0
Snaps most l = (u : ℕ) → length (heap_of l u).snapshot ≤ most

pub snaps_set : (most : ℕ) (l : Ledger) (t : ℕ) (f : Heap → Heap) → ((h : Heap) → length h.snapshot ≤ most → length (f h).snapshot ≤ most) → Snaps most l → Snaps most (with_heap l t f)
snaps_set most l t f less I = with_heap_any (Snaps most) l t f I (λ h e u. elim (cases_eq u t) [
  | inl q ↦
      let here : slice_get (slice_set l.heaps t (f h)) u ≡ Some (f h) = ap (slice_get (slice_set l.heaps t (f h))) q ∙ got_same l.heaps t h (f h) e in
      let was : slice_get l.heaps u ≡ Some h = ap (slice_get l.heaps) q ∙ e in
      let a = I u in
      let b : length (heap_of l u).snapshot ≡ length h.snapshot = ap (λ o. length (or_fresh o).snapshot) was in
      let c = less h (omega arith) in
      let d : length (or_fresh (slice_get (slice_set l.heaps t (f h)) u)).snapshot ≡ length (f h).snapshot = ap (λ o. length (or_fresh o).snapshot) here in
      omega arith
  | inr ne ↦
      let a = I u in
      let b : length (or_fresh (slice_get (slice_set l.heaps t (f h)) u)).snapshot ≡ length (heap_of l u).snapshot = ap (λ o. length (or_fresh o).snapshot) (got_other l.heaps t u (f h) ne) in
      omega arith
])

snaps_more : (most : ℕ) (heaps : List Heap) → ((u : ℕ) → length (or_fresh (slice_get heaps u)).snapshot ≤ most) → (u : ℕ) → length (or_fresh (slice_get (heaps ++ fresh ∷ fresh ∷ []) u)).snapshot ≤ most
snaps_more most [] I zero = omega arith
snaps_more most [] I (suc zero) = omega arith
snaps_more most [] I (suc (suc u)) = omega arith
snaps_more most (h ∷ heaps) I zero = I zero
snaps_more most (h ∷ heaps) I (suc u) = snaps_more most heaps (λ v. I (suc v)) u

pub snaps_allocated : (most : ℕ) (l : Ledger) (t : ℕ) (o : Option ℕ) → Snaps most l → Snaps most (allocated_by l t o)
snaps_allocated most l t None I = I
snaps_allocated most l t (Some w) I = snaps_set most l t _ (λ h le. snaps_allocated_by_cases h _ (is_small_size w) le) I
  where
    snaps_allocated_by_cases : (h : Heap) (n : Name) (v : Bool) → length h.snapshot ≤ most
        → length (cond v (record h { chunks = put_last h.chunks n; room = h.room - w; since = h.since + w }) (record h { large = h.large ++ n ∷ []; reserved = 0; since = h.since + w })).snapshot ≤ most
    snaps_allocated_by_cases h n true le = le
    snaps_allocated_by_cases h n false le = le

module _ (most : ℕ) (l : Ledger) (t : ℕ) (few : total (weight one_each) l.heaps ≤ most) (I : Snaps most l) where
  snaps_fork : Snaps most (at_fork l t)
  snaps_fork =
      snaps_set most (record l { heaps = l.heaps ++ fresh ∷ fresh ∷ [] }) t (forked_heap (within l t)) (λ h le. let a = within_few l t in omega arith) (snaps_more most l.heaps I)

  snaps_join : (parent left : ℕ) → Snaps most (join_heaps l parent left)
  snaps_join parent left =
      snaps_set most _ (left + 1) emptied (λ h le. le) (snaps_set most _ left emptied (λ h le. le) (snaps_set most l parent _ (λ h le. le) I))

  snaps_moved : (parent : Option ℕ) (s : TaskStatus) → Snaps most (moved_on l t parent s)
  snaps_moved parent Running = I
  snaps_moved parent Waiting = snaps_fork
  snaps_moved parent (Ended k n) = snaps_set most l t let_go (λ h le. le) I
  snaps_moved None Joined = I
  snaps_moved (Some p) Joined = snaps_join p (cond (is_left t) t (t - 1))

  snaps_to : (o : Option Task) → Snaps most (moved_to l t o)
  snaps_to None = I
  snaps_to (Some x) = snaps_moved x.parent x.status

  pub snaps_settled : (o : Option End) → Snaps most (settled l t o)
  snaps_settled (Some e) = I
  snaps_settled None = snaps_to (slice_get l.machine.tasks t)

-- CHILDREN

pub sound_paired : (l : Ledger) → SoundLedger l → ChildrenArePaired l
sound_paired l S t p e =
    let T = S.fork_join.tree in
    let a = T.low t p e in
    let b = T.low (sibling t) p (T.pairs t p e) in
    let c = T.made t p e in
    let d = T.made (sibling t) p (T.pairs t p e) in
    sound_paired_by_cases (is_left t) a b c d S.lengths
  where
    sound_paired_by_cases : (v : Bool) → p < t → p < cond v (t + 1) (t - 1) → t < length l.machine.tasks → cond v (t + 1) (t - 1) < length l.machine.tasks → length l.heaps ≡ length l.machine.tasks
        → (p < cond v t (t - 1)) × (cond v t (t - 1) + 1 < length l.heaps)
    sound_paired_by_cases true a b c d f = (omega arith, omega arith)
    sound_paired_by_cases false a b c d f = (omega arith, omega arith)

paired_set : (l : Ledger) (t : ℕ) (f : Heap → Heap) → ChildrenArePaired (with_heap l t f) → ChildrenArePaired l
paired_set l t f = paired_set_by_cases (heap_at l t)
  where
    paired_set_by_cases : (o : Option Heap) → ChildrenArePaired (with_heap_at l t f o) → ChildrenArePaired l
    paired_set_by_cases None P = P
    paired_set_by_cases (Some h) P = λ u p e. (let a = P u p e in let b = length-set l.heaps t (f h) in (a.0, omega arith))

module _ (k : Ledger) (t : ℕ) where
  paired_join : (parent : Option ℕ) → ChildrenArePaired (at_join k t parent) → ChildrenArePaired k
  paired_join None P = P
  paired_join (Some p) P = paired_set k p _ (paired_set _ _ emptied (paired_set _ _ emptied P))

  paired_to : (o : Option Task) → is_joined o ≡ true → ChildrenArePaired (moved_to k t o) → ChildrenArePaired k
  paired_to None j P = absurd (false≢true j)
  paired_to (Some x) j P = paired_to_by_cases x.status j P
    where
      paired_to_by_cases : (s : TaskStatus) → is_joined (Some (record x { status = s })) ≡ true → ChildrenArePaired (moved_on k t x.parent s) → ChildrenArePaired k
      paired_to_by_cases Running j Q = Q
      paired_to_by_cases Waiting j Q = absurd (false≢true j)
      paired_to_by_cases (Ended i r) j Q = absurd (false≢true j)
      paired_to_by_cases Joined j Q = paired_join x.parent Q

  -- a task that has joined is one of a pair of children
  pub settled_paired : (o : Option End) → is_joined (slice_get k.machine.tasks t) ≡ true → ChildrenArePaired (settled k t o) → ChildrenArePaired k
  settled_paired None j P = paired_to (slice_get k.machine.tasks t) j P
  settled_paired (Some e) j P = P
