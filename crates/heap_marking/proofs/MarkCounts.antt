-- How many objects a marking marks, by its account.
use Rattle.heap_marking.proofs.Common.{◌≡◌, ℕ, ◌+◌, ◌-◌, ◌<◌, ◌≤◌, arith, min, Option, Some, None, List, length, slice_get, inl, inr, refl, ap, sym, subst, ◌∙◌, unwrap_or, min-eq_left, min-eq_right, cases_lt, length-take-le, contains_from_in, in_from_contains, in_take, reached_within, Name, Heap, Ledger, heap_of, held_in, left_in, marked_in, or_fresh, with_heap, snapshots_are_held, Addr, HasObjectAt, RefersTo, Located, distinct_take, MarkingValue, marked_of, IsInSnapshot, MarkStarts, Rests, heap_then, with_at, In, Memory, object_name, objects, CanGoOnMarking, MarkedBy, kept, StandsFor, all_marked, few_marked, accounts, tree_counts_of, value_of, stands_now, MarksCount}
use Rattle.heap_marking.proofs.MarkBegun as begun
use Rattle.heap_marking.proofs.MarkingGoesOn.{is_since}

-- what is marked is in the snapshot
marked_each : (v : Memory) (t : ℕ) (names : List Name) (m : MarkingValue) → CanGoOnMarking v t names m → (a : Addr) → In (marked_of m) a → (q : Located) × In (objects v t) q × (q.at ≡ a) × In names (object_name q)
marked_each v t names m G a i =
    let reached = G.marks.each a (contains_from_in m.found a (in_take m.marked m.found a i)) in
    let held : HasObjectAt G.fork.heap a = reached_within (MarkStarts G.fork (kept v t)) (RefersTo G.fork.heap) (HasObjectAt G.fork.heap) (λ x s. s.0) (λ b x h d. d.1) a reached in
    let o = G.were a held in
    (o.0, o.1, o.2, (G.snapshot o.0 o.1).0 (subst (IsInSnapshot G.fork (kept v t)) (sym o.2) reached))

counted_by : (k n a s b : ℕ) → b ≡ a + k → k ≤ n → b ≤ s → (k < n → s ≤ b) → k ≡ min n (s - a)
counted_by k n a s b sum most few all = elim (cases_lt k n) [
  | inl lt ↦
      let le : s ≤ b = all lt in
      let is : s - a ≡ k = omega (arith, sum, few, le) in
      let few_left : s - a ≤ n = omega (arith, is, lt) in
      sym (min-eq_right {n = s - a} {m = n} few_left ∙ is)
  | inr le ↦
      let is : k ≡ n = omega (arith, le, most) in
      let more_left : n ≤ s - a = omega (arith, sum, few, is) in
      is ∙ sym (min-eq_left {n = n} {m = s - a} more_left)
]

pub marks_count : MarksCount
marks_count w k t r m m' n c I on there wait keeps at G' sum most last =
    let l : Ledger = accounts w in
    let v : Memory = value_of w in
    let S : StandsFor v (tree_counts_of w) l = stands_now w I on in
    let rests : Rests l t = begun.waiting_rests w I on t wait in
    let M : MarkedBy v l t (Some m) = subst (MarkedBy v l t) at (S.marks t keeps) in
    let G : CanGoOnMarking v t (heap_of l t).snapshot m = M.1 in
    let F = snapshots_are_held w.program w.settings w.journal.items t I.legal wait in
    let each = marked_each v t (heap_of l t).snapshot m' G' in
    let long : length (marked_of m) ≡ m.marked = length-take-le m.marked m.found G.marked in
    let long' : length (marked_of m') ≡ m'.marked = length-take-le m'.marked m'.found G'.marked in
    let few : length (marked_of m') ≤ length (heap_of l t).snapshot = few_marked v l t (marked_of m') S.belongings rests each (distinct_take m'.marked m'.found G'.once) in
    let all : c < n → length (heap_of l t).snapshot ≤ length (marked_of m') = λ lt.
    all_marked v l t (marked_of m') S.belongings rests each F.once (λ x i. in_from_contains (held_in (heap_of l t)) x (F.held x (contains_from_in (heap_of l t).snapshot x i)))
    (λ q i j. in_from_contains (marked_of m') q.at (last lt G.fork (is_since w I on t r there wait keeps m G) G.marks q.at ((G.snapshot q i).1 j))) in
    let marked : marked_in (heap_of l t) ≡ length (marked_of m) = ap (λ (o : Option ℕ). unwrap_or o 0) M.0.count in
    let so : c ≡ min n (length (heap_of l t).snapshot - m.marked) = counted_by c n m.marked (length (heap_of l t).snapshot) m'.marked sum most (omega (arith, few, long')) (λ lt. let le = all lt in omega (arith, le, long')) in
    let is : c ≡ min n (left_in (heap_of l t)) = so ∙ ap (λ x. min n (length (heap_of l t).snapshot - x)) (sym long ∙ sym marked) in
    let f : Heap → Heap = λ h. record h { marked = Some (marked_in h + min n (left_in h)) } in
    let then_ : (heap_of (with_heap l t f) t).marked ≡ Some (marked_in (heap_of l t) + min n (left_in (heap_of l t))) = then_is l t f (length (marked_of m)) M.0.count in
    (is, then_ ∙ ap Some (let e : marked_in (heap_of l t) + min n (left_in (heap_of l t)) ≡ length (marked_of m') = sum_is (marked_in (heap_of l t)) (min n (left_in (heap_of l t))) c m.marked m'.marked (length (marked_of m')) (marked ∙ long) is sum long' in e))
  where
    sum_is : (a b c d e g : ℕ) → a ≡ d → c ≡ b → e ≡ d + c → g ≡ e → a + b ≡ g
    sum_is a b c d e g p q r s = omega (arith, p, q, r, s)

    then_is : (l : Ledger) (t : ℕ) (f : Heap → Heap) (x : ℕ) → (heap_of l t).marked ≡ Some x → (heap_of (with_heap l t f) t).marked ≡ (f (heap_of l t)).marked
    then_is l t f x some = then_is_by_cases (slice_get l.heaps t) refl
      where
        none_some : {A : Type 0} → ◌≡◌ {A = Option ℕ} None (Some x) → A
        none_some q = absurd cc

        then_is_by_cases : (o : Option Heap) → slice_get l.heaps t ≡ o → (heap_of (with_heap l t f) t).marked ≡ (f (heap_of l t)).marked
        then_is_by_cases None e = none_some (sym (ap (λ o. (or_fresh o).marked) e) ∙ some)
        then_is_by_cases (Some h) e = ap (λ o. (or_fresh o).marked) (with_at l t f ∙ ap (heap_then f) e) ∙ sym (ap (λ o. (f (or_fresh o)).marked) e)
