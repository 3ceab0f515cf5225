-- The heaps of a join, written in place.
use Rattle.ledger_heaps.proofs.Common.{◌≡◌, ℕ, ◌+◌, ◌<◌, List, Option, Some, slice_get, slice_set, ap, sym, ◌∙◌, arith, set-set, set_comm, got_other, set_got, Heap, Ledger, emptied, heap_of, merged, or_fresh, with_heap_at, join_heaps, since_at}

module _ (heaps : List Heap) (p a : ℕ) (order : p < a) (hole gap own left right : Heap)
    (at_left : slice_get heaps a ≡ Some left)
    (at_right : slice_get (slice_set heaps a hole) (a + 1) ≡ Some right)
    (at_own : slice_get (slice_set (slice_set heaps a hole) (a + 1) gap) p ≡ Some own) where
  right_at : slice_get heaps (a + 1) ≡ Some right
  right_at = sym (got_other heaps a (a + 1) hole (λ e. omega arith)) ∙ at_right

  own_at : slice_get heaps p ≡ Some own
  own_at = sym (got_other heaps a p hole (λ e. omega arith)) ∙ (sym (got_other (slice_set heaps a hole) (a + 1) p gap (λ e. omega arith)) ∙ at_own)

  pub join_since : own.since + left.since + right.since ≡ since_at heaps p + since_at heaps a + since_at heaps (a + 1)
  join_since =
      let x = ap (λ (o : Option Heap). (or_fresh o).since) own_at in
      let y = ap (λ (o : Option Heap). (or_fresh o).since) at_left in
      let z = ap (λ (o : Option Heap). (or_fresh o).since) right_at in
      omega arith

  -- temporary values are gone
  written : (m l r : Heap)
      → slice_set (slice_set (slice_set (slice_set (slice_set heaps a hole) (a + 1) gap) p m) a l) (a + 1) r ≡ slice_set (slice_set (slice_set heaps p m) a l) (a + 1) r
  written m l r =
      let into : slice_set (slice_set (slice_set heaps a hole) (a + 1) gap) p m ≡ slice_set (slice_set (slice_set heaps p m) a hole) (a + 1) gap =
      set_comm (slice_set heaps a hole) (a + 1) p gap m (λ e. omega arith) ∙ ap (λ hs. slice_set hs (a + 1) gap) (set_comm heaps a p hole m (λ e. omega arith)) in
      let H = slice_set heaps p m in
      ap (λ hs. slice_set (slice_set hs a l) (a + 1) r) into
      ∙ ap (λ hs. slice_set hs (a + 1) r) (set_comm (slice_set H a hole) (a + 1) a gap l (λ e. omega arith) ∙ ap (λ hs. slice_set hs (a + 1) gap) (set-set H a hole l))
      ∙ set-set (slice_set H a l) (a + 1) gap r

  pub join_undone : (m l r : Heap) → m ≡ own → l ≡ left → r ≡ right → slice_set (slice_set (slice_set (slice_set (slice_set heaps a hole) (a + 1) gap) p m) a l) (a + 1) r ≡ heaps
  join_undone m l r e f g =
      written m l r
      ∙ (λ i. slice_set (slice_set (slice_set heaps p (e i)) a (f i)) (a + 1) (g i))
      ∙ ap (λ hs. slice_set (slice_set hs a left) (a + 1) right) (set_got heaps p own own_at)
      ∙ ap (λ hs. slice_set hs (a + 1) right) (set_got heaps a left at_left)
      ∙ set_got heaps (a + 1) right right_at

  module _ (l : Ledger) (same : l.heaps ≡ heaps) where
    abbrev to_merged : Heap → Heap
    to_merged h = merged h (heap_of l a) (heap_of l (a + 1))

    abbrev with_heaps : List Heap → Ledger
    with_heaps hs = record l { heaps = hs }

    merged_is : to_merged own ≡ merged own left right
    merged_is = λ i. merged own (or_fresh ((ap (λ hs. slice_get hs a) same ∙ at_left) i)) (or_fresh ((ap (λ hs. slice_get hs (a + 1)) same ∙ right_at) i))

    first : with_heap_at l p to_merged (slice_get l.heaps p) ≡ with_heaps (slice_set heaps p (merged own left right))
    first = ap (with_heap_at l p to_merged) (ap (λ hs. slice_get hs p) same ∙ own_at) ∙ (λ i. with_heaps (slice_set (same i) p (merged_is i)))

    emptied_at : (hs : List Heap) (t : ℕ) (h : Heap) → slice_get hs t ≡ Some h → with_heap_at (with_heaps hs) t emptied (slice_get hs t) ≡ with_heaps (slice_set hs t (emptied h))
    emptied_at hs t h e = ap (with_heap_at (with_heaps hs) t emptied) e

    pub join_done : (m x y : Heap) → m ≡ merged own left right → x ≡ emptied left → y ≡ emptied right
        → join_heaps l p a ≡ with_heaps (slice_set (slice_set (slice_set (slice_set (slice_set heaps a hole) (a + 1) gap) p m) a x) (a + 1) y)
    join_done m x y e f g =
        let H : List Heap = slice_set heaps p (merged own left right) in
        let K : List Heap = slice_set H a (emptied left) in
        let l1 : slice_get H a ≡ Some left = got_other heaps p a (merged own left right) (λ q. omega arith) ∙ at_left in
        let r1 : slice_get K (a + 1) ≡ Some right =
        got_other H a (a + 1) (emptied left) (λ q. omega arith) ∙ (got_other heaps p (a + 1) (merged own left right) (λ q. omega arith) ∙ right_at) in
        ap (λ (k : Ledger). with_heap_at (with_heap_at k a emptied (slice_get k.heaps a)) (a + 1) emptied (slice_get (with_heap_at k a emptied (slice_get k.heaps a)).heaps (a + 1))) first
        ∙ ap (λ (k : Ledger). with_heap_at k (a + 1) emptied (slice_get k.heaps (a + 1))) (emptied_at H a left l1)
        ∙ emptied_at K (a + 1) right r1
        ∙ (λ i. with_heaps (slice_set (slice_set (slice_set heaps p (sym e i)) a (sym f i)) (a + 1) (sym g i)))
        ∙ ap with_heaps (sym (written m x y))
