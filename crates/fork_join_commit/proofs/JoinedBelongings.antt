-- A join: the belongings that it merges.
use Rattle.fork_join_commit.proofs.Common.{◌≡◌, ◌⊎◌, ℕ, ℤ, ◌+◌, ◌<◌, ◌^◌, ◌++◌, arith, true, false, Option, Some, None, List, slice_get, inl, inr, refl, ap, sym, subst, ◌∙◌, IsSome, cases_Bool, or_from, same_Some, all_from, in_map, Name, MachineState, Task, result_at, result_of, Ledger, heap_of, Addr, HaveDistinctNumbers, has_chunk, apart_together, has_append, slot_at, LeafHeapValue, Level, FramesValue, Ended, state_of as state_in_tree, AreInUse, Rests, rested, EndsLast, Chunk, Belongings, In, Memory, HasResult, with_belongings, MemoryStands, Private, HasReservedUnits, ParkedTask, Work, Calls, Result, chunk_of, SharedValue, belongings_by, belongings_in, belongings_of, rest_at, HeapForm, chunk_in, by_chunks, owner_held, AreSides, IsRestOf, part_result, work_result}
use Rattle.step_commit.proofs.LastStepEntry as last
use Rattle.fork_join_commit.proofs.ChildReturns as steps
use Rattle.fork_join_commit.proofs.ChildReturns.{AsksEnd}
use Rattle.fork_join_commit.proofs.SetsNoted.{empty_form}
use Rattle.fork_join_commit.proofs.JoinBelongings.{in_has}
use Rattle.fork_join_commit.proofs.JoinTree.{kept_is}
use Rattle.fork_join_commit.proofs.MergedHeapForm.{none_reserved}
use Rattle.fork_join_commit.proofs.SiblingReturned as before

-- what joins: the parked states of the parent and the sibling, the number of the left child, and the heap and the
-- result of each
pub record JoiningTwo (w : SharedValue) (k : ℕ) (p : Private) (asks : AsksEnd w k p) : Type 0 where
  pub above : ParkedTask
  pub beside : ParkedTask
  pub frames : FramesValue
  pub above_is : rest_at w.rests (steps.parent asks) ≡ Some above
  pub calls : above.work ≡ Calls frames
  pub beside_is : IsRestOf (rest_at w.rests (steps.other asks)) beside
  pub c : ℕ
  pub lh : LeafHeapValue
  pub rh : LeafHeapValue
  pub al : ℤ × Option Addr
  pub ar : ℤ × Option Addr
  pub side : AreSides p (steps.other asks) beside c lh rh al ar

module _ {w : SharedValue} {k : ℕ} {p : Private} (asks : AsksEnd w k p) (ended : state_in_tree w.tree (steps.other asks) ≡ Some Ended) where
  open asks use {I, F}
  open (last.names (steps.asked asks)) use {t, M, L, v, h, S}

  abbrev R : Ledger
  R = rested M t

  abbrev vt : Memory
  vt = with_belongings v t h

  abbrev x : Task
  x = S.task

  abbrev pub q : ℕ
  q = steps.parent asks

  abbrev pub s : ℕ
  s = steps.other asks

  abbrev W : MemoryStands vt R
  W = before.W asks ended

  abbrev Q : EndsLast M L t x
  Q = before.Q asks ended

  abbrev pub HasBelongings : ℕ → LeafHeapValue → Type 0
  HasBelongings u g = (n : ℕ) × (z : Work) × (view : List Level) × (vt.belongings u ≡ belongings_by g view n z)

  owner_at : (u : ℕ) (g : LeafHeapValue) → HasBelongings u g → Rests R u → (n : ℕ) → has_chunk g.chunks n ≡ true → v.owner n ≡ Some u
  owner_at u g e rests n has =
      let y = chunk_in g.chunks n has in
      ap v.owner (sym y.2) ∙ (W.belongings u rests).owned (chunk_of y.0) (subst (λ (ks : List Chunk). In ks (chunk_of y.0)) (sym (ap (λ (i : Belongings). i.chunks) e.3 ∙ by_chunks g e.2 e.0 e.1)) (in_map chunk_of g.chunks y.0 y.1))

  -- no two heaps have a chunk of one number
  heaps_apart : (u z : ℕ) (a b : LeafHeapValue) → HasBelongings u a → HasBelongings z b → Rests R u → Rests R z → (u ≡ z → ⊥) → (n : ℕ) → has_chunk a.chunks n ≡ true → has_chunk b.chunks n ≡ false
  heaps_apart u z a b ea eb ru rz ne n has = elim (cases_Bool (has_chunk b.chunks n)) [
    | inl there ↦ absurd (ne (same_Some u z (sym (owner_at u a ea ru n has) ∙ owner_at z b eb rz n there)))
    | inr out ↦ out
  ]

  by_result : (g : LeafHeapValue) (view : List Level) (n : ℕ) (z : Work) → (belongings_by g view n z).result ≡ work_result z
  by_result g view n (Calls f) = refl
  by_result g view n (Result i a) = refl

  module _ (two : JoiningTwo w k p asks) where
    open two use {above, beside, frames, above_is, calls, beside_is, c, lh, rh, al, ar, side}

    pub belongings_above : vt.belongings q ≡ belongings_by above.heap above.view above.allocations (Calls frames)
    belongings_above = before.off asks ended q (steps.parent_apart asks) ∙ (ap belongings_in above_is ∙ ap (belongings_by above.heap above.view above.allocations) calls)

    beside_belongings : (o : Option ParkedTask) → IsRestOf o beside → belongings_in o ≡ belongings_of beside
    beside_belongings None e = ap belongings_of (sym e.2)
    beside_belongings (Some z) e = ap belongings_of (sym e)

    pub belongings_beside : vt.belongings s ≡ belongings_by beside.heap beside.view beside.allocations beside.work
    belongings_beside = before.off asks ended s (steps.other_apart asks) ∙ beside_belongings (rest_at w.rests s) beside_is

    beside_form : (o : Option ParkedTask) → rest_at w.rests s ≡ o → IsRestOf o beside → HeapForm beside.heap
    beside_form None f e = subst (λ (z : ParkedTask). HeapForm z.heap) (sym e.2) (empty_form e.0 e.1)
    beside_form (Some z) f e = subst (λ (z : ParkedTask). HeapForm z.heap) (sym e) (I.heaps s z f)

    other_form : HeapForm beside.heap
    other_form = beside_form (rest_at w.rests s) refl beside_is

    pub above_form : HeapForm above.heap
    above_form = I.heaps q above above_is

    pub left_is : Q.left ≡ c
    left_is = left_is_by_cases (before.which asks ended) side
      where
        left_is_by_cases : (before.Which asks ended) → AreSides p s beside c lh rh al ar → Q.left ≡ c
        left_is_by_cases (inl z) (inl m) = sym z.0 ∙ m.0
        left_is_by_cases (inl z) (inr m) = let a = z.0 in let b = z.1 in let e = m.0 in let f = m.1 in absurd (omega (arith, a, b, e, f))
        left_is_by_cases (inr z) (inl m) = let a = z.0 in let b = z.1 in let e = m.0 in let f = m.1 in absurd (omega (arith, a, b, e, f))
        left_is_by_cases (inr z) (inr m) = sym z.1 ∙ m.0

    own_has : (o : ℤ × Option Name) → o ≡ result_of x.top → HasResult vt R t o (part_result p)
    own_has o e = inr (record {
      task = x;
      is = ap (λ (m : MachineState). slice_get m.tasks t) (before.machine_rests asks ended) ∙ S.at.task;
      runs = S.at.runs;
      returns = e;
      frame = p.frames.top;
      below = p.frames.below;
      frames = ap (λ (i : Belongings). i.frames) (before.own_belongings asks ended);
      result = refl;
    })

    other_has : (o : ℤ × Option Name) → result_at (slice_get M.machine.tasks s) ≡ Some o → HasResult vt R s o (work_result beside.work)
    other_has o e =
        let z = kept_is (slice_get M.machine.tasks s) o e in
        inl (record {
          task = z.0;
          is = ap (λ (m : MachineState). slice_get m.tasks s) (before.machine_rests asks ended) ∙ z.1;
          ended = z.2;
          result = ap (λ (i : Belongings). i.result) belongings_beside ∙ by_result beside.heap beside.view beside.allocations beside.work;
        })

    pub results : HasResult vt R Q.left Q.left_result al × HasResult vt R (Q.left + 1) Q.right_result ar
    results = results_by_cases (before.which asks ended) side
      where
        results_by_cases : (before.Which asks ended) → AreSides p s beside c lh rh al ar → HasResult vt R Q.left Q.left_result al × HasResult vt R (Q.left + 1) Q.right_result ar
        results_by_cases (inl z) (inl m) = (
          subst (λ u. HasResult vt R u Q.left_result al) z.0 (subst (λ a. HasResult vt R t Q.left_result a) (sym m.4) (own_has Q.left_result z.2)),
          subst (λ u. HasResult vt R u Q.right_result ar) z.1 (subst (λ a. HasResult vt R s Q.right_result a) (sym m.5) (other_has Q.right_result z.3)),
        )
        results_by_cases (inl z) (inr m) = let a = z.0 in let b = z.1 in let e = m.0 in let f = m.1 in absurd (omega (arith, a, b, e, f))
        results_by_cases (inr z) (inl m) = let a = z.0 in let b = z.1 in let e = m.0 in let f = m.1 in absurd (omega (arith, a, b, e, f))
        results_by_cases (inr z) (inr m) = (
          subst (λ u. HasResult vt R u Q.left_result al) z.1 (subst (λ a. HasResult vt R s Q.left_result a) (sym m.4) (other_has Q.left_result z.3)),
          subst (λ u. HasResult vt R u Q.right_result ar) z.0 (subst (λ a. HasResult vt R t Q.right_result a) (sym m.5) (own_has Q.right_result z.2)),
        )

    abbrev rests_q : Rests R q
    rests_q = before.rests_parent asks ended

    pub rests_c : Rests R c
    rests_c = subst (Rests R) left_is Q.can.left_rests

    pub rests_d : Rests R (c + 1)
    rests_d = subst (λ n. Rests R (n + 1)) left_is Q.can.right_rests

    -- the parent's number is the smallest
    pub q_low : q < c
    q_low = let a = (steps.kept_tree asks).low Q.left Q.parent (before.left_par asks ended) in omega (arith, a, (before.parent_same asks ended), left_is)

    own_belongings : HasBelongings t p.heap
    own_belongings = (p.allocations, Calls p.frames, p.view, before.own_here asks ended)

    other_belongings : HasBelongings s beside.heap
    other_belongings = (beside.allocations, beside.work, beside.view, belongings_beside)

    above_has : HasBelongings q above.heap
    above_has = (above.allocations, Calls frames, above.view, belongings_above)

    -- what holds for both holds for the left one and for the right one
    pub sides_of : (P : ℕ → LeafHeapValue → Type 0) → P t p.heap → P s beside.heap → P c lh × P (c + 1) rh
    sides_of P a b = sides_of_by_cases side
      where
        sides_of_by_cases : AreSides p s beside c lh rh al ar → P c lh × P (c + 1) rh
        sides_of_by_cases (inl m) = (subst (λ u. P u lh) m.0 (subst (P t) (sym m.2) a), subst (λ u. P u rh) m.1 (subst (P s) (sym m.3) b))
        sides_of_by_cases (inr m) = (subst (λ u. P u lh) m.0 (subst (P s) (sym m.2) b), subst (λ u. P u rh) m.1 (subst (P t) (sym m.3) a))

    children_belongings : HasBelongings c lh × HasBelongings (c + 1) rh
    children_belongings = sides_of HasBelongings own_belongings other_belongings

    pub child_forms : HeapForm lh × HeapForm rh
    child_forms = sides_of (λ u g. HeapForm g) F.form other_form

    pub left_none : lh.reserved ≡ None
    left_none =
        none_reserved lh child_forms.0.shaped.reserved
        (subst (HasReservedUnits lh.chunks lh.reserved) (ap (λ u. (heap_of R u).reserved) (sym left_is) ∙ Q.can.left_spares) (before.counted_belongings asks ended c children_belongings.0.0 lh children_belongings.0.2 children_belongings.0.1 children_belongings.0.3 rests_c child_forms.0).reserved)

    pub right_none : rh.reserved ≡ None
    right_none =
        none_reserved rh child_forms.1.shaped.reserved
        (subst (HasReservedUnits rh.chunks rh.reserved) (ap (λ u. (heap_of R (u + 1)).reserved) (sym left_is) ∙ Q.can.right_spares) (before.counted_belongings asks ended (c + 1) children_belongings.1.0 rh children_belongings.1.2 children_belongings.1.1 children_belongings.1.3 rests_d child_forms.1).reserved)

    pub small : above.heap.since + (lh.since + rh.since) < 2 ^ 64
    small =
        let a : above.heap.since ≡ (heap_of R q).since = before.since_belongings asks ended q above.allocations above.heap above.view (Calls frames) belongings_above rests_q in
        let b : lh.since ≡ (heap_of R c).since = before.since_belongings asks ended c children_belongings.0.0 lh children_belongings.0.2 children_belongings.0.1 children_belongings.0.3 rests_c in
        let e : rh.since ≡ (heap_of R (c + 1)).since = before.since_belongings asks ended (c + 1) children_belongings.1.0 rh children_belongings.1.2 children_belongings.1.1 children_belongings.1.3 rests_d in
        omega (arith, a, b, e, before.since_low asks ended q, before.since_low asks ended c, before.since_low asks ended (c + 1))

    -- the merged chunks have distinct numbers
    pub joined_apart : HaveDistinctNumbers (lh.chunks ++ (rh.chunks ++ above.heap.chunks))
    joined_apart =
        apart_together lh.chunks (rh.chunks ++ above.heap.chunks) child_forms.0.shaped.apart
        (apart_together rh.chunks above.heap.chunks child_forms.1.shaped.apart above_form.shaped.apart (heaps_apart (c + 1) q rh above.heap children_belongings.1 above_has rests_d rests_q (λ e. let lt = q_low in omega (arith, e, lt))))
        (λ n has. has_append rh.chunks above.heap.chunks n ∙ or_from (has_chunk rh.chunks n) (has_chunk above.heap.chunks n)
        (heaps_apart c (c + 1) lh rh children_belongings.0 children_belongings.1 rests_c rests_d (λ e. omega (arith, e)) n has)
        (heaps_apart c q lh above.heap children_belongings.0 above_has rests_c rests_q (λ e. let lt = q_low in omega (arith, e, lt)) n has))

    -- and are in use
    pub left_used : AreInUse w.pool lh.chunks
    left_used = all_from (λ y. IsSome (slot_at w.pool y.number)) lh.chunks (λ y i. owner_held w.pool y.number c (owner_at c lh children_belongings.0 rests_c y.number (in_has lh.chunks y i)))

    pub right_used : AreInUse w.pool rh.chunks
    right_used = all_from (λ y. IsSome (slot_at w.pool y.number)) rh.chunks (λ y i. owner_held w.pool y.number (c + 1) (owner_at (c + 1) rh children_belongings.1 rests_d y.number (in_has rh.chunks y i)))

    pub child_of_two : (t ≡ c) ⊎ (t ≡ c + 1)
    child_of_two = child_of_two_by_cases side
      where
        child_of_two_by_cases : AreSides p s beside c lh rh al ar → (t ≡ c) ⊎ (t ≡ c + 1)
        child_of_two_by_cases (inl m) = inl m.0
        child_of_two_by_cases (inr m) = inr m.1

    -- and belong to no other task
    pub apart_of : (u : ℕ) → (u ≡ c → ⊥) → (u ≡ c + 1 → ⊥) → (u ≡ t → ⊥) × (u ≡ s → ⊥)
    apart_of u nc nd = apart_of_by_cases side
      where
        apart_of_by_cases : AreSides p s beside c lh rh al ar → (u ≡ t → ⊥) × (u ≡ s → ⊥)
        apart_of_by_cases (inl m) = ((λ e. nc (e ∙ m.0)), (λ e. nd (e ∙ m.1)))
        apart_of_by_cases (inr m) = ((λ e. nd (e ∙ m.1)), (λ e. nc (e ∙ m.0)))
