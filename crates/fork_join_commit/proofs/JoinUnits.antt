-- A join: the pool still has the chunks of each heap with their units.
use Rattle.fork_join_commit.proofs.Common.{◌≡◌, ℕ, ◌+◌, ◌++◌, Option, Some, None, List, option_map, inl, inr, refl, ap, sym, subst, ◌∙◌, same_Some, in_append_cases, in_append_left, in_append_right, Heap, Ledger, ChunkValue, Slot, PoolValue, slot_at, LeafHeapValue, merged, with_places, Ended, state_of as state_in_tree, AreRelabelled, with_results, Rests, rested, In, Private, ParkedTask, SharedValue, accounts, rest_at, AreMeasured, IsMeasured, IsFree, KeepsUnits, WorkerPartFits, task_is_out, tasks_apart, free_at_rest, measured_both, measured_kept, part_kept, relabelled_keeps, relabelled_measured, relabelled_own, chunk_in, AreSides, RestsJoin, IsRestOf}
use Rattle.step_commit.proofs.below.core_invariant.PartFitsMachine as link
use Rattle.step_commit.proofs.LastStepEntry as last
use Rattle.fork_join_commit.proofs.ChildReturns as steps
use Rattle.fork_join_commit.proofs.ChildReturns.{AsksEnd}
use Rattle.fork_join_commit.proofs.JoinBelongings.{in_has}
use Rattle.fork_join_commit.proofs.JoinedBelongings as both
use Rattle.fork_join_commit.proofs.JoinedBelongings.{JoiningTwo}
use Rattle.fork_join_commit.proofs.SiblingReturned as before

module _ {w : SharedValue} {k : ℕ} {p : Private} (asks : AsksEnd w k p) (ended : state_in_tree w.tree (steps.other asks) ≡ Some Ended) where
  open asks use {I, F}
  open (last.names (steps.asked asks)) use {t, M}

  abbrev q : ℕ
  q = steps.parent asks

  abbrev s : ℕ
  s = steps.other asks

  abbrev R : Ledger
  R = rested (M) t

  abbrev on : (accounts w).end ≡ None
  on = steps.on asks

  -- no worker holds the others that join
  unheld : (u : ℕ) → (u ≡ t → ⊥) → Rests R u → IsFree w.tasks_out u
  unheld u ne rests = free_at_rest w u I on (sym (ap (λ (z : Heap). z.worker) ((link.alone w k p I F on).heaps u ne)) ∙ rests)

  module _ (two : JoiningTwo w k p asks) where
    open two use {above, beside, frames, above_is, beside_is, c, lh, rh, al, ar, side}

    rests_s : Rests R s
    rests_s = rests_s_by_cases side
      where
        rests_s_by_cases : AreSides p s beside c lh rh al ar → Rests R s
        rests_s_by_cases (inl m) = subst (Rests R) (sym m.1) (both.rests_d asks ended two)
        rests_s_by_cases (inr m) = subst (Rests R) (sym m.0) (both.rests_c asks ended two)

    unheld_s : IsFree w.tasks_out s
    unheld_s = unheld s (steps.other_apart asks) rests_s

    -- both are the two, and no other is
    pub other_apart : (u : ℕ) → (u ≡ t → ⊥) → (u ≡ s → ⊥) → (u ≡ c → ⊥) × (u ≡ c + 1 → ⊥)
    other_apart u nt ns = other_apart_by_cases side
      where
        other_apart_by_cases : AreSides p s beside c lh rh al ar → (u ≡ c → ⊥) × (u ≡ c + 1 → ⊥)
        other_apart_by_cases (inl m) = ((λ e. nt (e ∙ sym m.0)), (λ e. ns (e ∙ sym m.1)))
        other_apart_by_cases (inr m) = ((λ e. ns (e ∙ sym m.0)), (λ e. nt (e ∙ sym m.1)))

    beside_measured : (o : Option ParkedTask) → rest_at w.rests s ≡ o → IsRestOf o beside → AreMeasured w.pool s beside.heap.chunks
    beside_measured None e r = subst (λ (z : ParkedTask). AreMeasured w.pool s z.heap.chunks) (sym r.2) (λ x i. absurd i)
    beside_measured (Some z) e r = subst (λ (z : ParkedTask). AreMeasured w.pool s z.heap.chunks) (sym r) (I.measured s z e unheld_s)

    both_measured : AreMeasured w.pool c lh.chunks × AreMeasured w.pool (c + 1) rh.chunks
    both_measured =
        both.sides_of asks ended two (λ u g. AreMeasured w.pool u g.chunks)
        F.measured.0 (beside_measured (rest_at w.rests s) refl beside_is)

    above_measured : AreMeasured w.pool q above.heap.chunks
    above_measured =
        I.measured q above above_is
        (unheld q (steps.parent_apart asks) (before.rests_parent asks ended))

    module _ (rests : List (Option ParkedTask)) (pool : PoolValue) (heap : LeafHeapValue) (H : RestsJoin w.rests rests p q s (with_results frames al ar) heap above) (relabelled : AreRelabelled w.pool pool (lh.chunks ++ rh.chunks) q)
        (heap_is : heap ≡ with_places (merged above.heap lh rh) heap.slots heap.spare) where
      -- what belongs to neither child is unchanged
      owner_of_one : (u n units v : ℕ) (cs : List ChunkValue) (x : ChunkValue) → In cs x → x.number ≡ n → AreMeasured w.pool v cs → slot_at w.pool n ≡ Some (record { owner = u; units = units }) → u ≡ v
      owner_of_one u n units v cs x i e M h = same_Some u v (ap (option_map (λ (z : Slot). z.owner)) (sym h ∙ (ap (slot_at w.pool) (sym e) ∙ M x i)))

      pub units_stay : (u : ℕ) → (u ≡ c → ⊥) → (u ≡ c + 1 → ⊥) → KeepsUnits w.pool pool u
      units_stay u nc nd =
          relabelled_keeps w.pool pool (lh.chunks ++ rh.chunks) q relabelled u (λ n units h has.
          let x = chunk_in (lh.chunks ++ rh.chunks) n has in
          elim (in_append_cases lh.chunks rh.chunks x.0 x.1) [
            | inl i ↦ nc (owner_of_one u n units c lh.chunks x.0 i x.2 both_measured.0 h)
            | inr i ↦ nd (owner_of_one u n units (c + 1) rh.chunks x.0 i x.2 both_measured.1 h)
          ])

      -- and what both have is the parent's
      pub heap_measured : AreMeasured pool q heap.chunks
      heap_measured =
          subst (λ (g : LeafHeapValue). AreMeasured pool q g.chunks) (sym heap_is)
          (measured_both pool q lh.chunks (rh.chunks ++ above.heap.chunks)
          (relabelled_measured w.pool pool (lh.chunks ++ rh.chunks) q relabelled c lh.chunks (λ x i. in_has (lh.chunks ++ rh.chunks) x (in_append_left lh.chunks rh.chunks x i)) both_measured.0)
          (measured_both pool q rh.chunks above.heap.chunks
          (relabelled_measured w.pool pool (lh.chunks ++ rh.chunks) q relabelled (c + 1) rh.chunks (λ x i. in_has (lh.chunks ++ rh.chunks) x (in_append_right lh.chunks rh.chunks x i)) both_measured.1)
          (measured_kept w.pool pool q above.heap.chunks (relabelled_own w.pool pool (lh.chunks ++ rh.chunks) q relabelled) above_measured)))

      -- THE PARTS OF OTHERS
      pub others_measured : (u : ℕ) (i : Private) → (u ≡ k → ⊥) → WorkerPartFits w u i → IsMeasured pool i
      others_measured u i ne G =
          let apart = other_apart i.task (λ e. tasks_apart w k u p i F G ne (sym e)) (λ e. unheld_s u (task_is_out w u i I on G ∙ ap (λ n. Some n) e)) in
          part_kept w.pool pool i (units_stay i.task apart.0 apart.1) G.measured
