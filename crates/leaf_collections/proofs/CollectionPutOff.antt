-- A leaf collection of a part is put off.
use Rattle.leaf_collections.proofs.Common.{◌≡◌, ℕ, arith, false, None, [], ◌∷◌, ◌++◌, is_some, inl, refl, ap, sym, subst, ◌∙◌, ReservedVecValue, PutOff, EntryValue, Heap, Ledger, PoolEnough, heap_of, in_use, with_heap, is_pool_enough, on_due, refused_if, units_in_use, LeafHeapValue, rested, rested_view, with_belongings, BegunBy, Private, SharedValue, accounts, HeapForm, IsSharedValue, WorkerPartFits, belongings_of_part, first_cause, or_else, due_cause, refused, part_asks, account_idle, none_begun, MovesNothing, notes_unchanged, quiet_own, all_kept}
use Rattle.leaf_collections.proofs.AccountChanges as change
use Rattle.leaf_collections.proofs.LeafEntry as leaf
use Rattle.leaf_collections.proofs.LeafEntry.{AsksLeaf, LeafEntered}
use Rattle.leaf_collections.proofs.WhyNotDue.{due_answer}

-- WHY IT IS REFUSED

-- if no cause precedes those of its kind
pub put_off_answer : (w : SharedValue) (k : ℕ) (p : Private) → IsSharedValue w → WorkerPartFits w k (record p { fresh = 0 }) → is_some (first_cause w.end w.steps w.settings k false) ≡ false
    → refused w (record { worker = k; kind = PutOff p.task }) ≡ or_else (due_cause p (part_asks w.program p)) (refused_if (is_pool_enough w.settings (accounts w) p.task) (PoolEnough (units_in_use w.pool)) None)
put_off_answer w k p I F h = due_answer w k p I F (PutOff p.task) (λ n. refused_if (is_pool_enough w.settings (accounts w) p.task) (PoolEnough n) None) refl h

-- WHAT IT CHANGES

abbrev pub reset : LeafHeapValue → LeafHeapValue
reset h = record h { since = 0 }

pub reset_form : (h : LeafHeapValue) → HeapForm h → HeapForm (reset h)
reset_form h F = record {
  shaped = record { apart = F.shaped.apart; current = F.shaped.current; reserved = F.shaped.reserved };
  near = F.near;
  tidy = F.tidy;
  within = F.within;
  last = F.last;
  last_large = F.last_large;
  since = omega arith;
  whole = F.whole;
  spare = F.spare;
}

abbrev counted_anew : Heap → Heap
counted_anew z = record z { since = 0 }

module _ {w : SharedValue} {k : ℕ} {p : Private} (asks : AsksLeaf PutOff w k p) (j : ReservedVecValue EntryValue) where
  open asks use {I, F, free}
  open (leaf.names asks) use {P, t, e, l, v, on}

  abbrev Q : Private
  Q = record P { heap = reset p.heap }

  abbrev L : Ledger
  L = with_heap l t counted_anew

  abbrev pub w' : SharedValue
  w' = record w { journal = record { items = w.journal.items ++ e ∷ []; room = j.room } }

  moves : MovesNothing w w' e
  moves = record {
    enters = record { journal = refl; program = refl; settings = refl; halted = refl };
    quiet = tt;
    tasks = refl;
    limit = refl;
    keeps = all_kept w.pool;
    same = change.same_objects asks counted_anew (λ z. refl) w.pool (λ c u q. q) (λ c u q. inl q);
    notes = λ u n. notes_unchanged v u;
    marks = λ u m. absurd m;
    counts = (record { node = λ u. refl; task_out = λ u. refl; steps = refl; outputs = refl }, refl, refl);
  }

  -- the part is in no leaf collection
  idle_part : p.begun ≡ None
  idle_part = none_begun w k P F on (on_due w.settings w.program l t (refused_if (is_pool_enough w.settings l t) (PoolEnough (in_use l)) None)) (leaf.kind_free asks)

  none_then : (heap_of (rested L t) t).begun ≡ None
  none_then =
      ap (λ (z : Heap). z.begun) (change.account_same asks counted_anew (λ z. refl) w.pool (λ c u q. q) 0 p.begun (λ z. refl) (λ z. refl) refl)
      ∙ (rested_view (λ (z : Heap). z.begun) (λ z. refl) l t ∙ account_idle w k P F on idle_part)

  pub put_off_entered : LeafEntered w w' e (record p { heap = reset p.heap })
  put_off_entered =
      leaf.leaf_entered asks (λ u q. q) moves (reset p.heap) p.begun
      (quiet_own I free moves k p (reset p.heap) p.begun F (reset_form p.heap F.form) F.measured
      (change.kept_same asks counted_anew (λ z. refl) w.pool (λ c u q. q) 0 p.begun (λ z. refl) (λ z. refl) refl (λ c u q. inl q) (λ q. refl))
      (subst (λ o. BegunBy (with_belongings v t (belongings_of_part Q)) (rested L t) t o) (sym idle_part) none_then))
