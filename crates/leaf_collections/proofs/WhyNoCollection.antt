-- Why a leaf collection of a part doesn't begin, and what is known if it may.
use Rattle.leaf_collections.proofs.Common.{◌≡◌, ℕ, ◌+◌, ◌≤◌, arith, Bool, true, false, Option, None, is_none, is_some, refl, ap, sym, ◌∙◌, false≢true, leb-true, Begin, Refused, PoolShort, heap_of, in_use, take_of, is_pool_enough, on_due, refused_if, refused_unless, small_words, units_in_use, Private, SharedValue, accounts, IsSharedValue, WorkerPartFits, first_cause, or_else, due_cause, take_by, refused, part_asks, none_begun, take_is, used_now}
use Rattle.leaf_collections.proofs.LeafEntry as leaf
use Rattle.leaf_collections.proofs.LeafEntry.{AsksLeaf}
use Rattle.leaf_collections.proofs.WhyNotDue.{due_answer, due_is}

-- WHY IT IS REFUSED

-- if no cause precedes those of its kind
pub begin_answer : (w : SharedValue) (k : ℕ) (p : Private) → IsSharedValue w → WorkerPartFits w k (record p { fresh = 0 }) → is_some (first_cause w.end w.steps w.settings k false) ≡ false
    → refused w (record { worker = k; kind = Begin p.task }) ≡ or_else (due_cause p (part_asks w.program p)) (refused_unless (is_pool_enough w.settings (accounts w) p.task) (PoolShort (units_in_use w.pool)) None)
begin_answer w k p I F h = due_answer w k p I F (Begin p.task) (λ n. refused_unless (is_pool_enough w.settings (accounts w) p.task) (PoolShort n) None) refl h

-- IF NOTHING REFUSES IT

module _ {w : SharedValue} {k : ℕ} {p : Private} (asks : AsksLeaf Begin w k p) where
  open asks use {I, F}
  open (leaf.names asks) use {P, t, l, on}

  -- the part is in no leaf collection, and enough chunks are free
  abbrev by_pool : Option Refused
  by_pool = refused_unless (is_pool_enough w.settings l t) (PoolShort (in_use l)) None

  pub begin_idle : p.begun ≡ None
  begin_idle = none_begun w k P F on (on_due w.settings w.program l t by_pool) (leaf.kind_free asks)

  enough_of : (amid due enough : Bool) (x y z : Refused) → is_none (or_else (refused_if amid x (refused_unless due y None)) (refused_unless enough z None)) ≡ true → enough ≡ true
  enough_of true due enough x y z h = absurd (false≢true h)
  enough_of false false enough x y z h = absurd (false≢true h)
  enough_of false true true x y z h = refl
  enough_of false true false x y z h = absurd (false≢true h)

  pub begin_enough : is_pool_enough w.settings l t ≡ true
  begin_enough =
      enough_of (is_some p.begun) _ (is_pool_enough w.settings l t) _ _ (PoolShort (in_use l))
      (ap is_none (sym (due_is w k p I F on by_pool)) ∙ leaf.kind_free asks)

  pub begin_within : units_in_use w.pool + take_by (small_words p.heap.chunks) ≤ w.settings.chunks
  begin_within =
      let h : in_use l + take_of l.machine (heap_of l t) ≤ w.settings.chunks = leb-true (in_use l + take_of l.machine (heap_of l t)) w.settings.chunks begin_enough in
      let a : units_in_use w.pool ≡ in_use l = used_now w I in
      let b : take_of l.machine (heap_of l t) ≡ take_by (small_words p.heap.chunks) = take_is w k p I F in
      omega (arith, h, a, b)
