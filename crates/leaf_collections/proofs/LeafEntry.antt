-- Entries of leaf collections and chunks, for a part without fresh steps: what a call asks, and what is made.
use Rattle.leaf_collections.proofs.Common.{◌≡◌, ℕ, Option, None, is_none, ap, sym, subst, Kind, EntryValue, Ledger, kind_refusal, entry_tells, LeafHeapValue, IsBy, Memory, Begun, Private, SharedValue, accounts, value_of, IsSharedValue, WorkerPartFits, OthersFit, Enters, refused, entry_on, tasks_apart, MovesNothing, quiet_others, quiet_world, true}

-- a part that has no fresh steps
pub without_fresh : (w : SharedValue) (k : ℕ) (p : Private) → WorkerPartFits w k p → p.fresh ≡ 0 → WorkerPartFits w k (record p { fresh = 0 })
without_fresh w k p F none = subst (λ n. WorkerPartFits w k (record p { fresh = n })) none F

-- a call asks for an entry of this kind for a part without fresh steps, and nothing refuses it
pub record AsksLeaf (kind : ℕ → Kind) (w : SharedValue) (k : ℕ) (p : Private) : Type 0 where
  pub I : IsSharedValue w
  pub F : WorkerPartFits w k (record p { fresh = 0 })
  pub none : p.fresh ≡ 0
  pub free : refused w (record { worker = k; kind = kind p.task }) ≡ None

-- by what is known of an equal value
pub asks_leaf : (kind : ℕ → Kind) {w old : SharedValue} {k : ℕ} {p : Private} → w ≡ old → IsSharedValue w → WorkerPartFits old k p → p.fresh ≡ 0 → refused old (record { worker = k; kind = kind p.task }) ≡ None → AsksLeaf kind w k p
asks_leaf kind {w} {old} {k} {p} same I F none free = record {
  I = I;
  F = without_fresh w k p (subst (λ z. WorkerPartFits z k p) (sym same) F) none;
  none = none;
  free = subst (λ z. refused z (record { worker = k; kind = kind p.task }) ≡ None) (sym same) free;
}

-- the names used in proofs: the part without fresh steps, its task, the entry, the accounts and the memory before it, and
-- that the run goes on
pub record LeafNames (w : SharedValue) : Type 0 where
  pub P : Private
  pub t : ℕ
  pub e : EntryValue
  pub l : Ledger
  pub v : Memory
  pub on : (accounts w).end ≡ None

-- the entry leads from w to w': the new value stands, the part q fits it, and so do the parts of others
pub record LeafEntered (w w' : SharedValue) (e : EntryValue) (q : Private) : Type 0 where
  pub enters : Enters w w' e
  pub world : IsSharedValue w'
  pub part : WorkerPartFits w' e.worker q
  pub others : OthersFit w w' e.worker

module _ {kind : ℕ → Kind} {w : SharedValue} {k : ℕ} {p : Private} (asks : AsksLeaf kind w k p) where
  open asks use {I, F, none, free}

  abbrev e : EntryValue
  e = record { worker = k; kind = kind p.task }

  abbrev pub names : LeafNames w
  names = record { P = record p { fresh = 0 }; t = p.task; e = e; l = accounts w; v = value_of w; on = entry_on w e free }

  pub kind_free : is_none (kind_refusal w.program w.settings (accounts w) k e.kind) ≡ true
  kind_free = (entry_tells w.program w.settings (accounts w) e (ap is_none free)).2

  -- the entry moves nothing, and the part goes on with the heap g, in the collection b
  pub leaf_entered : {w' : SharedValue} → ((u : ℕ) → IsBy e.kind u → p.task ≡ u) → MovesNothing w w' e → (g : LeafHeapValue) (b : Option Begun) → WorkerPartFits w' k (record p { fresh = 0; heap = g; begun = b }) → LeafEntered w w' e (record p { heap = g; begun = b })
  leaf_entered {w'} own moves g b fits = record {
    enters = moves.enters;
    world = quiet_world I free moves;
    part = subst (λ n. WorkerPartFits w' k (record p { fresh = n; heap = g; begun = b })) (sym none) fits;
    others = λ u q ne G. quiet_others I free moves u q (λ s. tasks_apart w k u (record p { fresh = 0 }) q F G ne (own q.task s)) G;
  }
