-- Entries that move nothing: the end of fuel, a chunk, and the end of the pool.
use Rattle.core_invariant.proofs.Common.{◌≡◌, ℕ, Option, Some, None, [], ◌∷◌, ◌++◌, length, slice_get, inl, refl, ap, sym, ◌∙◌, option_flatten, ReservedVecValue, MachineState, row_of, is_joined, EntryValue, Heap, Ledger, Fuel as FuelEnd, heap_of, after, LeafHeapValue as HeapOf, Rests, rested, Memory, SameObjects, CountsGo, IsMarked, IsQuiet, with_belongings, MarksOn, NotesStay, BelongingsStand, BegunBy, IsBy, belongings_kept, quiet_fits_then, quiet_stands_for, quiet_leaves, Begun, Private, SharedValue, accounts, tree_counts_of, value_of, IsMeasured, KeepsUnits, HeapForm, IsSharedValue, EachPartStillFits, WorkerPartFits, belongings_of_part, part_of, Enters, refused}
use Rattle.refinement_laws.specs.below.run_trace.{Fuel}
use Rattle.core_invariant.proofs.EntryMade.{HasSameTasks, entered_world, entry_on, part_fits, same_form}
use Rattle.core_invariant.proofs.BeforeTheEnd.{stands_now}
use Rattle.core_invariant.proofs.UnitsMeasured.{all_kept, part_kept}

-- an entry that moves nothing leads from w to w': the pool, the end and what is marked may change
pub record MovesNothing (w w' : SharedValue) (e : EntryValue) : Type 0 where
  pub enters : Enters w w' e
  pub quiet : IsQuiet e.kind
  pub tasks : HasSameTasks w w'
  pub limit : w'.pool.limit ≡ w.pool.limit
  pub keeps : (t : ℕ) → KeepsUnits w.pool w'.pool t
  pub same : SameObjects (value_of w) (value_of w') (accounts w) (after w.program w.settings (accounts w) e)
  pub notes : (u : ℕ) → (IsMarked e.kind u → ⊥) → NotesStay (value_of w) (value_of w') u
  pub marks : (u : ℕ) → IsMarked e.kind u → MarksOn (value_of w) (value_of w') (after w.program w.settings (accounts w) e) u
  pub counts : CountsGo w.program w.settings (accounts w) (tree_counts_of w) (tree_counts_of w') e.worker e.kind

module _ {w w' : SharedValue} {e : EntryValue} (I : IsSharedValue w) (free : refused w e ≡ None) (M : MovesNothing w w' e) where
  abbrev L : Ledger
  L = after w.program w.settings (accounts w) e

  pub quiet_world : IsSharedValue w'
  quiet_world =
      entered_world I free M.enters (same_form I M.tasks M.limit M.keeps)
      (quiet_stands_for w.program w.settings w.journal.items I.form I.legal (value_of w) (value_of w') (tree_counts_of w) (tree_counts_of w') e free M.quiet I.stands M.same M.notes M.marks M.counts)

  out_same : (u : ℕ) → option_flatten (slice_get w'.tasks_out u) ≡ option_flatten (slice_get w.tasks_out u)
  out_same u = ap (λ (z : SharedValue). option_flatten (slice_get z.tasks_out u)) M.tasks

  pub quiet_others : (u : ℕ) (q : Private) → (IsBy e.kind q.task → ⊥) → WorkerPartFits w u q → WorkerPartFits w' u q
  quiet_others u q ne F =
      part_fits I free M.enters quiet_world u q q (out_same u) F refl F.form (part_kept w.pool w'.pool q (M.keeps q.task) F.measured)
      (quiet_leaves w.program w.settings w.journal.items I.legal (value_of w) (value_of w') e free M.quiet M.same (part_of w.settings q) ne F.fits)

  -- the part of the worker that makes it, without fresh steps, with another heap, and in the collection b
  module _ (k : ℕ) (p : Private) (g : HeapOf) (b : Option Begun) (F : WorkerPartFits w k (record p { fresh = 0 })) where
    abbrev pub P : Private
    P = record p { fresh = 0 }

    abbrev pub Q : Private
    Q = record p { fresh = 0; heap = g; begun = b }

    pub quiet_own : HeapForm g → IsMeasured w'.pool Q → SameObjects (with_belongings (value_of w) p.task (belongings_of_part P)) (with_belongings (value_of w') p.task (belongings_of_part Q)) (rested (accounts w) p.task) (rested L p.task)
        → BegunBy (with_belongings (value_of w') p.task (belongings_of_part Q)) (rested L p.task) p.task b → WorkerPartFits w' k Q
    quiet_own form measured part begun =
        part_fits I free M.enters quiet_world k P Q (out_same k) F refl form measured
        (quiet_fits_then w.program w.settings w.journal.items I.legal (value_of w) (value_of w') e p.task (belongings_of_part P) (belongings_of_part Q) free M.quiet F.fits part begun)

-- if the machine and the accounts of heaps are unchanged, the value may be
pub same_value : (v : Memory) (l L : Ledger) → L.machine ≡ l.machine → ((u : ℕ) → heap_of L u ≡ heap_of l u) → ((u : ℕ) → Rests l u → BelongingsStand v l u) → SameObjects v v l L
same_value v l L m heaps belongings = record {
  belongings = λ u r. belongings_kept v v l L u refl (λ k e. e) (heaps u) (ap (λ (z : MachineState). length (row_of (slice_get z.store u))) m) (ap (λ (z : MachineState). is_joined (slice_get z.tasks u)) m) (belongings u (ap (λ (h : Heap). h.worker) (sym (heaps u)) ∙ r));
  objects = λ u. refl;
  chunks = λ u e. refl;
  frames = λ u. refl;
  result = λ u. refl;
  view = λ u. refl;
  owner = λ k u e. e;
  taken = λ k u e. inl e;
  begun = λ u e. refl;
  sources = λ u. refl;
}

-- within one memory the notes are unchanged
pub notes_unchanged : (v : Memory) (u : ℕ) → NotesStay v v u
notes_unchanged v u = record { keeps = refl; kept = refl; marked = refl }

-- FUEL
module _ (w : SharedValue) (k : ℕ) (I : IsSharedValue w) (free : refused w (record { worker = k; kind = Fuel }) ≡ None) (j : ReservedVecValue EntryValue) where
  abbrev e : EntryValue
  e = record { worker = k; kind = Fuel }

  abbrev fueled : SharedValue
  fueled = record w { end = Some (FuelEnd w.steps); journal = record { items = w.journal.items ++ e ∷ []; room = j.room } }

  moves : MovesNothing w fueled e
  moves = record {
    enters = record { journal = refl; program = refl; settings = refl; halted = refl };
    quiet = tt;
    tasks = refl;
    limit = refl;
    keeps = all_kept w.pool;
    same = same_value (value_of w) (accounts w) (after w.program w.settings (accounts w) e) refl (λ u. refl) (stands_now w I (entry_on w e free)).belongings.belongings;
    notes = λ u n. notes_unchanged (value_of w) u;
    marks = λ u m. absurd m;
    counts = (record { node = λ u. refl; task_out = λ u. refl; steps = refl; outputs = refl }, refl, refl);
  }

  pub fuel_world : IsSharedValue fueled
  fuel_world = quiet_world I free moves

  pub fuel_all : EachPartStillFits w fueled
  fuel_all u q F = quiet_others I free moves u q (λ b. b) F
