-- A part whose heap was copied: it fits only for the end of its leaf collection.
use Rattle.std.specs.Prelude.{◌≡◌, ℕ, All, Some, None, List}
use Rattle.core_invariant.specs.below.run_trace.{EntryValue, field_limit, End}
use Rattle.core_invariant.specs.below.run_ledger.{end_numbers, heap_of}
use Rattle.core_invariant.specs.below.object_layout.{ChunkValue}
use Rattle.core_invariant.specs.below.chunk_pool.{owner_of}
use Rattle.core_invariant.specs.below.leaf_heap.{HaveDistinctNumbers, IsFresh}
use Rattle.core_invariant.specs.below.remembered_set.{AreAscending, ArePlaces}
use Rattle.core_invariant.specs.below.copying_gc.{Moved, new_address}
use Rattle.core_invariant.specs.below.mark_sweep_gc.{units_in_slots}
use Rattle.core_invariant.specs.below.ledger_step_laws.{aside}
use Rattle.core_invariant.specs.below.refinement.{CopyFits, Belongings}
use Rattle.core_invariant.specs.below.task_machine.{Private}
use Rattle.core_invariant.specs.WorkerPartFits.{belongings_of_part}
use Rattle.core_invariant.specs.Measured.{AreMeasured}
use Rattle.core_invariant.specs.Stands.{HeapForm}
use Rattle.core_invariant.specs.SharedValue.{SharedValue, accounts, value_of}

-- the part in no collection
abbrev pub without_collection : Private → Private
without_collection p = record p { begun = None }

-- the entry that ends its collection
abbrev pub end_entry : ℕ → Private → Moved → EntryValue
end_entry worker p moved = record { worker = worker; kind = End p.task moved.taken moved.given moved.left }

-- the chunks that are released: they are the task's, none is in the heap, and they have this many units
pub record AreBack (w : SharedValue) (p : Private) (ks : List ChunkValue) (given : ℕ) : Type 0 where
  pub apart : HaveDistinctNumbers ks
  pub owned : All (λ k. owner_of w.pool k.number ≡ Some p.task) ks
  pub gone : All (λ k. IsFresh p.heap.chunks k.number) ks
  pub units : units_in_slots w.pool ks ≡ given

-- the copied part, with the result of copying
pub record FitsCopied (w : SharedValue) (worker : ℕ) (p : Private) (moved : Moved) : Type 0 where
  -- its belongings before
  pub belongings : Belongings
  pub out : (heap_of (accounts w) p.task).worker ≡ Some worker
  pub copy : CopyFits w.program w.settings p.task belongings (belongings_of_part (without_collection p)) (new_address moved.moved.items) (value_of w) (aside (accounts w))
  pub form : HeapForm p.heap
  pub measured : AreMeasured w.pool p.task p.heap.chunks
  pub fresh : p.fresh ≡ 0
  pub leaf_limit : p.leaf_limit ≡ w.settings.leaf
  pub field_limit : p.field_limit ≡ field_limit w.settings.version
  pub numbers : ◌≡◌ {A = ℕ × ℕ × ℕ} (moved.taken, moved.given, moved.left) (end_numbers (accounts w).machine (heap_of (accounts w) p.task))
  pub order : AreAscending moved.moved.items
  pub places : ArePlaces moved.moved.items
  pub back : AreBack w p moved.back.items moved.given
