-- How a leaf collection and a sweep replace a heap's parts.
use Rattle.std.specs.Prelude.{None, true}
use Rattle.run_ledger.specs.declared.data.Heap.{Heap}
use Rattle.ledger_heaps.specs.declared.collection.Collected.{Collected}
use Rattle.ledger_heaps.specs.declared.sweeping.Swept.{Swept}

-- the heap after its leaf collection
abbrev pub with_collected : Heap → Collected → Heap
with_collected h c = record h { chunks = c.chunks; large = c.large; room = c.room; since = 0; begun = None }

-- the heap after its sweep
abbrev pub with_swept : Heap → Swept → Heap
with_swept h s = record h { chunks = s.chunks; large = s.large; room = s.room; marked = None; swept = true }
