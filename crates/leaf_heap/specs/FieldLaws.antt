-- What a write of one reference of a heap changes, and what it keeps.
use Rattle.std.specs.Prelude.{◌≡◌, ◌≢◌, ℕ, Option, slice_set}
use Rattle.leaf_heap.specs.Common.{Addr, with_ref, cell_of, object_of, put_object}
use Rattle.leaf_heap.specs.LeafHeapValue.{LeafHeapValue}
use Rattle.object_layout.proofs.ChunkLaws as laws

-- the heap with one reference of an object written
abbrev pub with_ref_of : LeafHeapValue → Addr → ℕ → Option Addr → LeafHeapValue
with_ref_of h a field value = record h { chunks = put_object h.chunks a (with_ref (cell_of h.chunks a) field value) }

pub refs_of_same : (h : LeafHeapValue) (a : Addr) (field : ℕ) (value : Option Addr) →
    (object_of (with_ref_of h a field value).chunks a).refs ≡ slice_set (object_of h.chunks a).refs field value
refs_of_same h a field value = laws.refs-put_same h.chunks a field value

pub refs_of_other : (h : LeafHeapValue) (a b : Addr) (field : ℕ) (value : Option Addr) → b ≢ a →
    (object_of (with_ref_of h a field value).chunks b).refs ≡ (object_of h.chunks b).refs
refs_of_other h a b field value apart = laws.refs-put_other h.chunks a b field value apart
