-- The snapshot of a waiting task's heap: what is reachable through the heap as it was at the fork.
use Rattle.std.specs.Prelude.{◌↔◌, ◌⊎◌, List, ◌++◌, Contains}
use Rattle.mark_sweep_gc.specs.Common.{Addr, ChunkValue, IsReached}
pub use Rattle.object_layout.specs.Chunks.{object_count}
pub use Rattle.object_layout.specs.Graph.{HeapIsClosed, HasObjectAt, IsSoundReference, RefersTo}

-- the start of a marking: the heap as it was at the fork of its task, and the roots
pub record Fork : Type 0 where
  pub heap : List ChunkValue
  pub roots : List Addr

-- walks start at the roots, and at the references that were kept since the fork
abbrev pub MarkStarts : Fork → List Addr → Addr → Type 0
MarkStarts f kept a = HasObjectAt f.heap a × Contains (f.roots ++ kept) a

-- the snapshot: what walks lead to through the heap as it was at the fork
abbrev pub IsInSnapshot : Fork → List Addr → Addr → Type 0
IsInSnapshot f kept a = IsReached (MarkStarts f kept) (RefersTo f.heap) a

-- h is the heap since the fork: it has the same objects, of which only fields were written; what was written leads to
-- objects of the snapshot, and what was overwritten was kept
pub record IsSince (f : Fork) (kept : List Addr) (h : List ChunkValue) : Type 0 where
  pub objects : (a : Addr) → HasObjectAt f.heap a ↔ HasObjectAt h a
  pub written : (b a : Addr) → IsInSnapshot f kept b → RefersTo h b a → IsInSnapshot f kept a
  pub overwritten : (b a : Addr) → RefersTo f.heap b a → RefersTo h b a ⊎ Contains kept a
