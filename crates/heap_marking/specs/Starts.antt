-- The start of the marking of a heap: what its remembered fields and its task's registers hold of it.
use Rattle.std.specs.Prelude.{◌≡◌, ◌↔◌, ℕ, Option, Some, None, List, [], ◌++◌, slice_get}
use Rattle.std.specs.List.{flat_map}
use Rattle.heap_marking.specs.Common.{Addr, ChunkValue, HasObjectAt, frames_of, RefField, into, targets_of, frame_references, IsMarking, IsOf, MarkingValue, Fork, ParkedTask, Work, Calls, Result, Resting, resting_references, heaps_of, sources_of, SharedValue, rest_at}

-- the references of a task's frames
abbrev pub registers_of : Work → List (Option Addr)
registers_of (Calls s) = frame_references (frames_of s)
registers_of (Result k r) = []

-- of a heap at rest, with these remembered fields
abbrev pub starts_in : Resting → List RefField → ParkedTask → List Addr
starts_in heaps sources r = targets_of resting_references heaps r.heap.chunks sources ++ flat_map (into r.heap.chunks) (registers_of r.work)

abbrev pub starts_by : Resting → List RefField → Option ParkedTask → List Addr
starts_by heaps sources None = []
starts_by heaps sources (Some r) = starts_in heaps sources r

abbrev pub starts_of : SharedValue → ℕ → List Addr
starts_of w t = starts_by (heaps_of w) (sources_of (slice_get w.sets t)) (rest_at w.rests t)

-- a marking of these chunks that has found these roots, and marked nothing yet
pub record MarkingHasBegun (ks : List ChunkValue) (roots : List Addr) (m : MarkingValue) : Type 0 where
  pub none : m.marked ≡ 0
  pub own : (kept : List Addr) → IsOf ks kept m
  pub marking : (f : Fork) (kept : List Addr) → f.roots ≡ roots → ((a : Addr) → HasObjectAt f.heap a ↔ HasObjectAt ks a) → IsMarking f kept m
