-- A collection in progress.
use Rattle.std.specs.Prelude.{ℕ, ◌≤◌, List}
use Rattle.copying_gc.specs.Common.{Addr, LeafHeapValue}
use Rattle.copying_gc.specs.declared.lists.Survivor.{Survivor}
use Rattle.copying_gc.specs.Laid.{Laying}

-- the heap, what was found in it, the new chunks, and what was moved where
pub record CollectorValue : Type 0 where
  pub heap : LeafHeapValue
  pub found : List Survivor
  pub laying : Laying
  pub moved : List (Addr × Addr)

-- the lists have capacity for all objects, found or not, and for all chunks, old and new
pub record HavePlaces (objects chunks found_room moved_room laid_room : ℕ) : Type 0 where
  pub found : objects ≤ found_room
  pub moved : objects ≤ moved_room
  pub laid : chunks ≤ laid_room
