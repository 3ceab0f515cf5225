-- What each collector keeps, by names.
use Rattle.std.specs.Prelude.{◌↔◌, List, Option}
use Rattle.object_layout.specs.declared.word.Addr.{Addr}
use Rattle.object_layout.specs.declared.word.Birth.{Birth}
use Rattle.object_layout.specs.ChunkValue.{ChunkValue}
use Rattle.object_layout.specs.Graph.{RefersTo}
use Rattle.copying_gc.specs.Survivors.{IsSurvivor, CopyStarts as StartsCopying}
use Rattle.mark_sweep_gc.specs.Snapshot.{Fork, IsInSnapshot, MarkStarts as StartsMarking}
use Rattle.birth_walk_laws.specs.Births.{ObjectBears, AreBornOnce, IsReachedByName}

-- if names are distinct, an object survives a copying collection if and only if its name is reachable by names
abbrev pub SurvivorsAreNamed : Type 0
SurvivorsAreNamed =
    (h : List ChunkValue) (from : List (Option Addr)) → AreBornOnce h
    → (a : Addr) (n : Birth) → ObjectBears h a n → IsSurvivor h from a ↔ IsReachedByName h (StartsCopying h from) (RefersTo h) n

-- if names are distinct, an object is in the snapshot if and only if its name is reachable by names
abbrev pub SnapshotIsNamed : Type 0
SnapshotIsNamed =
    (f : Fork) (kept : List Addr) → AreBornOnce f.heap
    → (a : Addr) (n : Birth) → ObjectBears f.heap a n → IsInSnapshot f kept a ↔ IsReachedByName f.heap (StartsMarking f kept) (RefersTo f.heap) n
