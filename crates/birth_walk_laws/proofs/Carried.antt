-- Walks over nodes with names are walks over the names.
use Rattle.std.proofs.Common.{ℕ, zero, suc, List, subst}
use Rattle.std.specs.Prelude.{◌↔◌}
use Rattle.object_layout.specs.declared.word.Addr.{Addr}
use Rattle.object_layout.specs.declared.word.Birth.{Birth}
use Rattle.object_layout.specs.ChunkValue.{ChunkValue}
use Rattle.object_layout.specs.Chunks.{cell_of}
use Rattle.object_layout.specs.Graph.{RefersTo}
use Rattle.walk_laws.specs.Reached.{IsWalk, IsReached}
use Rattle.object_layout.proofs.PlaceLemmas.{born_name}
use Rattle.copying_gc.specs.Survivors.{CopyStarts as StartsCopying}
use Rattle.mark_sweep_gc.specs.Snapshot.{MarkStarts as StartsMarking}
use Rattle.birth_walk_laws.specs.Births.{ObjectBears, AreBornOnce, StartsNamed, LeadsNamed, IsReachedByName}
use Rattle.birth_walk_laws.specs.Laws.{SurvivorsAreNamed, SnapshotIsNamed}

abbrev Named : List ChunkValue → Addr → Type 0
Named h a = (n : Birth) × ObjectBears h a n

module _ (h : List ChunkValue) (starts : Addr → Type 0) (leads : Addr → Addr → Type 0) (once : AreBornOnce h)
    (named : (a : Addr) → starts a → Named h a) (named_next : (b a : Addr) → leads b a → Named h a) where
  name_at : (k : ℕ) (a : Addr) → IsWalk starts leads k a → Named h a
  name_at zero a w = named a w
  name_at (suc k) a w = named_next w.0 a w.2

  by_names : (k : ℕ) (a : Addr) (n : Birth) → ObjectBears h a n → IsWalk starts leads k a → IsWalk (StartsNamed h starts) (LeadsNamed h leads) k n
  by_names zero a n e w = (a, e, w)
  by_names (suc k) a n e w = let m = name_at k w.0 w.1 in (m.0, by_names k w.0 m.0 m.1 w.1, (w.0, a, m.1, e, w.2))

  by_addresses : (k : ℕ) (a : Addr) (n : Birth) → ObjectBears h a n → IsWalk (StartsNamed h starts) (LeadsNamed h leads) k n → IsWalk starts leads k a
  by_addresses zero a n e w = subst starts (once w.0 a n w.1 e) w.2
  by_addresses (suc k) a n e w =
      let step = w.2 in
      (step.0, by_addresses k step.0 w.0 step.2 w.1, subst (λ x. leads step.0 x) (once step.1 a n step.3 e) step.4)

  pub carried : (a : Addr) (n : Birth) → ObjectBears h a n → IsReached starts leads a ↔ IsReachedByName h starts leads n
  carried a n e = ((λ w. (w.0, by_names w.0 a n e w.1)), (λ w. (w.0, by_addresses w.0 a n e w.1)))

pub survivors : SurvivorsAreNamed
survivors = λ h from once. carried h (StartsCopying h from) (RefersTo h) once (λ a s. born_name (cell_of h a).mark s.0) (λ b a l. born_name (cell_of h a).mark l.1)

pub snapshot : SnapshotIsNamed
snapshot = λ f kept once. carried f.heap (StartsMarking f kept) (RefersTo f.heap) once (λ a s. born_name (cell_of f.heap a).mark s.0) (λ b a l. born_name (cell_of f.heap a).mark l.1)
