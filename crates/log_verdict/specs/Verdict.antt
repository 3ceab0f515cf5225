-- The determinacy races of a run.
use Rattle.std.specs.Prelude.{◌≡◌, ◌<◌, ◌≤◌, ℕ, true, List, length, All, AllPairs}
use Rattle.plain_vec.specs.Members.{In}
use Rattle.fork_graph.specs.declared.graph.GraphStrand.{GraphStrand}
use Rattle.fork_graph.specs.Graph.{tasks_in, StrandPrecedes}
use Rattle.log_walk.specs.Tables.{strand_at}
use Rattle.log_walk.specs.Value.{WalkValue}
use Rattle.log_places.specs.Places.{Covers}
use Rattle.race_cells.specs.declared.access.CellAccess.{CellAccess}
use Rattle.race_cells.specs.CellAccess.{clash}
use Rattle.race_scan.specs.declared.touch.Touch.{Touch}
use Rattle.race_scan.specs.declared.cells.FoundRace.{FoundRace}
use Rattle.race_scan.specs.Laws.{HasLocation}

-- the strand that made an access
abbrev pub strand_of_access : WalkValue → CellAccess → GraphStrand
strand_of_access walk a = strand_at walk.order a.strand

-- accesses name strands of the walk, and come in their serial order
pub record AreInSerialOrder (walk : WalkValue) (touches : List Touch) : Type 0 where
  pub known : All (λ t. t.access.strand < length walk.order) touches
  pub serial : AllPairs (λ t u. t.access.strand ≤ u.access.strand) touches

-- two accesses race at a location: both are of it, one of them writes and not both are atomic, and no walk along the
-- edges of the graph leads from the strand of one to that of the other
pub record LogRaceAt (walk : WalkValue) (touches : List Touch) (block location : ℕ) (t u : Touch) : Type 0 where
  pub first : In touches t
  pub second : In touches u
  pub covers_first : Covers t.region block location
  pub covers_second : Covers u.region block location
  pub clashing : clash t.access.kind u.access.kind ≡ true
  pub not_before : StrandPrecedes (tasks_in walk.tasks) (strand_of_access walk t.access) (strand_of_access walk u.access) → ⊥
  pub not_after : StrandPrecedes (tasks_in walk.tasks) (strand_of_access walk u.access) (strand_of_access walk t.access) → ⊥

-- two accesses race at the location
abbrev pub IsRacing : WalkValue → List Touch → ℕ → ℕ → Type 0
IsRacing walk touches block location = (t : Touch) × (u : Touch) × LogRaceAt walk touches block location t u

-- the two accesses of a found race
pub record IsFoundRace (walk : WalkValue) (touches : List Touch) (found : FoundRace) (location : ℕ) : Type 0 where
  pub first : Touch
  pub second : Touch
  pub first_is : first.access ≡ found.race.first
  pub second_is : second.access ≡ found.race.second
  pub race : LogRaceAt walk touches found.block location first second

-- the races that are found: just the locations of which two accesses race are told, each once, with two that race
pub record AreVerdicts (walk : WalkValue) (touches : List Touch) (races : List FoundRace) : Type 0 where
  pub sound : (f : FoundRace) (location : ℕ) → In races f → f.slot.start ≤ location → location < f.slot.end → IsFoundRace walk touches f location
  pub complete : (block location : ℕ) → IsRacing walk touches block location → (f : FoundRace) × In races f × HasLocation f block location
  pub once : (f g : FoundRace) (block location : ℕ) → In races f → In races g → HasLocation f block location → HasLocation g block location → f ≡ g
  pub some : (f : FoundRace) → In races f → f.slot.start < f.slot.end
