-- What the scan of all locations is right about.
use Rattle.std.specs.Prelude.{◌≡◌, ◌↔◌, ◌<◌, ◌≤◌, ℕ, true, List, All, AllPairs}
use Rattle.race_scan.specs.Common.{In, LocationSlot, Region, Covers, PlacesValue, IsAccessed, IsSlot, StrandOrder, ExtendsPrecedence, MeetsAsInTree, IsExact}
use Rattle.race_scan.specs.declared.touch.Touch.{Touch}
use Rattle.race_scan.specs.declared.cells.FoundRace.{FoundRace}
use Rattle.race_scan.specs.Touches.{accesses_at, covers, plain_write, touches_of_release}
use Rattle.race_scan.specs.Value.{ScanValue, race_of}
use Rattle.race_scan.specs.Scan.{AreOnce, HasScanned, IsStretch}

-- a location of the stretch
abbrev pub HasLocation : FoundRace → ℕ → ℕ → Type 0
HasLocation f block x = (f.block ≡ block) × (f.slot.start ≤ x) × (x < f.slot.end)

-- the races of the accesses, one for each stretch that has one
pub record AreRacesOf (o : StrandOrder) (v : PlacesValue) (touches : List Touch) (races : List FoundRace) : Type 0 where
  -- of each location its first race, or nothing if it has none
  pub exact : (block x : ℕ) (slot : LocationSlot) → IsSlot v block x slot → IsExact o (accesses_at touches block x) (race_of races slot.number)
  pub there : (f : FoundRace) → In races f → IsStretch v f.block f.slot
  pub once : AreOnce races
  -- and no location was left out
  pub known : (t : Touch) (x : ℕ) → In touches t → covers t.region t.region.block x ≡ true → (slot : LocationSlot) × IsSlot v t.region.block x slot

-- the accesses come in the serial order of their strands
pub record AreSerial (o : StrandOrder) (touches : List Touch) : Type 0 where
  pub known : All (λ t. t.access.strand < o.strands) touches
  pub serial : AllPairs (λ t u. t.access.strand ≤ u.access.strand) touches

abbrev pub ScansAreExact : Type 0
ScansAreExact =
    (o : StrandOrder) → ExtendsPrecedence o → MeetsAsInTree o → (v : PlacesValue) (touches : List Touch) → AreSerial o touches
    → (scan : ScanValue) → HasScanned o v touches scan → AreRacesOf o v touches scan.races

-- the touches of a release are plain writes, of just the locations of its block that one of the regions has
pub record IsWriteOfAccessed (regions : List Region) (block strand line : ℕ) : Type 0 where
  pub access : (t : Touch) → In (touches_of_release regions block strand line) t → t.access ≡ plain_write strand line
  pub covers : (other x : ℕ) → ((t : Touch) × In (touches_of_release regions block strand line) t × Covers t.region other x) ↔ ((other ≡ block) × IsAccessed regions block x)

abbrev pub ReleasesWriteWhatIsAccessed : Type 0
ReleasesWriteWhatIsAccessed = (regions : List Region) (block strand line : ℕ) → IsWriteOfAccessed regions block strand line
