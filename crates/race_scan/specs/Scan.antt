-- What a scan knows of the accesses that it has seen.
use Rattle.std.specs.Prelude.{◌≡◌, ◌<◌, ◌≤◌, ℕ, true, Some, List, [], ◌∷◌, length, slice_get}
use Rattle.race_scan.specs.Common.{In, LocationSlot, PlacesValue, stretch_count, IsSlot, StrandOrder, reported, scanned}
use Rattle.race_scan.specs.declared.touch.Touch.{Touch}
use Rattle.race_scan.specs.declared.cells.FoundRace.{FoundRace}
use Rattle.race_scan.specs.Touches.{accesses_at, covers}
use Rattle.race_scan.specs.Value.{ScanValue, race_of}

-- no two are of one stretch
abbrev pub AreOnce : List FoundRace → Type 0
AreOnce [] = Unit {0}
AreOnce (f ∷ fs) = ((g : FoundRace) → In fs g → f.slot.number ≡ g.slot.number → ⊥) × AreOnce fs

-- the block's slot is that of each location of its stretch, of which there is one
pub record IsStretch (v : PlacesValue) (block : ℕ) (slot : LocationSlot) : Type 0 where
  pub some : slot.start < slot.end
  pub each : (x : ℕ) → slot.start ≤ x → x < slot.end → IsSlot v block x slot

-- it has seen these accesses
pub record HasScanned (o : StrandOrder) (v : PlacesValue) (touches : List Touch) (scan : ScanValue) : Type 0 where
  pub size : length scan.cells ≡ stretch_count v
  pub cell : (block x : ℕ) (slot : LocationSlot) → IsSlot v block x slot → slice_get scan.cells slot.number ≡ Some (scanned o (accesses_at touches block x))
  pub race : (block x : ℕ) (slot : LocationSlot) → IsSlot v block x slot → race_of scan.races slot.number ≡ reported o (accesses_at touches block x)
  pub there : (f : FoundRace) → In scan.races f → IsStretch v f.block f.slot
  pub once : AreOnce scan.races
  pub known : (t : Touch) (x : ℕ) → In touches t → covers t.region t.region.block x ≡ true → (slot : LocationSlot) × IsSlot v t.region.block x slot
