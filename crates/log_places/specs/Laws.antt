-- What stretches are right about.
use Rattle.std.specs.Prelude.{◌≡◌, ◌/◌, ◌≤◌, ◌<◌, ℕ}
use Rattle.log_places.specs.declared.stretch.Stretch.{Stretch}
use Rattle.log_places.specs.declared.region.Region.{Region}
use Rattle.log_places.specs.declared.page.PageKey.{PageKey}
use Rattle.log_places.specs.declared.numbers.LocationSlot.{LocationSlot}
use Rattle.log_places.specs.Numbers.{stretch_count, IsStretchNumber, IsSlot}
use Rattle.log_places.specs.Places.{Covers, IsIn, IsRegionCut, IsRunCut, PlacesValue}

-- once a region is marked, it has all locations of a stretch or none
abbrev pub StretchesAreWhole : Type 0
StretchesAreWhole =
    (v : PlacesValue) (r : Region) → IsRegionCut v r → (block x y : ℕ) (s : Stretch) → x / 4096 ≡ y / 4096 → IsIn v block x s → IsIn v block y s
    → Covers r block x → Covers r block y

-- once a region is marked, each of its locations is in a stretch
abbrev pub MarkedAreThere : Type 0
MarkedAreThere =
    (v : PlacesValue) (r : Region) → IsRegionCut v r → (block x : ℕ) → Covers r block x → (s : Stretch) × IsIn v block x s

-- no two stretches have one number
abbrev pub NumbersAreDistinct : Type 0
NumbersAreDistinct =
    (v : PlacesValue) (k l : PageKey) (s t : Stretch) (number : ℕ) → IsStretchNumber v k s number → IsStretchNumber v l t number → (k ≡ l) × (s ≡ t)

-- slots are apart: a location has one, and no two have one number
pub record SlotsAreOne : Type 0 where
  pub within : (v : PlacesValue) (block x : ℕ) (s : LocationSlot) → IsSlot v block x s → (s.start ≤ x) × (x < s.end)
  pub counted : (v : PlacesValue) (block x : ℕ) (s : LocationSlot) → IsSlot v block x s → s.number < stretch_count v
  pub one : (v : PlacesValue) (block x : ℕ) (s t : LocationSlot) → IsSlot v block x s → IsSlot v block x t → s ≡ t
  pub same : (v : PlacesValue) (block other x y : ℕ) (s t : LocationSlot) → IsSlot v block x s → IsSlot v other y t → s.number ≡ t.number → (block ≡ other) × (s ≡ t)
  -- where a run is marked, the slot of one of its locations is within the run, and is that of each location of its stretch
  pub cut : (v : PlacesValue) (block start end x : ℕ) (s : LocationSlot) → IsRunCut v block start end → start ≤ x → x < end → IsSlot v block x s
      → (start ≤ s.start) × (s.end ≤ end) × ((y : ℕ) → s.start ≤ y → y < s.end → IsSlot v block y s)
