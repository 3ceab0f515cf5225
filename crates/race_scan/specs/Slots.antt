-- Slots of stretches.
use Rattle.std.specs.Prelude.{◌≡◌, ◌<◌, ◌≤◌, ℕ, Bool, true, List}
use Rattle.race_scan.specs.Common.{In, Region, LocationSlot, PlacesValue, IsSlot, SlotsDiffer}
use Rattle.race_scan.specs.Touches.{covers}

-- the slots of the stretches of those locations of a block that pass a test
pub record AreSlots (v : PlacesValue) (block : ℕ) (has : ℕ → Bool) (slots : List LocationSlot) : Type 0 where
  pub are : (s : LocationSlot) (x : ℕ) → In slots s → s.start ≤ x → x < s.end → IsSlot v block x s × (has x ≡ true)
  pub some : (s : LocationSlot) → In slots s → s.start < s.end
  pub all : (x : ℕ) → has x ≡ true → (s : LocationSlot) × In slots s × (s.start ≤ x) × (x < s.end)
  pub apart : SlotsDiffer slots

-- of a region's locations, those below `at`
pub record AreUpto (v : PlacesValue) (r : Region) (at : ℕ) (slots : List LocationSlot) : Type 0 where
  pub are : (s : LocationSlot) (x : ℕ) → In slots s → s.start ≤ x → x < s.end → IsSlot v r.block x s × (covers r r.block x ≡ true)
  pub some : (s : LocationSlot) → In slots s → s.start < s.end
  pub ended : (s : LocationSlot) → In slots s → s.end ≤ at
  pub all : (x : ℕ) → covers r r.block x ≡ true → x < at → (s : LocationSlot) × In slots s × (s.start ≤ x) × (x < s.end)
  pub apart : SlotsDiffer slots
