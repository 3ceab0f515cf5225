-- Into how many stretches regions cut their locations.
use Rattle.std.specs.Prelude.{◌≡◌, ◌⊎◌, ◌↔◌, ◌+◌, ◌-◌, ◌*◌, ◌%◌, ◌<◌, ◌≤◌, ℕ, List, [], ◌∷◌, length}
use Rattle.plain_vec.specs.Members.{In}
use Rattle.log_places.specs.declared.stretch.Stretch.{Stretch}
use Rattle.log_places.specs.declared.page.PageKey.{PageKey}
use Rattle.log_places.specs.declared.region.Region.{Region}
use Rattle.log_places.specs.Stretches.{Ascending, AreWith}
use Rattle.log_places.specs.Places.{at, run_start, Covers, PlacesValue}

-- one of the regions has the location
abbrev pub IsAccessed : List Region → ℕ → ℕ → Type 0
IsAccessed rs block x = (r : Region) × In rs r × Covers r block x

-- a run of the region begins or ends at the location
pub record HasEdge (r : Region) (block x : ℕ) : Type 0 where
  pub of_block : r.block ≡ block
  pub run : ℕ
  pub there : run < r.runs
  pub at : (x ≡ run_start r run) ⊎ (x ≡ run_start r run + r.length)

abbrev pub IsEdge : List Region → ℕ → ℕ → Type 0
IsEdge rs block x = (r : Region) × In rs r × HasEdge r block x

-- a stretch begins at the location: it is accessed, and a page begins there, or a run begins or ends
pub record BeginsStretch (rs : List Region) (block x : ℕ) : Type 0 where
  pub accessed : IsAccessed rs block x
  pub border : (x % 4096 ≡ 0) ⊎ IsEdge rs block x

-- no two of them are the same
abbrev pub AreDifferent : {A : Type 0} → List A → Type 0
AreDifferent [] = Unit {0}
AreDifferent (x ∷ xs) = (In xs x → ⊥) × AreDifferent xs

-- the regions cut their locations into so many stretches
pub record HaveStretches (rs : List Region) (count : ℕ) : Type 0 where
  -- where stretches begin
  pub starts : List (ℕ × ℕ)
  pub different : AreDifferent starts
  pub are : (block x : ℕ) → In starts (block, x) ↔ BeginsStretch rs block x
  pub number : length starts ≡ count

-- they have more stretches than the limit
abbrev pub AreOver : List Region → ℕ → Type 0
AreOver rs limit = (count : ℕ) × HaveStretches rs count × (limit < count)

-- WHAT PAGES HAVE

-- the stretches of a page have just these of its locations, and are cut just at these edges
pub record AreCutAlong (has edge : ℕ → Type 0) (ss : List Stretch) : Type 0 where
  pub ordered : Ascending 0 ss
  pub within : (s : Stretch) → In ss s → s.end ≤ 4096
  pub all : (x : ℕ) → x < 4096 → has x → AreWith ss x
  pub only : (x : ℕ) → x < 4096 → AreWith ss x → has x
  pub start : (s : Stretch) → In ss s → (s.start ≡ 0) ⊎ edge s.start
  pub end : (s : Stretch) → In ss s → (s.end ≡ 4096) ⊎ edge s.end
  pub uncut : (s : Stretch) (x : ℕ) → In ss s → edge x → s.start < x → x < s.end → ⊥
  pub near : (x : ℕ) → 0 < x → x < 4096 → edge x → has x ⊎ has (x - 1)

-- just these regions are marked
pub record AreMarked (rs : List Region) (v : PlacesValue) : Type 0 where
  pub different : AreDifferent v.keys
  pub page : (k : PageKey) → AreCutAlong (λ x. IsAccessed rs k.block (k.page * 4096 + x)) (λ x. IsEdge rs k.block (k.page * 4096 + x)) (at v k)
