-- The stretches of all pages, of 4,096 locations each.
use Rattle.std.specs.Prelude.{◌≡◌, ◌+◌, ◌-◌, ◌*◌, ◌/◌, ◌%◌, ◌^◌, ◌<◌, ◌≤◌, ◌==◌, ◌&&◌, ℕ, min, zero, suc, Bool, true, false, List, [], ◌∷◌, if◌then◌else◌}
use Rattle.plain_vec.specs.Members.{In}
use Rattle.log_places.specs.declared.stretch.Stretch.{Stretch}
use Rattle.log_places.specs.declared.page.PageKey.{PageKey}
use Rattle.log_places.specs.declared.region.Region.{Region}
use Rattle.log_places.specs.Stretches.{AreCut, Has}

-- pages in the order in which they were first accessed, and the stretches of each
pub record PlacesValue : Type 0 where
  pub keys : List PageKey
  pub pages : List (List Stretch)

abbrev pub same_page : PageKey → PageKey → Bool
same_page k x = (k.block == x.block) && (k.page == x.page)

-- the first of the keys that is this page stands here
abbrev pub IsFirstPage : List PageKey → PageKey → ℕ → Type 0
IsFirstPage [] k i = ⊥
IsFirstPage (x ∷ xs) k zero = same_page k x ≡ true
IsFirstPage (x ∷ xs) k (suc i) = (same_page k x ≡ false) × IsFirstPage xs k i

abbrev pub found : List PageKey → List (List Stretch) → PageKey → List Stretch
found [] ps k = []
found (x ∷ xs) [] k = []
found (x ∷ xs) (p ∷ ps) k = if same_page k x then p else found xs ps k

-- the stretches of a page; one that wasn't accessed has none
abbrev pub at : PlacesValue → PageKey → List Stretch
at v k = found v.keys v.pages k

abbrev pub page_key : ℕ → ℕ → PageKey
page_key block page = record { block = block; page = page }

-- what was cut stays cut
abbrev pub KeepsCuts : PlacesValue → PlacesValue → Type 0
KeepsCuts old new = (k : PageKey) (a b : ℕ) → AreCut (at old k) a b → AreCut (at new k) a b

-- ---- regions

abbrev pub run_start : Region → ℕ → ℕ
run_start r i = r.offset + i * r.apart

-- no run is empty or overlaps another one, and all locations are below the limit
pub record IsRegion (r : Region) : Type 0 where
  pub some : 1 ≤ r.length
  pub distinct : r.length ≤ r.apart
  pub within : run_start r (r.runs - 1) + r.length ≤ 2 ^ 60

-- the region has the location
pub record Covers (r : Region) (block location : ℕ) : Type 0 where
  pub of_block : r.block ≡ block
  pub run : ℕ
  pub there : run < r.runs
  pub from : run_start r run ≤ location
  pub below : location < run_start r run + r.length

-- in each page the locations of the block from `start` up to `end` are cut
abbrev pub IsRunCut : PlacesValue → ℕ → ℕ → ℕ → Type 0
IsRunCut v block start end = (page : ℕ) → AreCut (at v (page_key block page)) (start - page * 4096) (min 4096 (end - page * 4096))

-- each run of the region is cut
abbrev pub IsRegionCut : PlacesValue → Region → Type 0
IsRegionCut v r = (i : ℕ) → i < r.runs → IsRunCut v r.block (run_start r i) (run_start r i + r.length)

-- the stretch of a location
pub record IsIn (v : PlacesValue) (block location : ℕ) (s : Stretch) : Type 0 where
  pub among : In (at v (page_key block (location / 4096))) s
  pub has : Has s (location % 4096)
