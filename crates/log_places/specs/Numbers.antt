-- Numbers of stretches: page after page, in each in ascending order.
use Rattle.std.specs.Prelude.{◌≡◌, ◌+◌, ◌*◌, ◌/◌, ℕ, zero, suc, Some, List, [], ◌∷◌, length, slice_get, sum_by}
use Rattle.log_places.specs.declared.stretch.Stretch.{Stretch}
use Rattle.log_places.specs.declared.page.PageKey.{PageKey}
use Rattle.log_places.specs.declared.numbers.LocationSlot.{LocationSlot}
use Rattle.log_places.specs.Stretches.{Ascending, Has}
use Rattle.log_places.specs.Places.{at, page_key, IsFirstPage, IsIn, PlacesValue}

-- how many stretches there are
abbrev pub stretch_count : PlacesValue → ℕ
stretch_count v = sum_by length v.pages

-- how many stretches so many first pages have
abbrev pub stretches_before : List (List Stretch) → ℕ → ℕ
stretches_before ps zero = 0
stretches_before [] (suc i) = 0
stretches_before (p ∷ ps) (suc i) = length p + stretches_before ps i

-- the numbers of the first stretches of pages, from one on
abbrev pub firsts_from : ℕ → List (List Stretch) → List ℕ
firsts_from n [] = []
firsts_from n (p ∷ ps) = n ∷ firsts_from (n + length p) ps

-- the number of a page's stretch
pub record IsStretchNumber (v : PlacesValue) (key : PageKey) (s : Stretch) (number : ℕ) : Type 0 where
  pub page : ℕ
  pub place : ℕ
  pub stretches : List Stretch
  pub of_page : IsFirstPage v.keys key page
  pub there : slice_get v.pages page ≡ Some stretches
  pub at : slice_get stretches place ≡ Some s
  pub is : number ≡ stretches_before v.pages page + place

-- the slot of a location: the number of its stretch, and where in the block the stretch begins and ends
pub record IsSlot (v : PlacesValue) (block location : ℕ) (slot : LocationSlot) : Type 0 where
  pub stretch : Stretch
  pub among : IsIn v block location stretch
  pub ordered : Ascending 0 (at v (page_key block (location / 4096)))
  pub number : IsStretchNumber v (page_key block (location / 4096)) stretch slot.number
  pub start : slot.start ≡ location / 4096 * 4096 + stretch.start
  pub end : slot.end ≡ location / 4096 * 4096 + stretch.end

-- the slot of a location of the page that stands at a place, where the page begins at `base`
pub record IsSlotAt (pages : List (List Stretch)) (page base location : ℕ) (slot : LocationSlot) : Type 0 where
  pub stretches : List Stretch
  pub place : ℕ
  pub stretch : Stretch
  pub there : slice_get pages page ≡ Some stretches
  pub at : slice_get stretches place ≡ Some stretch
  pub ordered : Ascending 0 stretches
  pub has : Has stretch location
  pub number : slot.number ≡ stretches_before pages page + place
  pub start : slot.start ≡ base + stretch.start
  pub end : slot.end ≡ base + stretch.end
