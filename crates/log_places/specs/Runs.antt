-- What marking a run does to the pages of its block.
use Rattle.std.specs.Prelude.{◌≡◌, ◌-◌, ◌*◌, ◌<◌, ◌≤◌, ℕ, min}
use Rattle.log_places.specs.declared.page.PageKey.{PageKey}
use Rattle.log_places.specs.Stretches.{marked}
use Rattle.log_places.specs.Places.{at, page_key, PlacesValue}

-- the locations of a block from `start` up to `end` that lie on a page, by their places there
abbrev pub first_on : ℕ → ℕ → ℕ
first_on start page = start - page * 4096

abbrev pub end_on : ℕ → ℕ → ℕ
end_on end page = min 4096 (end - page * 4096)

-- the locations of a block from `start` up to `end` were marked, on each page that has some of them
pub record IsRunMarked (old new : PlacesValue) (block start end : ℕ) : Type 0 where
  pub here : (p : ℕ) → first_on start p < end_on end p → at new (page_key block p) ≡ marked (first_on start p) (end_on end p) (at old (page_key block p))
  pub none : (p : ℕ) → end_on end p ≤ first_on start p → at new (page_key block p) ≡ at old (page_key block p)
  pub others : (k : PageKey) → (k.block ≡ block → ⊥) → at new k ≡ at old k
