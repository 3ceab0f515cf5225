-- The stretches of a block: those of each of its pages, page after page.
use Rattle.std.specs.Prelude.{◌≡◌, ◌==◌, ◌+◌, ◌*◌, ◌^◌, ◌≤◌, ℕ, nat_eq, Option, Some, None, List, [], ◌∷◌, ◌++◌, length, drop, slice_get, if◌then◌else◌}
use Rattle.std.specs.HashMap.{get}
use Rattle.plain_vec.specs.Members.{In}
use Rattle.log_places.specs.declared.stretch.Stretch.{Stretch}
use Rattle.log_places.specs.declared.page.PageKey.{PageKey}
use Rattle.log_places.specs.declared.numbers.LocationSlot.{LocationSlot}
use Rattle.log_places.specs.declared.links.PageLinks.{PageLinks}
use Rattle.log_places.specs.Places.{PlacesValue}
use Rattle.log_places.specs.Numbers.{stretches_before}

-- the slots of the stretches of a page that begins at `base`, where the first one has number n
abbrev pub slots_of_page : ℕ → ℕ → List Stretch → List LocationSlot
slots_of_page base n [] = []
slots_of_page base n (s ∷ ss) = record { number = n; start = base + s.start; end = base + s.end } ∷ slots_of_page base (n + 1) ss

-- of a block's pages among pages, where the first stretch of all has number n
abbrev pub slots_on : ℕ → ℕ → List PageKey → List (List Stretch) → List LocationSlot
slots_on block n [] ps = []
slots_on block n (k ∷ ks) [] = []
slots_on block n (k ∷ ks) (p ∷ ps) =
    if k.block == block then slots_of_page (k.page * 4096) n p ++ slots_on block (n + length p) ks ps else slots_on block (n + length p) ks ps

-- the slots of all stretches of a block
abbrev pub slots_of_block : PlacesValue → ℕ → List LocationSlot
slots_of_block v block = slots_on block 0 v.keys v.pages

-- no two have one number
abbrev pub SlotsDiffer : List LocationSlot → Type 0
SlotsDiffer [] = Unit {0}
SlotsDiffer (s ∷ ss) = ((t : LocationSlot) → In ss t → s.number ≡ t.number → ⊥) × SlotsDiffer ss

-- ---- from page to page of a block

-- the place of the block's first page among pages, of which the first stands at place k
abbrev pub next_page : ℕ → ℕ → List PageKey → Option ℕ
next_page block k [] = None
next_page block k (x ∷ xs) = if x.block == block then Some k else next_page block (k + 1) xs

-- links lead from page to page of one block
pub record ArePageLinks (keys : List PageKey) (links : PageLinks) : Type 0 where
  pub heads : (block : ℕ) → get nat_eq links.heads block ≡ next_page block 0 keys
  pub size : length links.nexts ≡ length keys
  pub nexts : (k : ℕ) (x : PageKey) → slice_get keys k ≡ Some x → slice_get links.nexts k ≡ Some (next_page x.block (k + 1) (drop (k + 1) keys))

-- no page lies behind the last location that there may be
abbrev pub PagesAreInRange : List PageKey → Type 0
PagesAreInRange [] = Unit {0}
PagesAreInRange (k ∷ ks) = (k.page * 4096 ≤ 2 ^ 60) × PagesAreInRange ks

-- the slots of the page at a place were added
abbrev pub AddsPage : PlacesValue → ℕ → List LocationSlot → List LocationSlot → Type 0
AddsPage v i old new = (k : PageKey) (p : List Stretch) → slice_get v.keys i ≡ Some k → slice_get v.pages i ≡ Some p → new ≡ old ++ slots_of_page (k.page * 4096) (stretches_before v.pages i) p
