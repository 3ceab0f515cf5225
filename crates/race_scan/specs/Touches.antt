-- Accesses, and those of a location.
use Rattle.std.specs.Prelude.{◌==◌, ◌+◌, ◌&&◌, ◌||◌, ℕ, zero, suc, Bool, false, List, map, filter, nat_le, nat_lt}
use Rattle.std.specs.List.{list_any}
use Rattle.race_scan.specs.Common.{Region, run_start, CellAccess, PlainWrite}
use Rattle.race_scan.specs.declared.touch.Touch.{Touch}

-- whether a number below n passes
abbrev pub any_below : (ℕ → Bool) → ℕ → Bool
any_below test zero = false
any_below test (suc n) = test n || any_below test n

abbrev pub is_in_run : Region → ℕ → ℕ → Bool
is_in_run r x run = nat_le (run_start r run) x && nat_lt x (run_start r run + r.length)

-- whether the region has the location
abbrev pub covers : Region → ℕ → ℕ → Bool
covers r block x = (r.block == block) && any_below (is_in_run r x) r.runs

abbrev pub regions_of : List Touch → List Region
regions_of touches = map (λ t. t.region) touches

-- those of all accesses that are of the location, in their order
abbrev pub accesses_at : List Touch → ℕ → ℕ → List CellAccess
accesses_at touches block x = map (λ t. t.access) (filter (λ t. covers t.region block x) touches)

-- RELEASES

-- whether one of the regions has the location
abbrev pub is_accessed : List Region → ℕ → ℕ → Bool
is_accessed regions block x = list_any (λ r. covers r block x) regions

abbrev pub plain_write : ℕ → ℕ → CellAccess
plain_write strand line = record { strand = strand; kind = PlainWrite; line = line }

abbrev pub touch_of : CellAccess → Region → Touch
touch_of access r = record { region = r; access = access }

-- a release of a block writes each of its locations that one of the regions has
abbrev pub touches_of_release : List Region → ℕ → ℕ → ℕ → List Touch
touches_of_release regions block strand line = map (touch_of (plain_write strand line)) (filter (λ r. r.block == block) regions)
