-- The cells of all stretches as a value.
use Rattle.std.specs.Prelude.{◌==◌, ◌++◌, ◌∷◌, ℕ, Option, Some, None, List, [], slice_get, slice_set, if◌then◌else◌}
use Rattle.race_scan.specs.Common.{LocationSlot, CellAccess, CellRace, Stacks, StrandOrder, after, race_at}
use Rattle.race_scan.specs.declared.cells.FoundRace.{FoundRace}

pub record ScanValue : Type 0 where
  pub cells : List (Option Stacks)
  pub races : List FoundRace

abbrev pub found_race : ℕ → LocationSlot → CellRace → FoundRace
found_race block slot race = record { block = block; slot = slot; race = race }

abbrev pub with_race : List FoundRace → ℕ → LocationSlot → Option CellRace → List FoundRace
with_race races block slot None = races
with_race races block slot (Some race) = races ++ found_race block slot race ∷ []

abbrev pub visit_cell : StrandOrder → ℕ → CellAccess → ScanValue → LocationSlot → Option (Option Stacks) → ScanValue
visit_cell o block access scan slot None = scan
visit_cell o block access scan slot (Some cell) =
    record { cells = slice_set scan.cells slot.number (after o cell access); races = with_race scan.races block slot (race_at o cell access) }

-- once a stretch is accessed
abbrev pub visited : StrandOrder → ℕ → CellAccess → ScanValue → LocationSlot → ScanValue
visited o block access scan slot = visit_cell o block access scan slot (slice_get scan.cells slot.number)

-- the race that was found of the stretch with this number
abbrev pub race_of : List FoundRace → ℕ → Option CellRace
race_of [] number = None
race_of (f ∷ fs) number = if f.slot.number == number then Some f.race else race_of fs number
