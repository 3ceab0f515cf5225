-- What acts access.
use Rattle.std.specs.Prelude.{ℕ, ◌+◌, Option, Some, None, List, [], ◌∷◌, ◌++◌, option_map, option_to_list}
use Rattle.std.specs.List.{flat_map}
use Rattle.log_lines.specs.declared.line.AccessKind.{AccessKind as LineKind}
use Rattle.log_lines.specs.declared.line.AccessKind.TheVariants as lines
use Rattle.log_lines.specs.declared.line.LogPlace.{LogPlace}
use Rattle.log_lines.specs.declared.line.Reference.{Reference}
use Rattle.log_lines.specs.declared.line.Act.{Act}
use Rattle.log_lines.specs.declared.line.Act.TheVariants as acts
use Rattle.log_places.specs.declared.region.Region.{Region}
use Rattle.race_scan.specs.below.race_cells.{CellAccessKind, PlainRead, PlainWrite, AtomicRead, AtomicWrite}
use Rattle.race_scan.specs.declared.touch.Touch.{Touch}
use Rattle.race_scan.specs.Touches.{touches_of_release}
use Rattle.log_touches.specs.declared.access.ActAccess.{ActAccess}

-- the same kinds, as lines name them and as the scan of a location does
abbrev pub cell_kind_of : LineKind → CellAccessKind
cell_kind_of lines.Read = PlainRead
cell_kind_of lines.Write = PlainWrite
cell_kind_of lines.AtomicRead = AtomicRead
cell_kind_of lines.AtomicWrite = AtomicWrite

abbrev pub region_of : LogPlace → Region
region_of p = record { block = p.block; offset = p.offset; length = p.length; runs = p.runs; apart = p.apart }

abbrev pub location_of : Reference → Region
location_of r = record { block = r.block; offset = r.offset; length = 1; runs = 1; apart = 1 }

abbrev pub act_access : Region → CellAccessKind → Option ActAccess
act_access region kind = Some (record { region = region; kind = kind })

-- a read that yields a reference is a plain read of its location, and a write of one a plain write
abbrev pub access_of : Act → Option ActAccess
access_of (acts.Access a) = act_access (region_of a.place) (cell_kind_of a.kind)
access_of (acts.Yield r) = act_access (location_of r) PlainRead
access_of (acts.Store r) = act_access (location_of r) PlainWrite
access_of (acts.Birth block length) = None
access_of (acts.Release block) = None
access_of (acts.Work units) = None
access_of (acts.Spawn c) = None
access_of (acts.Join c) = None
access_of acts.Finish = None

-- the access by the strand of serial number s, which act number n of the log tells
abbrev pub touch_by : ℕ → ℕ → ActAccess → Touch
touch_by s n a = record { region = a.region; access = record { strand = s; kind = a.kind; line = n } }

abbrev pub touches_of_access : ℕ → ℕ → Act → List Touch
touches_of_access s n act = option_to_list (option_map (touch_by s n) (access_of act))

-- in a log whose acts access these regions: a release is a plain write of each location of its block that is accessed
abbrev pub touches_of_act : List Region → ℕ → ℕ → Act → List Touch
touches_of_act regions s n (acts.Release block) = touches_of_release regions block s n
touches_of_act regions s n act = touches_of_access s n act

-- of acts whose first one has number n
abbrev pub touches_from : List Region → ℕ → ℕ → List Act → List Touch
touches_from regions s n [] = []
touches_from regions s n (a ∷ more) = touches_of_act regions s n a ++ touches_from regions s (n + 1) more

-- the locations that acts access
abbrev pub regions_of_act : Act → List Region
regions_of_act act = option_to_list (option_map (λ a. a.region) (access_of act))

abbrev pub regions_of_acts : List Act → List Region
regions_of_acts acts = flat_map regions_of_act acts
