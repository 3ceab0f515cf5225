-- Accesses of a location, and which of them clash.
use Rattle.std.specs.Prelude.{Bool, true, false, not, ◌&&◌, ◌||◌}
use Rattle.race_cells.specs.declared.access.CellAccessKind.{CellAccessKind}
use Rattle.race_cells.specs.declared.access.CellAccessKind.TheVariants.{PlainRead, PlainWrite, AtomicRead, AtomicWrite}
use Rattle.race_cells.specs.declared.access.CellAccess.{CellAccess}
use Rattle.race_cells.specs.declared.access.CellEntry.{CellEntry}
use Rattle.race_cells.specs.declared.access.CellRace.{CellRace}

abbrev pub writes : CellAccessKind → Bool
writes PlainRead = false
writes PlainWrite = true
writes AtomicRead = false
writes AtomicWrite = true

abbrev pub is_atomic : CellAccessKind → Bool
is_atomic PlainRead = false
is_atomic PlainWrite = false
is_atomic AtomicRead = true
is_atomic AtomicWrite = true

-- one of them writes, and not both are atomic
abbrev pub clash : CellAccessKind → CellAccessKind → Bool
clash a b = (writes a || writes b) && not (is_atomic a && is_atomic b)

-- what is kept of an access beside its kind
abbrev pub entry_of : CellAccess → CellEntry
entry_of a = record { strand = a.strand; line = a.line }

abbrev pub access_of : CellAccessKind → CellEntry → CellAccess
access_of kind e = record { strand = e.strand; kind = kind; line = e.line }

-- the race of an access of this kind with a later one
abbrev pub race_of : CellAccessKind → CellAccess → CellEntry → CellRace
race_of kind v u = record { first = access_of kind u; second = v }
