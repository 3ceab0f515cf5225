-- The scan of a location: what a cell keeps of the accesses so far, and which race the next one makes.
use Rattle.std.specs.Prelude.{Option, Some, None, List, [], ◌∷◌, option_map, option_to_list, if◌then◌else◌, is_some, fold}
use Rattle.std.specs.Option.{option_or}
use Rattle.race_cells.specs.declared.access.CellAccessKind.{CellAccessKind}
use Rattle.race_cells.specs.declared.access.CellAccessKind.TheVariants.{PlainRead, PlainWrite, AtomicRead, AtomicWrite}
use Rattle.race_cells.specs.declared.access.CellAccess.{CellAccess}
use Rattle.race_cells.specs.declared.access.CellEntry.{CellEntry}
use Rattle.race_cells.specs.declared.access.CellRace.{CellRace}
use Rattle.race_cells.specs.declared.stacks.Stacks.{Stacks}
use Rattle.race_cells.specs.CellAccess.{clash, entry_of, race_of}
use Rattle.race_cells.specs.Order.{StrandOrder}
use Rattle.race_cells.specs.AccessStack.{lowest_unordered, settled}

-- the stack of a kind
abbrev pub stack_of : Stacks → CellAccessKind → List CellEntry
stack_of s PlainRead = s.plain_reads
stack_of s PlainWrite = option_to_list s.plain_write
stack_of s AtomicRead = s.atomic_reads
stack_of s AtomicWrite = s.atomic_writes

-- nothing is kept yet
abbrev pub no_stacks : Stacks
no_stacks = record { plain_reads = []; plain_write = None; atomic_reads = []; atomic_writes = [] }

-- a plain write and plain reads alone
abbrev pub with_reads : Option CellEntry → List CellEntry → Stacks
with_reads write reads = record no_stacks { plain_reads = reads; plain_write = write }

-- the race of v with a stack of this kind: with the first from the bottom that doesn't happen before v
abbrev pub race_in : StrandOrder → CellAccess → CellAccessKind → List CellEntry → Option CellRace
race_in o v kind stack = if clash kind v.kind then option_map (race_of kind v) (lowest_unordered o v.strand stack) else None

-- by kinds
abbrev pub race_among : StrandOrder → CellAccess → Stacks → Option CellRace
race_among o v s =
    option_or
    (option_or (race_in o v PlainRead (stack_of s PlainRead)) (race_in o v PlainWrite (stack_of s PlainWrite)))
    (option_or (race_in o v AtomicRead (stack_of s AtomicRead)) (race_in o v AtomicWrite (stack_of s AtomicWrite)))

-- a plain write stands for all before it; anything else goes to its own stack
abbrev pub kept_by : StrandOrder → CellAccess → Stacks → CellAccessKind → Stacks
kept_by o v s PlainRead = record s { plain_reads = settled o (entry_of v) s.plain_reads }
kept_by o v s PlainWrite = record no_stacks { plain_write = Some (entry_of v) }
kept_by o v s AtomicRead = record s { atomic_reads = settled o (entry_of v) s.atomic_reads }
kept_by o v s AtomicWrite = record s { atomic_writes = settled o (entry_of v) s.atomic_writes }

abbrev pub keep : StrandOrder → CellAccess → Stacks → Stacks
keep o v s = kept_by o v s v.kind

-- A cell is its stacks, or None once a race was reported: it is done.

-- the race that the next access is reported with
abbrev pub race_at : StrandOrder → Option Stacks → CellAccess → Option CellRace
race_at o None v = None
race_at o (Some s) v = race_among o v s

-- the cell after the next access
abbrev pub after : StrandOrder → Option Stacks → CellAccess → Option Stacks
after o None v = None
after o (Some s) v = if is_some (race_among o v s) then None else Some (keep o v s)

-- the cell after these accesses
abbrev pub scanned : StrandOrder → List CellAccess → Option Stacks
scanned o accesses = fold (after o) (Some no_stacks) accesses

-- the race that is reported of these accesses, from a cell on
abbrev pub reported_from : StrandOrder → Option Stacks → List CellAccess → Option CellRace
reported_from o cell [] = None
reported_from o cell (v ∷ vs) = option_or (race_at o cell v) (reported_from o (after o cell v) vs)

-- the race that is reported of a location's accesses
abbrev pub reported : StrandOrder → List CellAccess → Option CellRace
reported o accesses = reported_from o (Some no_stacks) accesses
