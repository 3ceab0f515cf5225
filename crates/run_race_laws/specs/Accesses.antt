-- The accesses that a log tells, and those of a run.
use Rattle.std.specs.Prelude.{◌≡◌, ◌+◌, ℕ, Bool, true, false, Option, List, length, map, option_map, option_to_list}
use Rattle.std.specs.List.{flat_map}
use Rattle.run_race_laws.specs.Common.{GraphStrand, ProgramText, object_at, Object, Event, Act, Region, CellAccessKind, PlainRead, PlainWrite, AtomicRead, AtomicWrite, ActAccess, access_of, region_of, accesses, object_references, Field, FieldAccess, is_legal, machine_of, tasks_of, EntryValue, SettingsValue, field_limit, in_log, location, lines_of, events_told}

-- an access that is told, by a strand
pub record ToldAccess : Type 0 where
  pub strand : GraphStrand
  pub access : ActAccess

abbrev pub told_access : GraphStrand → ActAccess → ToldAccess
told_access u a = record { strand = u; access = a }

-- the access that an act is, if it is one
abbrev pub accesses_by : GraphStrand → Act → List ToldAccess
accesses_by u act = option_to_list (option_map (told_access u) (access_of act))

-- the accesses of what happens, in their order
abbrev pub accesses_told : List Event → List ToldAccess
accesses_told events = flat_map (λ e. accesses_by e.strand e.act) events

-- THOSE OF A RUN

-- the kind of an access by whether it writes, and whether it is by `cas`
abbrev pub access_kind_of : Bool → Bool → CellAccessKind
access_kind_of false false = PlainRead
access_kind_of true false = PlainWrite
access_kind_of false true = AtomicRead
access_kind_of true true = AtomicWrite

-- a field's index among all fields of its object, of which the references come first
abbrev pub index_among : Option Object → Bool → ℕ → ℕ
index_among o false k = k
index_among o true k = length (object_references o) + k

abbrev pub field_region : List (List Object) → Field → Region
field_region store f = region_of (location f.name (index_among (object_at store f.name) f.is_number f.index))

-- an access as a log tells it, with these objects
abbrev pub as_told : List (List Object) → FieldAccess → ToldAccess
as_told store a = told_access (in_log a.strand) (record { region = field_region store a.field; kind = access_kind_of a.writes a.swaps })

-- the log of a legal journal tells the accesses of its run
abbrev pub LogsTellAccesses : Type 0
LogsTellAccesses =
    (p : ProgramText) (s : SettingsValue) (journal : List EntryValue) → is_legal p s journal ≡ true
    → accesses_told (events_told (lines_of p s journal)) ≡ map (as_told (machine_of p s journal).store) (accesses p (field_limit s.version) (tasks_of journal))
