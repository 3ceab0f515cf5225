-- The races that a log tells, and those of a run.
use Rattle.std.specs.Prelude.{◌≡◌, ◌↔◌, ◌<◌, ◌≤◌, ℕ, Bool, true, false, Some, List, length}
use Rattle.run_race_laws.specs.Common.{StrandPrecedes as GraphPrecedes, TaskTurns, ProgramText, object_at, Object, Covers, clash, In, accesses, RaceAt, Field, FieldAccess, is_legal, machine_of, tasks_of, EntryValue, SettingsValue, field_limit, block_of, lines_of, events_told, turns_told}
use Rattle.run_race_laws.specs.Accesses.{ToldAccess, accesses_told, index_among}

-- two accesses that are told race at a location: both are of it, they clash, and neither's strand happens before the
-- other's in the graph with these turns
pub record ToldRaceAt (tasks : TaskTurns) (all : List ToldAccess) (block x : ℕ) (a b : ToldAccess) : Type 0 where
  pub first : In all a
  pub second : In all b
  pub covers_first : Covers a.access.region block x
  pub covers_second : Covers b.access.region block x
  pub clashing : clash a.access.kind b.access.kind ≡ true
  pub not_before : GraphPrecedes tasks a.strand b.strand → ⊥
  pub not_after : GraphPrecedes tasks b.strand a.strand → ⊥

-- an object's fields of a kind
abbrev pub count_of : Object → Bool → ℕ
count_of o true = length o.ints
count_of o false = length o.refs

-- the field is one of an object of the store
abbrev pub HasField : List (List Object) → Field → Type 0
HasField store field = (o : Object) × (object_at store field.name ≡ Some o) × (field.index < count_of o field.is_number)

-- the location is the field's
abbrev pub IsLocationOf : List (List Object) → Field → ℕ → ℕ → Type 0
IsLocationOf store field block x = (block_of field.name ≡ block) × (index_among (object_at store field.name) field.is_number field.index ≡ x)

-- accesses are told of the locations of fields alone
abbrev pub LogsTellFields : Type 0
LogsTellFields =
    (p : ProgramText) (s : SettingsValue) (journal : List EntryValue) → is_legal p s journal ≡ true
    → (a : ToldAccess) → In (accesses_told (events_told (lines_of p s journal))) a → (block x : ℕ) → Covers a.access.region block x
    → (field : Field) × HasField (machine_of p s journal).store field × IsLocationOf (machine_of p s journal).store field block x

-- in the log of a legal journal of at most 10^9 steps, what is told races at a field's location if and only if two
-- accesses of the run race for the field
abbrev pub LogsTellRaces : Type 0
LogsTellRaces =
    (p : ProgramText) (s : SettingsValue) (journal : List EntryValue) → is_legal p s journal ≡ true → length (tasks_of journal) ≤ 1000000000
    → let m = machine_of p s journal in
    let events = events_told (lines_of p s journal) in
    (field : Field) → HasField m.store field
    → ((i : ℕ) × (j : ℕ) × (u : FieldAccess) × (v : FieldAccess) × RaceAt m.edges (accesses p (field_limit s.version) (tasks_of journal)) field i j u v)
    ↔ ((a : ToldAccess) × (b : ToldAccess) × ToldRaceAt (turns_told events) (accesses_told events) (block_of field.name) (index_among (object_at m.store field.name) field.is_number field.index) a b)
