-- What a run's log tells of births, reads and uses of blocks.
use Rattle.std.specs.Prelude.{◌≡◌, ◌⊎◌, ℕ, true, false, Option, Some, None, List, ◌∷◌, ◌++◌}
use Rattle.hh_model.specs.Effect.{object_at}
use Rattle.hh_model.specs.Precedence.{precedes}
use Rattle.hh_model.specs.Step.{owner_of}
use Rattle.hh_model.specs.declared.data.End.TheVariants.{Entangled}
use Rattle.hh_model.specs.declared.data.MachineState.{MachineState}
use Rattle.hh_model.specs.declared.data.Name.{Name}
use Rattle.hh_model.specs.declared.data.Object.{Object}
use Rattle.hh_model.specs.declared.data.Strand.{Strand}
use Rattle.log_births.specs.Blocks.{born, used, yielded}
use Rattle.plain_vec.specs.Members.{In}
use Rattle.run_log_laws.specs.Graph.{StrandHasBegun, in_log}
use Rattle.run_log_laws.specs.below.hh_lang.{ProgramText}
use Rattle.run_turn_laws.specs.Events.{events_told}
use Rattle.run_turn_laws.specs.below.log_form.{Event}
use Rattle.run_turn_laws.specs.below.log_lines.{Act}
use Rattle.run_turn_laws.specs.below.run_ledger.{is_legal, machine_of}
use Rattle.run_turn_laws.specs.below.run_log.{block_of, lines_of}
use Rattle.run_turn_laws.specs.below.run_trace.{EntryValue, SettingsValue}

-- BIRTHS

-- the birth of an object is told, on this strand
abbrev pub BirthIsTold : List Event → Name → Strand → Type 0
BirthIsTold events n s = (e : Event) × In events e × (born e.act ≡ Some (block_of n)) × (e.strand ≡ in_log s)

-- what happens is the birth of an object of the store, on its strand
abbrev pub IsBirthIn : List (List Object) → Event → Type 0
IsBirthIn store e = (n : Name) × (o : Object) × (object_at store n ≡ Some o) × (born e.act ≡ Some (block_of n)) × (e.strand ≡ in_log o.strand)

-- the births that are told are those of the objects
pub record AreBirthsTold (store : List (List Object)) (events : List Event) : Type 0 where
  pub all : (n : Name) (o : Object) → object_at store n ≡ Some o → BirthIsTold events n o.strand
  pub just : (e : Event) (block : ℕ) → In events e → born e.act ≡ Some block → IsBirthIn store e

-- READS AND USES

-- what happens sees this object, as a read that yields it or as an access of it does, and is on this strand
pub record IsSightOf (sees : Act → Option ℕ) (m : MachineState) (e : Event) (n : Name) (o : Object) (s : Strand) : Type 0 where
  pub seen : sees e.act ≡ Some (block_of n)
  pub stored : object_at m.store n ≡ Some o
  pub on : e.strand ≡ in_log s
  pub begun : StrandHasBegun m s

-- the strand is one that the object's happens before
abbrev pub IsInTime : (Act → Option ℕ) → MachineState → Event → Type 0
IsInTime sees m e = (n : Name) × (o : Object) × (s : Strand) × IsSightOf sees m e n o s × (precedes m.edges o.strand s ≡ true)

abbrev pub AreInTime : (Act → Option ℕ) → MachineState → List Event → Type 0
AreInTime sees m events = (e : Event) (block : ℕ) → In events e → sees e.act ≡ Some block → IsInTime sees m e

abbrev pub IsUnstopped : MachineState → Type 0
IsUnstopped m = (reader owner : ℕ) → m.end ≡ Some (Entangled reader owner) → ⊥

-- the run was stopped on the last read that yields an object, whose strand doesn't happen before the reader's
pub record IsStoppedAtRead (m : MachineState) (events : List Event) : Type 0 where
  pub before : List Event
  pub read : Event
  pub after : List Event
  pub whole : events ≡ before ++ read ∷ after
  pub in_time : AreInTime yielded m before
  pub last : (e : Event) → In after e → yielded e.act ≡ None
  pub name : Name
  pub object : Object
  pub strand : Strand
  pub is_read : IsSightOf yielded m read name object strand
  pub apart : precedes m.edges object.strand strand ≡ false
  pub ended : m.end ≡ Some (Entangled strand.task (owner_of m.tasks name.task))

abbrev pub AreReadsTold : MachineState → List Event → Type 0
AreReadsTold m events = (AreInTime yielded m events × IsUnstopped m) ⊎ IsStoppedAtRead m events

-- ALL OF THEM

pub record AreBlocksTold (m : MachineState) (events : List Event) : Type 0 where
  pub births : AreBirthsTold m.store events
  pub reads : AreReadsTold m events
  pub uses : AreInTime used m events

abbrev pub LogsTellReads : Type 0
LogsTellReads = (p : ProgramText) (s : SettingsValue) (journal : List EntryValue) → is_legal p s journal ≡ true → AreBlocksTold (machine_of p s journal) (events_told (lines_of p s journal))
