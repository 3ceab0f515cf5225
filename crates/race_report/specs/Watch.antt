-- The record of each field during a scan: the first access of each strand and kind until two race, then the race.
use Rattle.std.specs.Prelude.{ℕ, ◌&&◌, ◌||◌, not, Bool, true, false, Option, Some, None, List, [], ◌∷◌, ◌++◌, if◌then◌else◌}
use Rattle.std.specs.declared.cmp.Ordering.{Ordering}
use Rattle.std.specs.Ordering.{is_eq, nat_cmp, ordering_then}
use Rattle.run_journal.specs.below.hh_lang.{ProgramText}
use Rattle.run_journal.specs.below.hh_model.{MachineState, Strand, start, step}
use Rattle.race_report.specs.declared.data.Field.{Field}
use Rattle.race_report.specs.declared.data.FieldAccess.{FieldAccess}
use Rattle.race_report.specs.declared.data.Race.{Race}
use Rattle.race_report.specs.declared.data.Seen.{Seen}
use Rattle.race_report.specs.declared.data.Bound.{Bound}
use Rattle.race_report.specs.declared.data.Open.{Open}
use Rattle.race_report.specs.declared.data.Watch.{Watch}
use Rattle.race_report.specs.declared.data.Watch.TheVariants.{Open as Waits, Found}
use Rattle.race_report.specs.declared.data.Sight.{Sight}
use Rattle.race_report.specs.Accesses.{with_some}
use Rattle.race_report.specs.Sights.{looked_of}
use Rattle.race_report.specs.Ways.{has_alike}
use Rattle.race_report.specs.Labels.{allows, bound, joined_bound, label_of, label_precedes}

-- ACCESSES WITH LABELS

abbrev pub labelled : List Strand → Option FieldAccess → Option Seen
labelled label None = None
labelled label (Some a) = Some (record { access = a; label = label })

abbrev pub seen_of : Sight → ProgramText → MachineState → ℕ → Option Seen
seen_of sight p m t = labelled (label_of m.tasks t) (looked_of sight p m t)

abbrev pub seen_from : Sight → ProgramText → MachineState → List ℕ → List Seen
seen_from sight p m [] = []
seen_from sight p m (t ∷ ts) = with_some (seen_of sight p m t) (seen_from sight p (step p m t) ts)

abbrev pub seen : Sight → ProgramText → ℕ → List ℕ → List Seen
seen sight p limit ts = seen_from sight p (start p limit) ts

-- ONE FIELD

-- one of two accesses is a write, and not both are by `cas`
abbrev pub clash : FieldAccess → FieldAccess → Bool
clash u v = (u.writes || v.writes) && not (u.swaps && v.swaps)

-- two accesses of one field race, by their labels
abbrev pub clashes : Seen → Seen → Bool
clashes u v = clash u.access v.access && not (label_precedes u.label v.label)

-- the first of these accesses that races with v
abbrev pub first_clash : List Seen → Seen → Option Seen
first_clash [] v = None
first_clash (u ∷ us) v = if clashes u v then Some u else first_clash us v

-- adds an access to the bound, if it is one that the bound covers
abbrev pub bound_with : Bool → Bound → List Strand → Bound
bound_with true b label = joined_bound b.label b.strict label
bound_with false b label = b

abbrev pub with_first : Open → Seen → Open
with_first o v = record {
  earlier = o.earlier ++ v ∷ [];
  all = bound_with true o.all v.label;
  writes = bound_with v.access.writes o.writes v.label;
  plain = bound_with (not v.access.swaps) o.plain v.label;
  plain_writes = bound_with (v.access.writes && not v.access.swaps) o.plain_writes v.label;
}

-- adds an access; of each strand and kind the first is enough
abbrev pub with_access : Open → Seen → Open
with_access o v = if has_alike o.earlier v.access then o else with_first o v

-- the bound of all accesses that this one may race with
abbrev pub bound_for : Open → FieldAccess → Bound
bound_for o v = if v.writes then (if v.swaps then o.plain else o.all) else (if v.swaps then o.plain_writes else o.writes)

abbrev pub race_between : FieldAccess → FieldAccess → Race
race_between u v = record {
  task = v.field.name.task;
  count = v.field.name.count;
  is_ref = not v.field.is_number;
  index = v.field.index;
  first = (u.strand.task, u.line);
  second = (v.strand.task, v.line);
}

abbrev pub found_by : Option Seen → Open → Seen → Watch
found_by None o v = Waits (with_access o v)
found_by (Some u) o v = Found (race_between u.access v.access)

-- adds one access to the field's record
abbrev pub watch_with : Watch → Seen → Watch
watch_with (Found r) v = Found r
watch_with (Waits o) v = if allows (bound_for o v.access) v.label then Waits (with_access o v) else found_by (first_clash o.earlier v) o v

abbrev pub nothing_yet : Watch
nothing_yet = Waits (record { earlier = []; all = bound [] false; writes = bound [] false; plain = bound [] false; plain_writes = bound [] false })

abbrev pub watch_or_none : Option Watch → Watch
watch_or_none None = nothing_yet
watch_or_none (Some w) = w

-- ALL FIELDS

-- the key of a field: names in their order, then references before numbers, then the index
abbrev pub Key : Type 0
Key = (ℕ × ℕ) × (ℕ × ℕ)

abbrev pub kind_key : Bool → ℕ
kind_key false = 0
kind_key true = 1

abbrev pub key_of : Field → Key
key_of f = ((f.name.task, f.name.count), (kind_key f.is_number, f.index))

abbrev pub key_cmp : Key → Key → Ordering
key_cmp a b = ordering_then (ordering_then (nat_cmp a.0.0 b.0.0) (nat_cmp a.0.1 b.0.1)) (ordering_then (nat_cmp a.1.0 b.1.0) (nat_cmp a.1.1 b.1.1))

abbrev pub same_key : Key → Key → Bool
same_key a b = is_eq (key_cmp a b)

-- the record at a key, with one more access
abbrev pub watched_with : Key → Option Watch → Seen → Option Watch
watched_with q w v = if same_key (key_of v.access.field) q then Some (watch_with (watch_or_none w) v) else w

-- and with these accesses
abbrev pub watched_from : Key → Option Watch → List Seen → Option Watch
watched_from q w [] = w
watched_from q w (v ∷ vs) = watched_from q (watched_with q w v) vs

-- THE RACES FOUND

abbrev pub with_raced : Watch → List Race → List Race
with_raced (Found r) races = r ∷ races
with_raced (Waits o) races = races

abbrev pub races_in : List Watch → List Race
races_in [] = []
races_in (w ∷ ws) = with_raced w (races_in ws)
