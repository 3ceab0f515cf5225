-- One whole run without races determines all schedules.
use Rattle.std.specs.Prelude.{◌≡◌, ◌<◌, ◌++◌, ℕ, true, Some, None, List, []}
use Rattle.schedule_laws.specs.Common.{ProgramText, EntryValue, SettingsValue, field_limit, End, Done, can_step, parents, run, machine_of, tasks_of, accesses, IsReport}
use Rattle.schedule_laws.specs.Prints.{turns}
use Rattle.schedule_laws.specs.Ordered.{IsOrdered, SwapsContend}
use Rattle.schedule_laws.specs.SameResult.{SameResult}

-- a whole run in order: it ended by the return of main
pub record SpeaksUp (p : ProgramText) (limit : ℕ) (ts : List ℕ) : Type 0 where
  pub done : (run p limit ts).end ≡ Some Done
  pub ordered : IsOrdered p limit ts

-- THE LAW: every list of steps is a prefix of one with the same result
abbrev pub OneRunSpeaksForAll : Type 0
OneRunSpeaksForAll =
    (p : ProgramText) (limit : ℕ) (ts us : List ℕ) → SpeaksUp p limit ts → (more : List ℕ) × SameResult p limit ts (us ++ more)

-- so every run that ends has the same end; it isn't stopped and doesn't trap
abbrev pub EveryEndAgrees : Type 0
EveryEndAgrees =
    (p : ProgramText) (limit : ℕ) (ts us : List ℕ) (e : End) → SpeaksUp p limit ts → (run p limit us).end ≡ Some e → (e ≡ Done) × SameResult p limit ts us

-- and one that hasn't ended can continue, has taken fewer steps, and is in order so far
pub record CanGoOn (p : ProgramText) (limit : ℕ) (ts us : List ℕ) : Type 0 where
  pub t : ℕ
  pub can : can_step (run p limit us) t ≡ true
  pub fewer : turns p limit us < turns p limit ts
  pub ordered : IsOrdered p limit us

abbrev pub EveryRunGoesOn : Type 0
EveryRunGoesOn =
    (p : ProgramText) (limit : ℕ) (ts us : List ℕ) → SpeaksUp p limit ts → (run p limit us).end ≡ None → CanGoOn p limit ts us

-- over journals: if the machine of one is done, `races` reports no race of it, and no compare and swaps contend in it,
-- then the machine of every journal of the program with the same limit of fields agrees as soon as it has an end
abbrev pub JournalsAgree : Type 0
JournalsAgree =
    (p : ProgramText) (s s' : SettingsValue) (journal journal' : List EntryValue) (e : End)
    → let limit = field_limit s.version in
    let ts = tasks_of journal in
    let m = machine_of p s journal in
    field_limit s'.version ≡ limit → m.end ≡ Some Done → IsReport m.edges (accesses p limit ts) [] → (SwapsContend m.edges (accesses p limit ts) → ⊥) → (machine_of p s' journal').end ≡ Some e
    → (e ≡ Done) × SameResult p limit ts (tasks_of journal')

-- the law isn't vacuous: some program has a whole run in order, and another that ends, in which a task's parent has
-- another number
abbrev pub SomeRunSpeaksUp : Type 0
SomeRunSpeaksUp =
    (p : ProgramText) × (limit : ℕ) × (ts : List ℕ) × (us : List ℕ) × SpeaksUp p limit ts × ((run p limit us).end ≡ Some Done)
    × (t : ℕ) × (parents (run p limit ts).tasks t ≡ parents (run p limit us).tasks t → ⊥)
