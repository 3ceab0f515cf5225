-- What holds of every whole run, in one law: nothing reachable is freed, reads are stopped if and only if they have to
-- be, and the heaps at rest hold exactly what the definitions say.
use Rattle.std.specs.Prelude.{◌≡◌, true, ◌↔◌, ◌++◌, ℕ, Option, Some, List, ◌∷◌, Contains}
use Rattle.command_answers.specs.Common.{ProgramText, Name, Object, MachineState, Task, object_at, can_step, run, IsStored, IsDecided, ReadsNext, EntryValue, SettingsValue, field_limit, Ledger, heap_of, held, held_in, IsPrefix, ledger_of, opening, tasks_of, IsDropped, KeepsReachable, Extras, Rests, IsModelObject, LiesWithOwner, In, Memory, object_name, objects, handed, Located, SharedValue, value_of}
use Rattle.command_answers.specs.declared.answer.Answer.{Answer}
use Rattle.command_answers.specs.Runs.{IsWholeRun}

-- after each prefix of a journal what is reached from what tasks hold is held, and so is each reference of what is
-- held; and what is held is what was allocated and not dropped by the end of a leaf collection or a sweep
pub record FreesNoReachable (p : ProgramText) (s : SettingsValue) (first : List EntryValue) : Type 0 where
  pub reachable : KeepsReachable (ledger_of p s first)
  pub undropped : (n : Name) → Contains (held (ledger_of p s first)) n ↔ (IsStored (ledger_of p s first).machine n × (IsDropped p s (opening p s) first n → ⊥))

-- the step of t after some of the journal's steps: it is taken, t runs and the machine continues; and if it reads a
-- reference, the read succeeds if and only if the strand of its target happens before the reader's, and is stopped
-- otherwise
pub record StopsUnordered (p : ProgramText) (m : MachineState) (t : ℕ) : Type 0 where
  pub taken : can_step m t ≡ true
  pub reads : (x : Task) (d : ℕ) (n : Name) (o : Object) → ReadsNext p m t x d n o → IsDecided p m t x d n o

-- the objects of a task's heap are exactly those of the names that the accounts hold for it, one for each, and each is
-- the object in the machine's store
pub record HeapIsHeld (v : Memory) (l : Ledger) (t : ℕ) : Type 0 where
  pub each : (o : Located) → In (objects v t) o → Contains (held_in (heap_of l t)) (object_name o)
  pub all : (n : Name) → Contains (held_in (heap_of l t)) n → (o : Located) × In (objects v t) o × (object_name o ≡ n)
  pub once : (o q : Located) → In (objects v t) o → In (objects v t) q → object_name o ≡ object_name q → o ≡ q
  pub contents : (o : Located) → In (objects v t) o → (x : Object) × (object_at l.machine.store (object_name o) ≡ Some x) × IsModelObject (LiesWithOwner v (handed l)) o x

-- a value is returned in which that holds of each task that no worker holds (after the run is done, of the root too)
pub record HeapsAreHeld (shared : Option SharedValue) (l : Ledger) : Type 0 where
  pub value : SharedValue
  pub is : shared ≡ Some value
  pub heaps : (t : ℕ) → Rests (handed l) t → HeapIsHeld (value_of value) l t

pub record HoldsHeadline (p : ProgramText) (s : SettingsValue) (journal : List EntryValue) (shared : Option SharedValue) : Type 0 where
  pub frees : (first : List EntryValue) → IsPrefix first journal → FreesNoReachable p s first
  pub stops : (before after : List ℕ) (t : ℕ) → tasks_of journal ≡ before ++ t ∷ after → StopsUnordered p (run p (field_limit s.version) before) t
  pub held : HeapsAreHeld shared (ledger_of p s journal)

-- THE HEADLINE, for every answer of a whole run. Its bytes and its status are specified by `IsWholeRun` itself
abbrev pub RunsHoldTheHeadline : Type 0
RunsHoldTheHeadline = (p : ProgramText) (s : SettingsValue) (extras : Extras) (a : Answer) → IsWholeRun p s extras a → HoldsHeadline p s a.journal a.shared
