-- What is recorded of a heap: its survivors as a leaf collection begins, and its snapshot as its task forks.
use Rattle.std.specs.Prelude.{◌≡◌, ◌==◌, ℕ, Bool, true, false, List, [], ◌∷◌, ◌++◌, slice_get, Contains, is_some}
use Rattle.std.specs.List.{IsDistinct}
use Rattle.journal_laws.specs.Common.{Kind, Ran, Begin, EntryValue, SettingsValue, ProgramText, Name, is_waiting, Ledger, is_name, heap_of, held_in, within, ledger_of, is_legal}

-- an entry begins a leaf collection of t
abbrev pub begins : ℕ → Kind → Bool
begins t (Begin u) = u == t
begins t _ = false

-- an entry is of steps of t
abbrev pub is_of_steps : ℕ → Kind → Bool
is_of_steps t (Ran u k) = u == t
is_of_steps t _ = false

-- none of these entries passes the test
abbrev pub HasNone : (Kind → Bool) → List EntryValue → Type 0
HasNone test entries = (e : EntryValue) → Contains entries e → test e.kind ≡ false

-- the last entry of a journal that began a leaf collection of t: the survivors are what was reachable within its heap
-- just before
pub record BeganWith (p : ProgramText) (s : SettingsValue) (journal : List EntryValue) (t : ℕ) : Type 0 where
  pub before : List EntryValue
  pub worker : ℕ
  pub rest : List EntryValue
  pub is : journal ≡ before ++ record { worker = worker; kind = Begin t } ∷ rest
  pub last : HasNone (begins t) rest
  pub survivors : (heap_of (ledger_of p s journal) t).survivors ≡ within (ledger_of p s before) t

abbrev pub SurvivorsAreWithin : Type 0
SurvivorsAreWithin =
    (p : ProgramText) (s : SettingsValue) (journal : List EntryValue) (t : ℕ) → is_legal p s journal ≡ true
    → is_some (heap_of (ledger_of p s journal) t).begun ≡ true → BeganWith p s journal t

-- the last entry of steps of t, which has waited since: the snapshot is what was reachable within its heap just after
pub record ForkedWith (p : ProgramText) (s : SettingsValue) (journal : List EntryValue) (t : ℕ) : Type 0 where
  pub before : List EntryValue
  pub worker : ℕ
  pub steps : ℕ
  pub rest : List EntryValue
  pub is : journal ≡ before ++ record { worker = worker; kind = Ran t steps } ∷ rest
  pub last : HasNone (is_of_steps t) rest
  pub snapshot : (heap_of (ledger_of p s journal) t).snapshot ≡ within (ledger_of p s (before ++ record { worker = worker; kind = Ran t steps } ∷ [])) t

abbrev pub SnapshotsAreWithin : Type 0
SnapshotsAreWithin =
    (p : ProgramText) (s : SettingsValue) (journal : List EntryValue) (t : ℕ) → is_legal p s journal ≡ true
    → is_waiting (slice_get (ledger_of p s journal).machine.tasks t) ≡ true → ForkedWith p s journal t

-- the snapshot of a task that waits has each name once, and all of it is held in its heap
pub record HoldsSnapshot (l : Ledger) (t : ℕ) : Type 0 where
  pub once : IsDistinct is_name (heap_of l t).snapshot
  pub held : (n : Name) → Contains (heap_of l t).snapshot n → Contains (held_in (heap_of l t)) n

abbrev pub SnapshotsAreHeld : Type 0
SnapshotsAreHeld =
    (p : ProgramText) (s : SettingsValue) (journal : List EntryValue) (t : ℕ) → is_legal p s journal ≡ true
    → let l = ledger_of p s journal in is_waiting (slice_get l.machine.tasks t) ≡ true → HoldsSnapshot l t
