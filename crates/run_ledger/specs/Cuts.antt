-- What the tests of legal and of paced journals mean, and how journals are cut.
use Rattle.std.specs.Prelude.{◌≡◌, ◌↔◌, ◌⊎◌, ◌+◌, ◌≤◌, true, List, [], ◌∷◌, ◌++◌, Some, None, length, ℕ}
use Rattle.run_ledger.specs.Common.{EntryValue, SettingsValue, ProgramText, Ran, Mark, More, Sweep}
use Rattle.run_ledger.specs.declared.data.RefusedAt.{RefusedAt}
use Rattle.run_ledger.specs.declared.data.Ledger.{Ledger}
use Rattle.run_ledger.specs.declared.data.Owed.{Owed}
use Rattle.run_ledger.specs.declared.data.Owed.TheVariants.{Mark as OwesMark, More as OwesMore, Sweep as OwesSweep, Nothing}
use Rattle.run_ledger.specs.Heaps.{heap_of, sweep_number}
use Rattle.run_ledger.specs.Entries.{refusal, is_fuel, kind_refusal}
use Rattle.run_ledger.specs.Journals.{after_all, ledger_of, is_legal, is_legal_from, first_refused}
use Rattle.run_ledger.specs.Pace.{gives, owed, pace_of, pace_at_end, is_paced, marked_at_once}

-- CUTS AND REFUSALS

-- wherever a journal is cut, the accounts of the whole continue those of its first part, and so does legality
pub record AccountsGoOn (p : ProgramText) (s : SettingsValue) (first rest : List EntryValue) : Type 0 where
  pub accounts : ledger_of p s (first ++ rest) ≡ after_all p s (ledger_of p s first) rest
  pub legal : (is_legal p s (first ++ rest) ≡ true) ↔ ((is_legal p s first ≡ true) × (is_legal_from p s (ledger_of p s first) rest ≡ true))

abbrev pub JournalsCanBeCut : Type 0
JournalsCanBeCut = (p : ProgramText) (s : SettingsValue) (first rest : List EntryValue) → AccountsGoOn p s first rest

-- if an entry isn't refused, the same entry with fewer steps isn't either
abbrev pub FewerStepsAreLegal : Type 0
FewerStepsAreLegal =
    (p : ProgramText) (s : SettingsValue) (l : Ledger) (w t j k : ℕ) → j ≤ k → refusal p s l (record { worker = w; kind = Ran t k }) ≡ None
    → refusal p s l (record { worker = w; kind = Ran t j }) ≡ None

-- the entry found as the first refused one: those before it are a legal journal, after which it is refused for the
-- cause that is named; its number counts from 1
pub record IsFirstRefused (p : ProgramText) (s : SettingsValue) (journal : List EntryValue) (r : RefusedAt) : Type 0 where
  pub before : List EntryValue
  pub entry : EntryValue
  pub rest : List EntryValue
  pub is : journal ≡ before ++ entry ∷ rest
  pub legal : is_legal p s before ≡ true
  pub cause : refusal p s (ledger_of p s before) entry ≡ Some r.cause
  pub index : r.index ≡ length before + 1

-- there is a first refused entry if and only if the journal isn't legal
pub record FindsRefused (p : ProgramText) (s : SettingsValue) (journal : List EntryValue) : Type 0 where
  pub none : (first_refused p s journal ≡ None) ↔ (is_legal p s journal ≡ true)
  pub some : (r : RefusedAt) → first_refused p s journal ≡ Some r → IsFirstRefused p s journal r

abbrev pub FirstRefusedIsFirst : Type 0
FirstRefusedIsFirst = (p : ProgramText) (s : SettingsValue) (journal : List EntryValue) → FindsRefused p s journal

-- PACED JOURNALS

-- wherever a journal is cut before an entry, that entry ends the run because the fuel is used up, or gives what its
-- worker owes after the entries before it
abbrev pub Paced : ProgramText → SettingsValue → List EntryValue → Type 0
Paced p s journal =
    (before : List EntryValue) (e : EntryValue) (rest : List EntryValue) → journal ≡ before ++ e ∷ rest
    → (is_fuel e.kind ≡ true) ⊎ (gives (owed s (ledger_of p s before) (pace_of (pace_at_end p s before) e.worker)) e.kind ≡ true)

abbrev pub PacedIsMeant : Type 0
PacedIsMeant = (p : ProgramText) (s : SettingsValue) (journal : List EntryValue) → (is_paced p s journal ≡ true) ↔ Paced p s journal

-- a paced journal with one more entry is paced if that entry ends the run because the fuel is used up, or gives what is
-- owed
abbrev pub PaceGoesOn : Type 0
PaceGoesOn =
    (p : ProgramText) (s : SettingsValue) (journal : List EntryValue) (e : EntryValue) → is_paced p s journal ≡ true
    → (is_fuel e.kind ≡ true) ⊎ (gives (owed s (ledger_of p s journal) (pace_of (pace_at_end p s journal) e.worker)) e.kind ≡ true) → is_paced p s (journal ++ e ∷ []) ≡ true

-- an entry that gives what is owed isn't refused because of its kind
abbrev pub CanBeGiven : ProgramText → SettingsValue → Ledger → ℕ → Owed → Type 0
CanBeGiven p s l w (OwesMark t) = kind_refusal p s l w (Mark t) ≡ None
CanBeGiven p s l w (OwesMore t) = kind_refusal p s l w (More t marked_at_once) ≡ None
CanBeGiven p s l w (OwesSweep t) = kind_refusal p s l w (Sweep t (sweep_number l.machine (heap_of l t))) ≡ None
CanBeGiven p s l w Nothing = Unit {0}

-- so the pace never asks for an entry that isn't legal
abbrev pub OwedCanBeGiven : Type 0
OwedCanBeGiven =
    (p : ProgramText) (s : SettingsValue) (journal : List EntryValue) (w : ℕ) → is_legal p s journal ≡ true
    → let l = ledger_of p s journal in CanBeGiven p s l w (owed s l (pace_of (pace_at_end p s journal) w))
