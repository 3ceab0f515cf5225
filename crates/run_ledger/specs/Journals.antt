-- Whole journals: their accounts, their end, their steps, and which of them are legal.
use Rattle.std.specs.Prelude.{◌≡◌, ℕ, ◌+◌, ◌&&◌, Bool, true, Option, Some, None, List, [], ◌∷◌, ◌++◌, length, replicate, is_none}
use Rattle.std.specs.List.{flat_map}
use Rattle.run_ledger.specs.Common.{Kind, Ran, EntryValue, SettingsValue, field_limit, ProgramText, MachineState, start, run}
use Rattle.run_ledger.specs.declared.data.Ledger.{Ledger}
use Rattle.run_ledger.specs.declared.data.RunEnd.{RunEnd}
use Rattle.run_ledger.specs.declared.data.Refused.{Refused}
use Rattle.run_ledger.specs.declared.data.Refused.TheVariants.{Short}
use Rattle.run_ledger.specs.declared.data.RefusedAt.{RefusedAt}
use Rattle.run_ledger.specs.Heaps.{fresh}
use Rattle.run_ledger.specs.Entries.{refusal, after}

-- ACCOUNTS

-- the accounts of a run before its first entry
abbrev pub opening : ProgramText → SettingsValue → Ledger
opening p s = record { machine = start p (field_limit s.version); heaps = fresh ∷ []; steps = 0; end = None }

abbrev pub after_all : ProgramText → SettingsValue → Ledger → List EntryValue → Ledger
after_all p s l [] = l
after_all p s l (e ∷ es) = after_all p s (after p s l e) es

-- the accounts of a journal
abbrev pub ledger_of : ProgramText → SettingsValue → List EntryValue → Ledger
ledger_of p s journal = after_all p s (opening p s) journal

-- how a journal ends, if it does: as its machine, without fuel, or without chunks
abbrev pub end_of : ProgramText → SettingsValue → List EntryValue → Option RunEnd
end_of p s journal = (ledger_of p s journal).end

-- STEPS

-- the tasks of an entry's steps
abbrev pub tasks_in : Kind → List ℕ
tasks_in (Ran t k) = replicate k t
tasks_in _ = []

-- the tasks of a journal's steps, in order
abbrev pub tasks_of : List EntryValue → List ℕ
tasks_of journal = flat_map (λ e. tasks_in e.kind) journal

-- the machine that never collects, after a journal's steps
abbrev pub machine_of : ProgramText → SettingsValue → List EntryValue → MachineState
machine_of p s journal = run p (field_limit s.version) (tasks_of journal)

-- LEGAL JOURNALS

-- no entry is refused after the entries before it
abbrev pub is_legal_from : ProgramText → SettingsValue → Ledger → List EntryValue → Bool
is_legal_from p s l [] = true
is_legal_from p s l (e ∷ es) = is_none (refusal p s l e) && is_legal_from p s (after p s l e) es

abbrev pub is_legal : ProgramText → SettingsValue → List EntryValue → Bool
is_legal p s journal = is_legal_from p s (opening p s) journal

-- the first part of a journal
abbrev pub IsPrefix : List EntryValue → List EntryValue → Type 0
IsPrefix first journal = (rest : List EntryValue) × (journal ≡ first ++ rest)

-- THE FIRST REFUSED ENTRY

abbrev pub refused_or : Option Refused → ℕ → Option RefusedAt → Option RefusedAt
refused_or None at rest = rest
refused_or (Some cause) at rest = Some (record { index = at; cause = cause })

-- the first refused entry, with entries numbered from this number on
abbrev pub first_refused_from : ProgramText → SettingsValue → Ledger → ℕ → List EntryValue → Option RefusedAt
first_refused_from p s l at [] = None
first_refused_from p s l at (e ∷ es) = refused_or (refusal p s l e) at (first_refused_from p s (after p s l e) (at + 1) es)

-- the first refused entry, numbered from 1, with its cause
abbrev pub first_refused : ProgramText → SettingsValue → List EntryValue → Option RefusedAt
first_refused p s journal = first_refused_from p s (opening p s) 1 journal

abbrev pub or_short : Option RefusedAt → Option RunEnd → ℕ → Option RefusedAt
or_short (Some r) end at = Some r
or_short None (Some e) at = None
or_short None None at = Some (record { index = at; cause = Short })

-- why a journal isn't one of a whole run: its first refused entry, or, if none is refused and it has no end, one past
-- its last entry with the cause `short`
abbrev pub refused_as_run : ProgramText → SettingsValue → List EntryValue → Option RefusedAt
refused_as_run p s journal = or_short (first_refused p s journal) (end_of p s journal) (length journal + 1)
