-- What holds of the deltas of a journal.
use Rattle.std.specs.Prelude.{◌≡◌, ℕ, true, None, List, [], ◌∷◌}
use Rattle.delta_laws.specs.Common.{ProgramText, IsProgram, Name, start, EntryValue, SettingsValue, field_limit, holds_name, opening, is_legal, ledger_of, now_free, deltas}
use Rattle.delta_laws.specs.Put.{seen, nothing_seen, put_deltas}
use Rattle.delta_laws.specs.Told.{told, told_by, stands, holds_told, names_held_by}
use Rattle.delta_laws.specs.Holdings.{holdings, nothing_held, held_after}

-- put together one after the other, the deltas of a journal give the outputs and, for each name, the object with what its
-- fields hold, as the journal's accounts have them. The deltas of its first entries are the first of its deltas, so this
-- holds after each entry
abbrev pub DeltasGiveObjects : Type 0
DeltasGiveObjects =
    (p : ProgramText) (s : SettingsValue) (journal : List EntryValue) (n : Name)
    → put_deltas n nothing_seen (deltas p (field_limit s.version) journal) ≡ seen (ledger_of p s journal).machine n

-- behind where the first task starts, the deltas of a legal journal tell of each task that was made, and of no other,
-- where it stands, its line and what it holds, as the journal's accounts have them
abbrev pub DeltasGiveTasks : Type 0
DeltasGiveTasks =
    (p : ProgramText) (s : SettingsValue) (journal : List EntryValue) (t : ℕ) → is_legal p s journal ≡ true
    → told_by t (told t None (now_free p (start p (field_limit s.version)) 0)) (deltas p (field_limit s.version) journal) ≡ stands p (ledger_of p s journal) t

-- a name is among those that the deltas of a legal journal last told that a task holds if and only if, by the journal's
-- accounts, it stands in a register of the task's frames or, once the task has ended, in its result
abbrev pub DeltasGiveRoots : Type 0
DeltasGiveRoots =
    (p : ProgramText) (s : SettingsValue) (journal : List EntryValue) (t : ℕ) (n : Name) → is_legal p s journal ≡ true
    → holds_name (holds_told (told_by t (told t None (now_free p (start p (field_limit s.version)) 0)) (deltas p (field_limit s.version) journal))) n
    ≡ holds_name (names_held_by (ledger_of p s journal).machine t) n

-- put together one after the other, what the entries of a legal journal tell gives what each heap holds, as the journal's
-- accounts have it: its chunks with the objects in each, its large objects, and the chunks that wait for objects. And it
-- gives the marking that goes on there: of which objects it is, and how many of them are marked
abbrev pub DeltasGiveHoldings : Type 0
DeltasGiveHoldings =
    (p : ProgramText) (s : SettingsValue) (journal : List EntryValue) → IsProgram p → is_legal p s journal ≡ true
    → held_after p s (opening p s) (nothing_held ∷ []) journal ≡ holdings (ledger_of p s journal)
