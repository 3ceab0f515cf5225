-- The pace of inner collections: what a worker's next entry has to be if its previous one is an entry of steps.
use Rattle.std.specs.Prelude.{ℕ, ◌==◌, ◌&&◌, ◌||◌, not, Bool, true, false, Option, Some, None, List, [], ◌∷◌, ◌++◌, slice_get, slice_set, if◌then◌else◌, nat_le, replicate, is_none}
use Rattle.run_ledger.specs.Common.{Kind, Ran, Mark, More, Sweep, EntryValue, SettingsValue, ProgramText, Strand, Task, waits, strand_of}
use Rattle.run_ledger.specs.declared.data.Heap.{Heap}
use Rattle.run_ledger.specs.declared.data.Ledger.{Ledger}
use Rattle.run_ledger.specs.declared.data.Previous.{Previous}
use Rattle.run_ledger.specs.declared.data.Previous.TheVariants.{Other, Ran as RanBefore, Forked}
use Rattle.run_ledger.specs.declared.data.WorkerPace.{WorkerPace}
use Rattle.run_ledger.specs.declared.data.Owed.{Owed}
use Rattle.run_ledger.specs.declared.data.Owed.TheVariants.{Mark as OwesMark, More as OwesMore, Sweep as OwesSweep, Nothing}
use Rattle.run_ledger.specs.Heaps.{heap_of, words_in, left_in}
use Rattle.run_ledger.specs.Entries.{after, is_fuel}
use Rattle.run_ledger.specs.Journals.{opening}

-- FORKS, EACH NAMED BY THE STRAND THAT IT ENDED

abbrev pub waits_since : Option Task → ℕ → Bool
waits_since None joins = false
waits_since (Some x) joins = waits x.status && (x.joins == joins)

-- the task still waits on this fork
abbrev pub waits_on : Ledger → Strand → Bool
waits_on l fork = waits_since (slice_get l.machine.tasks fork.task) fork.joins

-- nobody has marked the heap, or marked and swept it, since the last fork
abbrev pub is_unmarked : Heap → Bool
is_unmarked h = is_none h.marked && not h.swept

-- the heap that waits on this fork isn't marked, and has enough words to be
abbrev pub is_to_mark : SettingsValue → Ledger → Strand → Bool
is_to_mark s l fork = waits_on l fork && (is_unmarked (heap_of l fork.task) && nat_le s.inner (words_in l.machine (heap_of l fork.task)))

-- a marking that began after this fork is neither abandoned nor swept
abbrev pub is_under_way : Ledger → Strand → Bool
is_under_way l fork = waits_on l fork && not (heap_of l fork.task).swept

-- WHAT IS OWED

abbrev pub more_of : Ledger → ℕ → Owed
more_of l t = if left_in (heap_of l t) == 0 then OwesSweep t else OwesMore t

-- of these markings, the first that is under way goes on: something is left to mark, or the heap is to be swept
abbrev pub owed_to_marks : Ledger → List Strand → Owed
owed_to_marks l [] = Nothing
owed_to_marks l (fork ∷ forks) = if is_under_way l fork then more_of l fork.task else owed_to_marks l forks

-- after steps that forked, the heap that now waits is marked first, if it is to be marked; after any steps, the
-- worker's last marking that is under way goes on
abbrev pub owed_after : SettingsValue → Ledger → List Strand → Previous → Owed
owed_after s l marks Other = Nothing
owed_after s l marks RanBefore = owed_to_marks l marks
owed_after s l marks (Forked fork) = if is_to_mark s l fork then OwesMark fork.task else owed_to_marks l marks

-- what the worker's next entry has to be
abbrev pub owed : SettingsValue → Ledger → WorkerPace → Owed
owed s l x = owed_after s l x.marks x.previous

-- THE RECORD OF EACH WORKER

abbrev pub idle : WorkerPace
idle = record { previous = Other; marks = [] }

abbrev pub or_idle : Option WorkerPace → WorkerPace
or_idle None = idle
or_idle (Some x) = x

abbrev pub pace_of : List WorkerPace → ℕ → WorkerPace
pace_of pace w = or_idle (slice_get pace w)

abbrev pub pace_opening : SettingsValue → List WorkerPace
pace_opening s = replicate s.workers idle

-- steps of t were made: they forked it if it waits now
abbrev pub previous_by : ℕ → Option Task → Previous
previous_by t None = RanBefore
previous_by t (Some x) = if waits x.status then Forked (strand_of t x) else RanBefore

abbrev pub fork_of : ℕ → Option Task → List Strand
fork_of t None = []
fork_of t (Some x) = strand_of t x ∷ []

-- the record of the worker after its entry, by the accounts after it
abbrev pub pace_noted : Ledger → WorkerPace → Kind → WorkerPace
pace_noted l x (Ran t k) = record x { previous = previous_by t (slice_get l.machine.tasks t) }
pace_noted l x (Mark t) = record { previous = Other; marks = fork_of t (slice_get l.machine.tasks t) ++ x.marks }
pace_noted l x _ = record x { previous = Other }

abbrev pub pace_after : Ledger → List WorkerPace → EntryValue → List WorkerPace
pace_after l pace e = slice_set pace e.worker (pace_noted l (pace_of pace e.worker) e.kind)

-- PACED JOURNALS

-- how many objects are marked at once
abbrev pub marked_at_once : ℕ
marked_at_once = 64

abbrev pub is_mark_of : ℕ → Kind → Bool
is_mark_of t (Mark u) = u == t
is_mark_of t _ = false

abbrev pub is_more_of : ℕ → Kind → Bool
is_more_of t (More u n) = (u == t) && (n == marked_at_once)
is_more_of t _ = false

abbrev pub is_sweep_of : ℕ → Kind → Bool
is_sweep_of t (Sweep u given) = u == t
is_sweep_of t _ = false

-- an entry gives what is owed
abbrev pub gives : Owed → Kind → Bool
gives (OwesMark t) kind = is_mark_of t kind
gives (OwesMore t) kind = is_more_of t kind
gives (OwesSweep t) kind = is_sweep_of t kind
gives Nothing kind = true

-- each entry gives what its worker owes by the accounts just before it, or ends the run because the fuel is used up
abbrev pub is_paced_from : ProgramText → SettingsValue → Ledger → List WorkerPace → List EntryValue → Bool
is_paced_from p s l pace [] = true
is_paced_from p s l pace (e ∷ es) =
    (is_fuel e.kind || gives (owed s l (pace_of pace e.worker)) e.kind)
    && is_paced_from p s (after p s l e) (pace_after (after p s l e) pace e) es

abbrev pub is_paced : ProgramText → SettingsValue → List EntryValue → Bool
is_paced p s journal = is_paced_from p s (opening p s) (pace_opening s) journal

abbrev pub pace_after_all : ProgramText → SettingsValue → Ledger → List WorkerPace → List EntryValue → List WorkerPace
pace_after_all p s l pace [] = pace
pace_after_all p s l pace (e ∷ es) = pace_after_all p s (after p s l e) (pace_after (after p s l e) pace e) es

-- the record of each worker after a journal
abbrev pub pace_at_end : ProgramText → SettingsValue → List EntryValue → List WorkerPace
pace_at_end p s journal = pace_after_all p s (opening p s) (pace_opening s) journal
