-- Which entry a worker makes in its turn.
use Rattle.std.specs.Prelude.{ℕ, ◌+◌, ◌==◌, ◌||◌, Bool, true, false, Option, Some, None, if◌then◌else◌, nat_le}
use Rattle.turn_entries.specs.Common.{Kind, Took, Ran, Chunk, Begin, End, PutOff, Fuel, Mark, More, Sweep, Owed, Nothing, is_pool_enough, heap_of, sweep_number, marked_at_once, Private, Paused, Due, NeedChunk, Shared, Spent, SharedValue, accounts, owed_by}
use Rattle.entry_calls.specs.below.run_ledger.{Mark as OwesMark, More as OwesMore, Sweep as OwesSweep}
use Rattle.turn_entries.specs.declared.between_turns.Ready.{Ready}
use Rattle.turn_entries.specs.declared.between_turns.Ready.TheVariants.{Paused as HasPaused, Copied as IsCopied, Found, OutOfMemory}
use Rattle.turn_entries.specs.Values.{is_over}

-- a part's fresh steps come before anything else
abbrev pub after_steps : Private → Kind → Kind
after_steps part kind = if part.fresh == 0 then kind else Ran part.task part.fresh

-- a due collection is put off if too few chunks are free for it
abbrev pub due_kind : SharedValue → ℕ → Kind
due_kind w t = if is_pool_enough w.settings (accounts w) t then Begin t else PutOff t

-- the entry that a part's steps have paused for
abbrev pub paused_kind : SharedValue → Private → Paused → Kind
paused_kind w part Shared = Ran part.task (part.fresh + 1)
paused_kind w part Spent = Ran part.task part.fresh
paused_kind w part Due = after_steps part (due_kind w part.task)
paused_kind w part NeedChunk = after_steps part (Chunk part.task)

-- the entry for which a worker comes; none if it has found no task, or an allocation has failed
abbrev pub brought_kind : SharedValue → Ready → Option Kind
brought_kind w (HasPaused part why) = Some (paused_kind w part why)
brought_kind w (IsCopied c) = Some (End c.part.task c.moved.taken c.moved.given c.moved.left)
brought_kind w (Found (Some t)) = Some (Took t)
brought_kind w (Found None) = None
brought_kind w OutOfMemory = None

-- what the worker owes comes before that
abbrev pub owing_kind : SharedValue → Owed → Ready → Option Kind
owing_kind w (OwesMark t) ready = Some (Mark t)
owing_kind w (OwesMore t) ready = Some (More t marked_at_once)
owing_kind w (OwesSweep t) ready = Some (Sweep t (sweep_number (accounts w).machine (heap_of (accounts w) t)))
owing_kind w Nothing ready = brought_kind w ready

-- and the end without fuel before all
abbrev pub going_kind : SharedValue → ℕ → Ready → Option Kind
going_kind w k ready = if nat_le w.settings.fuel (accounts w).steps then Some Fuel else owing_kind w (owed_by w k) ready

abbrev pub is_out_of_memory : Ready → Bool
is_out_of_memory (HasPaused part why) = false
is_out_of_memory (IsCopied c) = false
is_out_of_memory (Found task) = false
is_out_of_memory OutOfMemory = true

-- THE NEXT ENTRY of a worker that brings this: none if the run is over, or an allocation has failed
abbrev pub next_kind : SharedValue → ℕ → Ready → Option Kind
next_kind w k ready = if is_over w || is_out_of_memory ready then None else going_kind w k ready
