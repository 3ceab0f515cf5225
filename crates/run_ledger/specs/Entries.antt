-- Entries: which are refused and why, and what the others change.
use Rattle.std.specs.Prelude.{ℕ, ◌+◌, ◌==◌, ◌&&◌, not, Bool, true, false, Option, Some, None, List, [], ◌∷◌, ◌++◌, slice_get, if◌then◌else◌, nat_lt, nat_le, min, is_some, is_none}
use Rattle.run_ledger.specs.Common.{Kind, Took, Ran, Chunk, Begin, End, PutOff, Mark, More, Sweep, Fuel, EntryValue, SettingsValue, ProgramText, asked, is_running, is_waiting, option_is}
use Rattle.run_ledger.specs.declared.data.Heap.{Heap}
use Rattle.run_ledger.specs.declared.data.Ledger.{Ledger}
use Rattle.run_ledger.specs.declared.data.RunEnd.TheVariants.{Fuel as FuelEnd, Pool}
use Rattle.run_ledger.specs.declared.data.Refused.{Refused}
use Rattle.run_ledger.specs.declared.data.Refused.TheVariants.{Over, Spent, NoWorker, NotReady, Holding, NotOut, Collecting, NotCollecting, NotWaiting, Swept, Marking, NotMarking, Long, Due, NotNeeded, NotDue, PoolShort, PoolEnough, Marked, Left, Count, NotSpent}
use Rattle.run_ledger.specs.Heaps.{chunk_words, units, is_small_size, heap_of, with_heap, words_in, in_use, within, take_of, collected, end_numbers, marked_in, left_in, swept_heap, sweep_number}
use Rattle.run_ledger.specs.Steps.{task_steps, on_asked, is_due, is_in_need, most_steps, standing}

-- WHICH WORKER HOLDS WHICH TASK

-- the task runs and nobody holds it
abbrev pub is_ready : Ledger → ℕ → Bool
is_ready l t = is_running (slice_get l.machine.tasks t) && is_none (heap_of l t).worker

-- the task runs and the worker holds it
abbrev pub is_out : Ledger → ℕ → ℕ → Bool
is_out l w t = is_running (slice_get l.machine.tasks t) && option_is (heap_of l t).worker w

-- the first task, from the task t on, that the worker holds
abbrev pub out_from : ℕ → ℕ → List Heap → Option ℕ
out_from w t [] = None
out_from w t (h ∷ hs) = if option_is h.worker w then Some t else out_from w (t + 1) hs

-- CAUSES IN THEIR ORDER

-- refused for this cause unless the test holds, or if it holds; otherwise what follows decides
abbrev pub refused_unless : Bool → Refused → Option Refused → Option Refused
refused_unless test cause rest = if test then rest else Some cause

abbrev pub refused_if : Bool → Refused → Option Refused → Option Refused
refused_if test cause rest = if test then Some cause else rest

-- refused if the worker holds this task already
abbrev pub refused_holding : Option ℕ → Option Refused → Option Refused
refused_holding None rest = rest
refused_holding (Some t) rest = Some (Holding t)

-- a number has its right value
abbrev pub unless_wrong_number : ℕ → ℕ → Option Refused → Option Refused
unless_wrong_number said is rest = refused_unless (said == is) (Count said is) rest

-- the worker holds the task t, which is in no leaf collection
abbrev pub on_running : Ledger → ℕ → ℕ → Option Refused → Option Refused
on_running l w t rest = refused_unless (is_out l w t) NotOut (refused_if (is_some (heap_of l t).begun) Collecting rest)

-- the task t waits, and its heap wasn't swept since its last fork
abbrev pub on_waiting : Ledger → ℕ → Option Refused → Option Refused
on_waiting l t rest = refused_unless (is_waiting (slice_get l.machine.tasks t)) NotWaiting (refused_if (heap_of l t).swept Swept rest)

-- its heap is being marked
abbrev pub on_marking : Ledger → ℕ → Option Refused → Option Refused
on_marking l t rest = on_waiting l t (refused_unless (is_some (heap_of l t).marked) NotMarking rest)

-- a leaf collection of t is due
abbrev pub on_due : SettingsValue → ProgramText → Ledger → ℕ → Option Refused → Option Refused
on_due s p l t rest = refused_unless (is_due s p l t) (NotDue (heap_of l t).since) rest

-- enough chunks are free for a leaf collection of t
abbrev pub is_pool_enough : SettingsValue → Ledger → ℕ → Bool
is_pool_enough s l t = nat_le (in_use l + take_of l.machine (heap_of l t)) s.chunks

-- how many of k steps fit in one entry
abbrev pub long_at : ℕ → ℕ → Option Refused
long_at k m = refused_unless (nat_le k m) (Long m) None

-- the numbers in an entry that ends a leaf collection, and the right ones
abbrev pub ends_as : ℕ × ℕ × ℕ → ℕ × ℕ × ℕ → Option Refused
ends_as said is = unless_wrong_number said.0 is.0 (unless_wrong_number said.1 is.1 (unless_wrong_number said.2 is.2 None))

-- why an entry is refused because of its kind, or none
abbrev pub kind_refusal : ProgramText → SettingsValue → Ledger → ℕ → Kind → Option Refused
kind_refusal p s l w (Took t) = refused_unless (is_ready l t) NotReady (refused_holding (out_from w 0 l.heaps) None)
kind_refusal p s l w (Ran t k) = on_running l w t (long_at k (min most_steps (standing s p l t k)))
kind_refusal p s l w (Chunk t) =
    on_running l w t (refused_if (is_due s p l t) (Due (heap_of l t).since) (refused_unless (is_in_need p l t) (NotNeeded (heap_of l t).room) None))
kind_refusal p s l w (Begin t) = on_running l w t (on_due s p l t (refused_unless (is_pool_enough s l t) (PoolShort (in_use l)) None))
kind_refusal p s l w (End t taken given left) =
    refused_unless (is_out l w t) NotOut (refused_unless (is_some (heap_of l t).begun) NotCollecting (ends_as (taken, given, left) (end_numbers l.machine (heap_of l t))))
kind_refusal p s l w (PutOff t) = on_running l w t (on_due s p l t (refused_if (is_pool_enough s l t) (PoolEnough (in_use l)) None))
kind_refusal p s l w (Mark t) =
    on_waiting l t (refused_if (is_some (heap_of l t).marked) Marking (
    refused_unless (nat_le s.inner (words_in l.machine (heap_of l t))) (NotDue (words_in l.machine (heap_of l t))) None))
kind_refusal p s l w (More t n) = on_marking l t (refused_if (left_in (heap_of l t) == 0) Marked None)
kind_refusal p s l w (Sweep t given) =
    on_marking l t (refused_unless (left_in (heap_of l t) == 0) (Left (marked_in (heap_of l t))) (unless_wrong_number given (sweep_number l.machine (heap_of l t)) None))
kind_refusal p s l w Fuel = refused_unless (nat_le s.fuel l.steps) (NotSpent l.steps) None

abbrev pub is_fuel : Kind → Bool
is_fuel Fuel = true
is_fuel _ = false

-- the first cause for which an entry is refused, or none
abbrev pub refusal : ProgramText → SettingsValue → Ledger → EntryValue → Option Refused
refusal p s l e =
    refused_if (is_some l.end) Over (
    refused_if (nat_le s.fuel l.steps && not (is_fuel e.kind)) (Spent l.steps) (
    refused_unless (nat_lt e.worker s.workers) NoWorker (
    kind_refusal p s l e.worker e.kind)))

-- WHAT AN ENTRY CHANGES

-- the units of the chunk that the next step needs
abbrev pub chunk_units : Option ℕ → ℕ
chunk_units None = 1
chunk_units (Some w) = if is_small_size w then 1 else units w

-- one more chunk: an empty one for small objects, or one for the large object
abbrev pub with_chunk : Option ℕ → Heap → Heap
with_chunk next h =
    if on_asked next is_small_size
    then record h { chunks = h.chunks ++ [] ∷ []; room = chunk_words }
    else record h { reserved = chunk_units next }

-- a chunk was asked for: the run ends if too few are free
abbrev pub given_chunk : ProgramText → SettingsValue → Ledger → ℕ → Ledger
given_chunk p s l t =
    if nat_lt s.chunks (in_use l + chunk_units (asked p l.machine t))
    then record l { end = Some (Pool (in_use l)) }
    else with_heap l t (with_chunk (asked p l.machine t))

-- the accounts after an entry that isn't refused
abbrev pub after_kind : ProgramText → SettingsValue → Ledger → ℕ → Kind → Ledger
after_kind p s l w (Took t) = with_heap l t (λ h. record h { worker = Some w })
after_kind p s l w (Ran t k) = task_steps p l t k
after_kind p s l w (Chunk t) = given_chunk p s l t
after_kind p s l w (Begin t) = with_heap l t (λ h. record h { begun = Some (take_of l.machine h); survivors = within l t })
after_kind p s l w (End t taken given left) = with_heap l t (collected l.machine)
after_kind p s l w (PutOff t) = with_heap l t (λ h. record h { since = 0 })
after_kind p s l w (Mark t) = with_heap l t (λ h. record h { marked = Some 0 })
after_kind p s l w (More t n) = with_heap l t (λ h. record h { marked = Some (marked_in h + min n (left_in h)) })
after_kind p s l w (Sweep t given) = with_heap l t swept_heap
after_kind p s l w Fuel = record l { end = Some (FuelEnd l.steps) }

abbrev pub after : ProgramText → SettingsValue → Ledger → EntryValue → Ledger
after p s l e = after_kind p s l e.worker e.kind
