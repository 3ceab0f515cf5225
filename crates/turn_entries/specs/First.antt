-- What comes before the entry that a worker came for: w is the value that was taken, and after the value once capacity
-- was reserved for an entry, if one is to be made.
use Rattle.std.specs.Prelude.{◌≡◌, ℕ, true, false, Option, Some, None}
use Rattle.turn_entries.specs.Common.{Kind, Fuel, Mark, More, Sweep, marked_at_once, heap_of, sweep_number, Nothing, SharedValue, accounts}
use Rattle.entry_calls.specs.below.run_ledger.{Mark as OwesMark, More as OwesMore, Sweep as OwesSweep}
use Rattle.turn_entries.specs.declared.act.TurnOutcome.{TurnOutcome}
use Rattle.turn_entries.specs.declared.between_turns.Ready.{Ready}
use Rattle.turn_entries.specs.declared.first.First.{First}
use Rattle.turn_entries.specs.declared.first.First.TheVariants.{Over, OutOfMemory, Fuel as IsFuel, Mark as IsMark, More as IsMore, Sweep as IsSweep}
use Rattle.turn_entries.specs.Acts.{Acts}
use Rattle.turn_entries.specs.Next.{brought_kind, is_out_of_memory, next_kind}
use Rattle.turn_entries.specs.Values.{MayEnd, MayEnter, is_over, NoEntryMade}

-- this entry comes next, and capacity was reserved for it
pub record ComesNow (w after : SharedValue) (k : ℕ) (ready : Ready) (kind : Option Kind) : Type 0 where
  pub next : next_kind w k ready ≡ kind
  pub on : is_over w ≡ false
  pub met : is_out_of_memory ready ≡ false
  pub same : after ≡ record w { journal = record { items = w.journal.items; room = after.journal.room } }

-- the run is over; an allocation failed; the run ends without fuel; the worker pays what it owes; or nothing comes
-- first
abbrev pub ComesFirst : SharedValue → SharedValue → ℕ → Ready → Option First → Type 0
ComesFirst w after k ready (Some Over) = (after ≡ w) × (is_over w ≡ true)
ComesFirst w after k ready (Some OutOfMemory) = is_over w ≡ false
ComesFirst w after k ready (Some IsFuel) = ComesNow w after k ready (Some Fuel) × MayEnd after k
ComesFirst w after k ready (Some (IsMark t)) = ComesNow w after k ready (Some (Mark t)) × MayEnter after k (OwesMark t)
ComesFirst w after k ready (Some (IsMore t)) = ComesNow w after k ready (Some (More t marked_at_once)) × MayEnter after k (OwesMore t)
ComesFirst w after k ready (Some (IsSweep t)) = ComesNow w after k ready (Some (Sweep t (sweep_number (accounts after).machine (heap_of (accounts after) t)))) × MayEnter after k (OwesSweep t)
ComesFirst w after k ready None = ComesNow w after k ready (brought_kind after ready) × MayEnter after k Nothing

-- it comes first after some value that was taken
abbrev pub HasFirst : SharedValue → ℕ → Ready → First → Type 0
HasFirst after k ready first = (w : SharedValue) × ComesFirst w after k ready (Some first)

-- the worker does it, up to the value last
abbrev pub ActsFirst : SharedValue → SharedValue → ℕ → Ready → First → TurnOutcome → Type 0
ActsFirst after last k ready first acted = (w : SharedValue) → NoEntryMade w after → ComesFirst w after k ready (Some first) → Acts w last k ready acted
