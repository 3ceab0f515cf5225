-- The first meaning of a part that fits: the machine after its fresh steps, and the addresses in the shared value of
-- its ancestors' names.
use Rattle.std.specs.Prelude.{ℕ, ◌==◌, Option, Some, None, List, [], ◌∷◌, if◌then◌else◌, is_none}
use Rattle.core_invariant.specs.Common.{Name, Ledger, heap_of, is_name, Addr, Located, own, Memory, object_name, objects, Private, Places, FitsNow as FitsMachine}
use Rattle.core_invariant.specs.SharedValue.{SharedValue, accounts, value_of}
use Rattle.core_invariant.specs.WorkerPartFits.{beyond}

-- the address of the first object of this name
abbrev pub find_at : List Located → Name → Option Addr
find_at [] n = None
find_at (o ∷ os) n = if is_name (object_name o) n then Some o.at else find_at os n

-- the addresses of the names that other tasks own, of those that no worker holds
abbrev pub above_of : Memory → Ledger → ℕ → Places
above_of v l t n = if own l n == t then None else (if is_none (heap_of l (own l n)).worker then find_at (objects v (own l n)) n else None)

-- the part fits the machine
abbrev pub FitsFirst : SharedValue → Private → Type 0
FitsFirst w p = FitsMachine w.program p (beyond w.program (accounts w) p).machine (above_of (value_of w) (accounts w) p.task)
