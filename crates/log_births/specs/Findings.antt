-- Reads and uses of blocks that come too early or too late.
use Rattle.std.specs.Prelude.{◌≡◌, ◌≢◌, ◌↔◌, ℕ, true, Option, Some, List, map, slice_get}
use Rattle.std.specs.List.Sorted.{IsStrictlyIncreasing}
use Rattle.log_births.specs.Common.{In, GraphStrand, tasks_in, StrandPrecedes, IsAttached, LogTasks, log_strand, is_known, Act, Event, event}
use Rattle.log_births.specs.declared.findings.Finding.{Finding}
use Rattle.log_births.specs.declared.findings.Findings.{Findings}
use Rattle.log_births.specs.Blocks.{born, released, yielded, used}

-- LINES

-- act n of the log, counted from 0 over all its files, is on strand u of the graph, and does this to block b
pub record DoesToBlock (does : Act → Option ℕ) (events : List Event) (tasks : LogTasks) (b n : ℕ) (u : GraphStrand) : Type 0 where
  pub act : Act
  pub at : slice_get events n ≡ Some (event (log_strand tasks.numbers u) act)
  pub block : does act ≡ Some b
  pub known : is_known tasks u ≡ true
  pub attached : IsAttached (tasks_in tasks.turns) u

-- WHAT IS FOUND

-- act `line` sees the block, whose birth, act `other`, doesn't happen before it
pub record IsEntangled (sees : Act → Option ℕ) (events : List Event) (tasks : LogTasks) (f : Finding) : Type 0 where
  pub birth : GraphStrand
  pub strand : GraphStrand
  pub born_there : DoesToBlock born events tasks f.block f.other birth
  pub seen_here : DoesToBlock sees events tasks f.block f.line strand
  pub not_before : StrandPrecedes (tasks_in tasks.turns) birth strand → ⊥

-- a read that yields the block
abbrev pub IsEntangledRead : List Event → LogTasks → Finding → Type 0
IsEntangledRead = IsEntangled yielded

-- an access of it
abbrev pub IsEntangledUse : List Event → LogTasks → Finding → Type 0
IsEntangledUse = IsEntangled used

-- act `line` accesses the block, whose release, act `other`, happens before it on another strand
pub record IsStaleUse (events : List Event) (tasks : LogTasks) (f : Finding) : Type 0 where
  pub release : GraphStrand
  pub strand : GraphStrand
  pub released_there : DoesToBlock released events tasks f.block f.other release
  pub used_here : DoesToBlock used events tasks f.block f.line strand
  pub before : StrandPrecedes (tasks_in tasks.turns) release strand
  pub apart : release ≢ strand

-- just those that are so, each once, in the order of their lines
pub record AreJust (Is : Finding → Type 0) (found : List Finding) : Type 0 where
  pub ascending : IsStrictlyIncreasing (map (λ f. f.line) found)
  pub are : (f : Finding) → In found f ↔ Is f

pub record AreFindings (events : List Event) (tasks : LogTasks) (found : Findings) : Type 0 where
  pub reads : AreJust (IsEntangledRead events tasks) found.reads
  pub uses : AreJust (IsEntangledUse events tasks) found.uses
  pub stale : AreJust (IsStaleUse events tasks) found.stale
