-- What is found among the first acts of a log.
use Rattle.std.specs.Prelude.{◌≡◌, ◌≤◌, ◌<◌, ◌^◌, ◌↔◌, ℕ, Option, Some, List, length, map, slice_get}
use Rattle.std.specs.List.Sorted.{IsStrictlyIncreasing}
use Rattle.log_births.specs.Common.{In, WalkValue, IsWalked, LogTasks, Act, Event}
use Rattle.log_births.specs.declared.find.FindError.{FindError}
use Rattle.log_births.specs.declared.find.FindError.TheVariants.{TooLong, NoMemory}
use Rattle.log_births.specs.declared.findings.Finding.{Finding}
use Rattle.log_births.specs.declared.findings.Findings.{Findings}
use Rattle.log_births.specs.declared.lines.Lifetimes.{Lifetimes}
use Rattle.log_births.specs.Blocks.{born, released}
use Rattle.log_births.specs.Lines.{KnowAll}
use Rattle.log_births.specs.Findings.{IsEntangledRead, IsEntangledUse, IsStaleUse}

-- the log has as many acts as don't fit
abbrev pub IsTooLong : List Event → FindError → Type 0
IsTooLong events TooLong = 2 ^ 32 ≤ length events
IsTooLong events NoMemory = Unit {0}

-- one act at most does this to a block
abbrev pub IsDoneOnce : (Act → Option ℕ) → List Event → Type 0
IsDoneOnce does events = (b m n : ℕ) (e f : Event) → slice_get events m ≡ Some e → slice_get events n ≡ Some f → does e.act ≡ Some b → does f.act ≡ Some b → m ≡ n

-- the walk is that of the log's graph, and all births and releases are known
pub record IsScene (tasks : LogTasks) (events : List Event) (walk : WalkValue) (known : Lifetimes) : Type 0 where
  pub walked : IsWalked walk
  pub turns : walk.tasks ≡ tasks.turns
  pub ascending : IsStrictlyIncreasing tasks.numbers
  pub size : length tasks.known ≡ length tasks.numbers
  pub born_once : IsDoneOnce born events
  pub released_once : IsDoneOnce released events
  pub all : KnowAll tasks walk.order events (length events) known

-- just those that are so, of the acts below n
pub record AreJustBelow (Is : Finding → Type 0) (n : ℕ) (found : List Finding) : Type 0 where
  pub ascending : IsStrictlyIncreasing (map (λ f. f.line) found)
  pub are : (f : Finding) → In found f ↔ ((f.line < n) × Is f)

pub record AreFoundBelow (events : List Event) (tasks : LogTasks) (n : ℕ) (found : Findings) : Type 0 where
  pub reads : AreJustBelow (IsEntangledRead events tasks) n found.reads
  pub uses : AreJustBelow (IsEntangledUse events tasks) n found.uses
  pub stale : AreJustBelow (IsStaleUse events tasks) n found.stale
